use Rattle.std.proofs.Common.{[], ◌≡◌, ◌+◌, ◌*◌, ◌∙◌, arith}
use Rattle.cells.specs.PutLaws.{put_length}
use Rattle.part.specs.Part.{setting}
use Rattle.script.specs.Heard.{some}
use Rattle.script.proofs.ReadLaws.{frame_rooms, reads_more}
use Rattle.script.proofs.rows.read_frames.Goals as goal

pub put_frame-end-requires : goal.put_frame-end-requires
put_frame-end-requires c =
    let there = c.in-Some.ensures in
    (there, c.requires.part.sectors, omega (arith, c.requires.part.some), omega (arith, there.ends, c.args.script.short, c.requires.part.some), omega (arith, c.loop-found.invariant.1, frame_rooms (setting c.args.sectors []) c.args.script.bytes.now c.args.mem.now c.args.script.fits c.requires.part.sectors c.loop-found.here c.in-Some.found.header c.in-Some.found.count there))

pub loop-found-preserved : goal.loop-found-preserved
loop-found-preserved c =
    let there = c.in-Some.ensures in
    let here = c.loop-found.here in
    let n = c.in-Some.found.count in
    let next : here + (3 + 2 * n) ≡ here + 3 + 2 * n = omega arith in (
      omega (arith, there.ends),
      rw next (omega (arith, c.loop-found.invariant.1, c.put_frame-end.ensures.end, put_length c.put_frame-end.ensures, frame_rooms (setting c.args.sectors []) c.args.script.bytes.now c.args.mem.now c.args.script.fits c.requires.part.sectors here c.in-Some.found.header n there)),
      put_length c.put_frame-end.ensures ∙ c.loop-found.invariant.2,
      λ area load held k f can. rw next (some (reads_more (setting c.args.sectors area) c.args.script.bytes.now c.args.mem.now c.args.script.fits c.requires.part.sectors can (c.loop-found.invariant.3 area load held k f can) c.in-Some.found.header n there c.put_frame-end.ensures)),
    )
