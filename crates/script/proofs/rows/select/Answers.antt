-- `script::rows::select` meets its contract. Frames that were read are a stretch; where there are none the select opens the frame (`heard-select`).
use Rattle.std.proofs.Common.{List, [], refl, sym, subst, ◌∙◌, ap, arith, ℕ}
use Rattle.cells.specs.Put.{Put}
use Rattle.cells.specs.PutLaws.{put_none}
use Rattle.part.specs.Part.{setting}
use Rattle.chip.specs.declared.Frame.{Frame}
use Rattle.chip.specs.Chip.{whole, blank_load}
use Rattle.script.proofs.HeardLaws.{heard-select, went_as}
use Rattle.script.proofs.ReadLaws.{reading_none, reading_some}
use Rattle.script.proofs.rows.select.Goals as goal

pub returns-then-not-can_read : goal.returns-then-not-can_read
returns-then-not-can_read c = λ area held.
    record {
      said = [];
      heard = heard-select (setting c.args.sectors area) c.args.script.bytes.now c.args.mem.now c.args.at (whole c.args.core c.args.frame c.args.load.now held) c.requires.0.more c.requires.1;
      stored = put_none _ _;
      further = omega arith;
    }

pub returns-then-reads-at : goal.returns-then-reads-at
returns-then-reads-at c = λ area held.
    let read = c.read_frames-reads.ensures area c.args.load.now held c.args.core c.args.frame (sym c.can_read.ensures ∙ c.if-not-can_read.false) in
    record {
      said = [];
      heard = heard-select (setting c.args.sectors area) c.args.script.bytes.now c.args.mem.now c.args.at (whole c.args.core c.args.frame c.args.load.now held) c.requires.0.more c.requires.1;
      stored = subst (λ (l : List ℕ). Put c.args.out.now c.args.pos [] c.args.pos l) (sym (reading_none read c.if-reads-at.true)) (put_none _ _);
      further = omega arith;
    }

pub returns : goal.returns
returns c = λ area held.
    let read = c.read_frames-reads.ensures area c.args.load.now held c.args.core c.args.frame (sym c.can_read.ensures ∙ c.if-not-can_read.false) in
    went_as refl (ap (λ (g : Frame). whole c.args.core g blank_load held) c.empty_frame.ensures) (reading_some read c.if-reads-at.false)
