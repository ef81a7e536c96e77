-- `put_piece` puts two frames and the ticks, one behind the other.
use Rattle.std.proofs.Common.{[], ◌∷◌, arith}
use Rattle.commands.specs.Table.{write_enable}
use Rattle.cells.specs.OutputLaws.{room_after, puts_then}
use Rattle.writer.proofs.Laws.{length-frame, length-frames}
use Rattle.writer.proofs.put_piece.Goals as goal

pub put_frame-requires-2 : goal.put_frame-requires-2
put_frame-requires-2 c = omega (arith, room_after c.put_frame.ensures, length-frame (write_enable ∷ []))

pub put_ticks-requires : goal.put_ticks-requires
put_ticks-requires c =
    omega (arith, room_after (puts_then c.put_frame.ensures (rw c.to_be_bytes.ensures at c.put_frame-2.ensures)), length-frames c.args.address c.args.bytes.now)

pub returns : goal.returns
returns c = puts_then (puts_then c.put_frame.ensures (rw c.to_be_bytes.ensures at c.put_frame-2.ensures)) c.put_ticks.ensures
