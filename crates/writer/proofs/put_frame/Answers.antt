-- `put_frame` puts a select, the exchanges of the command and of the bytes, which are those of both, and a deselect.
use Rattle.std.proofs.Common.{ap, List, ◌∷◌, ◌++◌, ℕ, arith}
use Rattle.cells.specs.OutputLaws.{room_after, puts_as, puts_then}
use Rattle.kinds.specs.Kinds.{SELECT}
use Rattle.writer.specs.Writer.{clean_deselect}
use Rattle.writer.proofs.Laws.{length-exchanges, exchanges-append}
use Rattle.writer.proofs.put_frame.Goals as goal

pub put_exchanges-requires-2 : goal.put_exchanges-requires-2
put_exchanges-requires-2 c = omega (arith, room_after c.push.ensures, room_after c.put_exchanges.ensures, length-exchanges c.args.command.now)

pub put_deselect-requires : goal.put_deselect-requires
put_deselect-requires c =
    omega (arith, room_after c.push.ensures, room_after c.put_exchanges.ensures, room_after c.put_exchanges-2.ensures, length-exchanges c.args.command.now, length-exchanges c.args.bytes.now)

pub returns : goal.returns
returns c =
    puts_as (ap (λ (s : List ℕ). SELECT ∷ (s ++ clean_deselect)) (exchanges-append c.args.command.now c.args.bytes.now))
    (puts_then c.push.ensures (puts_then (puts_then c.put_exchanges.ensures c.put_exchanges-2.ensures) c.put_deselect.ensures))
