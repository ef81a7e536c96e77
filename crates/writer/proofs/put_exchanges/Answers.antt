use Rattle.std.proofs.Common.{ap, ℕ, List, [], ◌∷◌, ◌+◌, ◌<◌, ◌≤◌, get_or, drop, length, arith, drop_of_length-le}
use Rattle.cells.specs.declared.output.Output.{Output}
use Rattle.cells.specs.Output.{Putting, room}
use Rattle.kinds.specs.Kinds.{EXCHANGE}
use Rattle.cells.specs.OutputLaws.{room_after, puts_then, putting_starts, putting_fits, putting_more, putting_ends}
use Rattle.writer.specs.Writer.{exchanges_of}
use Rattle.writer.proofs.Laws.{length-exchanges, exchanges-next}
use Rattle.writer.proofs.put_exchanges.Goals as goal

-- the next exchange has room
fits : {o₀ o : Output} (bs : List ℕ) (i : ℕ) → Putting o₀ (exchanges_of bs) o (exchanges_of (drop i bs)) → i < length bs → 2 ≤ room o
fits bs i p h = putting_fits p (EXCHANGE ∷ get_or bs i 0 ∷ []) (exchanges_of (drop (i + 1) bs)) (exchanges-next bs i h)

pub loop-byte-init : goal.loop-byte-init
loop-byte-init c = putting_starts _ _ (omega (arith, length-exchanges c.args.bytes.now))

pub push-requires : goal.push-requires
push-requires c = omega (arith, fits _ _ c.loop-byte.invariant c.loop-byte-test.true)

pub push-requires-in-loop-byte : goal.push-requires-in-loop-byte
push-requires-in-loop-byte c = omega (arith, fits _ _ c.loop-byte.invariant c.loop-byte-test.true, room_after c.push.ensures)

pub loop-byte-preserved : goal.loop-byte-preserved
loop-byte-preserved c = putting_more c.loop-byte.invariant _ _ (exchanges-next _ _ c.loop-byte-test.true) (puts_then c.push.ensures c.push-in-loop-byte.ensures)

pub returns : goal.returns
unfolding exchanges_of
returns c = putting_ends c.loop-byte.invariant (ap exchanges_of (drop_of_length-le _ c.loop-byte-test.false))
