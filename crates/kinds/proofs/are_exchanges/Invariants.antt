-- `kinds::are_exchanges` meets its contract. What is gathered has the low byte 0 as long as the row goes on (`pair_longer`).
use Rattle.std.proofs.Common.{◌*◌, ◌%◌, ◌≡◌, eqb, leb, length, drop}
use Rattle.kinds.specs.Row.{exchanges_from}
use Rattle.kinds.proofs.are_exchanges.Given as goal

abbrev pub invariant-loop-pair : goal.invariant-loop-pair
invariant-loop-pair l = (l.pair-iterator.size ≡ 2) × (l.pair-iterator.rest.now ≡ drop (2 * length l.yielded) l.block) × (eqb (l.odd % 256) 0 ≡ leb (length l.yielded) (exchanges_from l.block 0))
