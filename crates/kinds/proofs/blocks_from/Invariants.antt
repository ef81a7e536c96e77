-- `kinds::blocks_from` meets its contract. Those counted are of the row; it stops where a block does not fit, ends with another kind (`row-stops`) or does not stand.
use Rattle.std.proofs.Common.{◌≤◌, ◌+◌, ◌*◌, ◌≡◌, length, drop}
use Rattle.kinds.specs.Row.{exchanges_from}
use Rattle.kinds.proofs.blocks_from.Given as goal

abbrev pub invariant-loop-block : goal.invariant-loop-block
invariant-loop-block l = (l.block-iterator.size ≡ 2 * l.n) × (l.block-iterator.rest.now ≡ drop (l.at + 2 * l.count) l.s) × (l.at + 2 * l.count ≤ length l.s) × (l.count ≤ exchanges_from l.s l.at)
