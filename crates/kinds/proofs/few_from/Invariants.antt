-- `kinds::few_from` meets its contract. Those counted are of the row; where one is cut (`row_inside`) or has another kind (`row-stops`) the row has just these.
use Rattle.std.proofs.Common.{◌≤◌, ◌+◌, ◌*◌, length}
use Rattle.kinds.specs.Row.{exchanges_from}
use Rattle.kinds.proofs.few_from.Given as goal

abbrev pub invariant-loop-count : goal.invariant-loop-count
invariant-loop-count l = (l.at + 2 * l.count ≤ length l.s) × (l.count ≤ exchanges_from l.s l.at)
