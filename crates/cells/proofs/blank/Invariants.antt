-- `cells::blank` meets its contract. The loop has swept the first cells of the part, which is all of the range that lies inside.
use Rattle.std.proofs.Common.{◌≡◌}
use Rattle.cells.specs.Cells.{sweep, blanked}
use Rattle.cells.proofs.blank.Given as goal

abbrev pub invariant-loop-cell : goal.invariant-loop-cell
invariant-loop-cell l = l.cell-items ≡ sweep blanked l.initial.cell-items 0 l.cell-index
