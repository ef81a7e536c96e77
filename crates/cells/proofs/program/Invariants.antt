-- `cells::program` meets its contract. The loop has swept `i` cells of the part, each by the load byte at its own offset.
use Rattle.std.proofs.Common.{◌≡◌}
use Rattle.cells.specs.Cells.{sweep, anded, later}
use Rattle.cells.proofs.program.Given as goal

abbrev pub invariant-loop-i : goal.invariant-loop-i
invariant-loop-i l = l.cell-items ≡ sweep (later (anded l.load) l.at) l.initial.cell-items 0 l.i
