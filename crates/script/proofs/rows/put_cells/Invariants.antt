-- `script::rows::put_cells` meets its contract. Record after record is put.
use Rattle.std.proofs.Common.{◌+◌, ◌*◌, ◌≡◌, length}
use Rattle.cells.specs.Put.{Put}
use Rattle.frame.specs.Stream.{cells_up}
use Rattle.script.proofs.rows.put_cells.Given as goal

abbrev pub invariant-loop-i : goal.invariant-loop-i
invariant-loop-i l = Put l.initial.out l.pos (cells_up l.mem l.place l.i) (l.pos + 2 * l.i) l.out × (length l.out ≡ length l.initial.out)
