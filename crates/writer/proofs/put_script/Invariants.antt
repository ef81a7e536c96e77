-- `put_script` puts piece after piece: the script for the bytes that are left is left to put, and they lie on a part. The measure is their number.
use Rattle.std.proofs.Common.{◌+◌, ◌≤◌, length}
use Rattle.cells.specs.Output.{Putting}
use Rattle.writer.specs.Writer.{program_script}
use Rattle.writer.proofs.put_script.Given as goal

abbrev pub invariant-loop-left : goal.invariant-loop-left
invariant-loop-left l = (l.here + length l.left ≤ 2097152) × Putting l.initial.out (program_script l.address l.bytes) l.out (program_script l.here l.left)

abbrev pub decreases-loop-left : goal.decreases-loop-left
decreases-loop-left l = length l.left
