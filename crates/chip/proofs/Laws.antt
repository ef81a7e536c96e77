-- What is true of a record's bytes, and of kinds of jobs.
use Rattle.std.specs.Prelude.{◌≤◌, true, ◌≡◌, refl, length}
use Rattle.std.proofs.Common.{arith}
use Rattle.chip.specs.declared.JobKind.{JobKind}
use Rattle.chip.specs.declared.JobKind.TheVariants.{Idle, WriteStatus, Program, SmallErase, SectorErase, ChipErase}
use Rattle.chip.specs.declared.Record.{Record}
use Rattle.chip.specs.declared.Record.TheVariants.{Nothing, Floating, Driven, Verdict, InTheWay}
use Rattle.chip.specs.Job.{is_job, has_cells}
use Rattle.chip.specs.Record.{record_bytes, longest_record}

-- no record is longer than the longest
pub record_bytes-most : (r : Record) → length (record_bytes r) ≤ longest_record
record_bytes-most Nothing = omega arith
record_bytes-most Floating = omega arith
record_bytes-most (Driven b) = omega arith
record_bytes-most (Verdict v) = omega arith
record_bytes-most (InTheWay first last) = omega arith

-- what has cells is a job
pub cells-job : (kind : JobKind) → has_cells kind ≡ true → is_job kind ≡ true
cells-job Idle h = h
cells-job (WriteStatus value) h = refl
cells-job Program h = refl
cells-job SmallErase h = refl
cells-job SectorErase h = refl
cells-job ChipErase h = refl
