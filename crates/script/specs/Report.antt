-- A run with a margin report: the answer is the plain run's, and the report is a fold over the jobs that the run began and ended (RULES, The margin report).
use Rattle.std.specs.Prelude.{Result, Ok, Err, ℕ, cond, List, [], ◌∷◌, eqb, length}
use Rattle.part.specs.Part.{setting_of}
use Rattle.chip.specs.declared.Chip.{Chip}
use Rattle.margins.specs.declared.Allowances.{Allowances}
use Rattle.margins.specs.declared.Report.{Report}
use Rattle.margins.specs.Margins.{allowed, allowance_of, margin, counted, tidied}
use Rattle.script.specs.declared.Refused.{Refused}
use Rattle.script.specs.declared.Reported.{Reported as Done}
use Rattle.script.specs.Script.{Refusal, refusal_of}
use Rattle.script.specs.Run.{Ran, refusal, told, finished, refused, answer_of, memory_of, output_of}
use Rattle.script.specs.Jobs.{Finished, jobs_of}

-- the answer to a run with a report, and the report afterwards
pub record Reported : Type 0 where
  pub ran : Ran
  pub report : Report

-- what such a run on a chip gives back, as such an answer: refused, the report is as it was handed in
abbrev pub reported_as : Chip → Report → Result Done Refused → Reported
reported_as c r (Ok d) = record { ran = finished d.done.chip d.done.written d.done.ticks; report = d.report }
reported_as c r (Err e) = record { ran = refused c (told e); report = r }

-- one job more, in its kind's line, by its allowance less the ticks that it used
abbrev pub counted_job : Allowances → Finished → Report → Report
counted_job a j r = counted j.kind (margin (allowance_of j.kind a) j.used) r

-- the report after some jobs, in the order in which they ended
unfoldable pub report_after : Allowances → List Finished → Report → Report
report_after a [] r = r
report_after a (j ∷ js) r = report_after a js (counted_job a j r)

-- what refuses a run with a report: an allowance out of range before all else, then what refuses the plain run
unfoldable pub refusal_with : Allowances → Chip → ℕ → ℕ → List ℕ → ℕ → Refusal
refusal_with a c n extent s space = cond (allowed a) (refusal c n extent s space) (refusal_of 18 0)

-- the answer, the memory and the output are the plain run's, if the allowances are in range
unfoldable pub answer_with : Allowances → Chip → List ℕ → List ℕ → List ℕ → List ℕ → Ran
answer_with a c m area s out = cond (allowed a) (answer_of c m area s out) (refused c (refusal_of 18 0))

unfoldable pub memory_with : Allowances → Chip → List ℕ → List ℕ → List ℕ → List ℕ → List ℕ
memory_with a c m area s out = cond (allowed a) (memory_of c m area s out) m

unfoldable pub output_with : Allowances → Chip → List ℕ → List ℕ → List ℕ → List ℕ → List ℕ
output_with a c m area s out = cond (allowed a) (output_of c m area s out) out

-- the report afterwards: refused, as it was handed in; done, with the jobs of the run counted
unfoldable pub report_of : Allowances → Report → Chip → List ℕ → List ℕ → List ℕ → List ℕ → Report
report_of a r c m area s out =
    cond (eqb (refusal_with a c (length m) (length area) s (length out)).number 0)
    (report_after a (jobs_of (setting_of (length m) area) s c m) (tidied r)) r
