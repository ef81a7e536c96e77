-- What a run with a margin report promises, of any reporter over a runner: refusal 18, the plain run's answer, and each line of the report in numbers
-- (RULES, The margin report). Which jobs a run began and ended, and the ticks that each used, is the list `jobs_of`; `Lives` says it again in numbers.
use Rattle.std.specs.Prelude.{ℕ, ◌+◌, ◌<◌, ◌≤◌, min, cond, List, [], ◌∷◌, ◌≡◌, ◌↔◌, ◌⊎◌, eqb, ℤ, pos, ◌-ℤ◌, ◌≤ℤ◌, length}
use Rattle.part.specs.Part.{setting_of}
use Rattle.chip.specs.declared.Chip.{Chip}
use Rattle.chip.specs.declared.JobKind.{JobKind}
use Rattle.chip.specs.declared.JobKind.TheVariants.{Idle, WriteStatus, Program, SmallErase, SectorErase, ChipErase}
use Rattle.margins.specs.declared.Allowances.{Allowances}
use Rattle.margins.specs.declared.Line.{Line}
use Rattle.margins.specs.declared.Report.{Report}
use Rattle.script.specs.Jobs.{Finished, jobs_of}
use Rattle.script.specs.Report.{Reported, answer_with, memory_with, output_with, report_of}
use Rattle.demands.specs.Demand1.{RunReply, Runner, ran}

-- ---- reporters

-- what a run with a report answers: what the plain run does, and the report afterwards
pub record ReportReply : Type 0 where
  pub run : RunReply
  pub report : Report

-- a reporter answers every script: allowances, report, chip, memory, SFDP area, script and output are any
abbrev pub Reporter : Type 0
Reporter = Allowances → Report → Chip → List ℕ → List ℕ → List ℕ → List ℕ → ReportReply

abbrev pub reported : Reported → List ℕ → List ℕ → ReportReply
reported r m out = record { run = ran r.ran m out; report = r.report }

-- the reporter that the contract of `script::run_with_report` describes
abbrev pub our_report : Reporter
our_report a r c m area s out =
    record { run = ran (answer_with a c m area s out) (memory_with a c m area s out) (output_with a c m area s out); report = report_of a r c m area s out }

-- Whatever meets that contract answers as ours.
pub reporter_is_ours : (a : Allowances) (r : Report) (c : Chip) (m area s out : List ℕ) (x : Reported) (m' out' : List ℕ)
    → (x.ran ≡ answer_with a c m area s out) × (m' ≡ memory_with a c m area s out) × (out' ≡ output_with a c m area s out) × (x.report ≡ report_of a r c m area s out)
    → reported x m' out' ≡ our_report a r c m area s out
reporter_is_ours a r c m area s out x m' out' p = λ i. record { run = ran (p.0 i) (p.1 i) (p.2 i); report = p.3 i }

-- ---- the five kinds

-- the kinds of jobs in the report's order: 0 write status, 1 program, 2 small sector erase, 3 sector erase, 4 chip erase
abbrev pub place : JobKind → ℕ
place Idle = 5
place (WriteStatus value) = 0
place Program = 1
place SmallErase = 2
place SectorErase = 3
place ChipErase = 4

-- the allowance and the line at a place of that order
abbrev pub allowance_at : Allowances → ℕ → ℕ
allowance_at a k = cond (eqb k 0) a.status (cond (eqb k 1) a.program (cond (eqb k 2) a.small (cond (eqb k 3) a.sector a.chip)))

abbrev pub line_at : Report → ℕ → Line
line_at r k = cond (eqb k 0) r.status (cond (eqb k 1) r.program (cond (eqb k 2) r.small (cond (eqb k 3) r.sector r.chip)))

-- an allowance over 1,000,000
abbrev pub Over : Allowances → Type 0
Over a = (1000000 < a.status) ⊎ ((1000000 < a.program) ⊎ ((1000000 < a.small) ⊎ ((1000000 < a.sector) ⊎ (1000000 < a.chip))))

-- ---- a line in numbers

-- the margins of the jobs at a place: allowance less ticks used, negative for a late one
unfoldable pub margins_at : ℕ → ℕ → List Finished → List ℤ
margins_at allowance k [] = []
margins_at allowance k (j ∷ js) = cond (eqb (place j.kind) k) ((pos allowance -ℤ pos j.used) ∷ margins_at allowance k js) (margins_at allowance k js)

-- one of some numbers; and at most, and at least, each of them
unfoldable pub OneOf : ℤ → List ℤ → Type 0
OneOf x [] = ⊥
OneOf x (y ∷ ys) = (x ≡ y) ⊎ OneOf x ys

unfoldable pub AtMostEach : ℤ → List ℤ → Type 0
AtMostEach x [] = Unit {0}
AtMostEach x (y ∷ ys) = (x ≤ℤ y) × AtMostEach x ys

unfoldable pub AtLeastEach : ℤ → List ℤ → Type 0
AtLeastEach x [] = Unit {0}
AtLeastEach x (y ∷ ys) = (y ≤ℤ x) × AtLeastEach x ys

-- what a line that was handed in and the margins of the jobs come to. The numbers that count: those of the jobs, and the old one where the count was above 0.
pub record LineIs (old : Line) (margins : List ℤ) (new : Line) : Type 0 where
  -- the count goes up by one a job, and stops at 4,294,967,295
  pub count_is : new.count ≡ min (old.count + length margins) 4294967295
  -- no job ever: both margins are 0, whatever was handed in
  pub none_is : old.count ≡ 0 → length margins ≡ 0 → (new.smallest ≡ pos 0) × (new.largest ≡ pos 0)
  -- the first jobs: what stood in a line whose count was 0 plays no part
  pub first_smallest : old.count ≡ 0 → 1 ≤ length margins → OneOf new.smallest margins × AtMostEach new.smallest margins
  pub first_largest : old.count ≡ 0 → 1 ≤ length margins → OneOf new.largest margins × AtLeastEach new.largest margins
  -- later ones join, each end on its own
  pub later_smallest : 1 ≤ old.count → OneOf new.smallest (old.smallest ∷ margins) × AtMostEach new.smallest (old.smallest ∷ margins)
  pub later_largest : 1 ≤ old.count → OneOf new.largest (old.largest ∷ margins) × AtLeastEach new.largest (old.largest ∷ margins)

-- ---- the demand

-- a count is a number of 32 bits
pub record Counts (r : Report) : Type 0 where
  pub each : (k : ℕ) → (line_at r k).count ≤ 4294967295

pub record Reporting (R : Runner) (P : Reporter) : Type 0 where
  -- 18 exactly when an allowance is over 1,000,000, before all else; then all is as it was
  pub eighteen : (a : Allowances) (r : Report) (c : Chip) (m area s out : List ℕ) → ((P a r c m area s out).run.refusal ≡ 18) ↔ Over a
  pub eighteen_keeps : (a : Allowances) (r : Report) (c : Chip) (m area s out : List ℕ) → Over a
      → P a r c m area s out ≡ record { run = record { chip = c; memory = m; output = out; refusal = 18; offset = 0; written = 0; ticks = 0 }; report = r }
  -- otherwise the answer is the plain run's
  pub same_answer : (a : Allowances) (r : Report) (c : Chip) (m area s out : List ℕ) → (Over a → ⊥) → (P a r c m area s out).run ≡ R c m area s out
  -- a refused script gives back the report exactly as it was handed in
  pub refused_keeps : (a : Allowances) (r : Report) (c : Chip) (m area s out : List ℕ) → (Over a → ⊥) → ((R c m area s out).refusal ≡ 0 → ⊥) → (P a r c m area s out).report ≡ r
  -- done, each of the five lines has the jobs of its kind that began and ended in the script
  pub lines : (a : Allowances) (r : Report) (c : Chip) (m area s out : List ℕ) → (Over a → ⊥) → (R c m area s out).refusal ≡ 0 → Counts r → (k : ℕ) → k < 5
      → LineIs (line_at r k) (margins_at (allowance_at a k) k (jobs_of (setting_of (length m) area) s c m)) (line_at (P a r c m area s out).report k)
