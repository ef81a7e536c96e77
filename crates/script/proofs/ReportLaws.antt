-- What is true of a run with a report: each way that it goes, the report over two scripts, and how wide a margin can be.
use Rattle.std.specs.Prelude.{ℕ, true, false, List, [], ◌∷◌, ◌++◌, ◌≡◌, refl, eqb, length}
use Rattle.std.proofs.Math.Bool.{cond}
use Rattle.std.proofs.Common.{sym, ◌∙◌, eq-eqb, ne_eqb}
use Rattle.std.proofs.Math.Path.{ap}
use Rattle.cells.specs.Choice.{cond_yes, cond_no}
use Rattle.part.specs.Part.{setting_of}
use Rattle.chip.specs.declared.Chip.{Chip}
use Rattle.margins.specs.declared.Allowances.{Allowances}
use Rattle.margins.specs.declared.Report.{Report}
use Rattle.margins.specs.Margins.{allowed, tidied}
use Rattle.margins.specs.Laws.{tidied-counted}
use Rattle.script.specs.Script.{Refusal, refusal_of}
use Rattle.script.specs.Run.{refusal, refused, answer_of, memory_of, output_of}
use Rattle.script.specs.Jobs.{Finished, jobs_of}
use Rattle.script.specs.Report.{counted_job, report_after, refusal_with, answer_with, memory_with, output_with, report_of}

module _ (a : Allowances) (c : Chip) (m area s out : List ℕ) where
  abbrev number : ℕ
  number = (refusal c (length m) (length area) s (length out)).number

  -- an allowance out of range: 18, and all as it was
  module _ (bad : allowed a ≡ false) where
    pub answer_18 : answer_with a c m area s out ≡ refused c (refusal_of 18 0)
    unfolding answer_with
    answer_18 = cond_no (allowed a) _ _ bad

    pub memory_18 : memory_with a c m area s out ≡ m
    unfolding memory_with
    memory_18 = cond_no (allowed a) _ _ bad

    pub output_18 : output_with a c m area s out ≡ out
    unfolding output_with
    output_18 = cond_no (allowed a) _ _ bad

    pub report_18 : (r : Report) → report_of a r c m area s out ≡ r
    unfolding report_of refusal_with
    report_18 r = ap (λ (q : Refusal). cond (eqb q.number 0) (report_after a (jobs_of (setting_of (length m) area) s c m) (tidied r)) r) (cond_no (allowed a) _ _ bad)

  -- allowances in range: the plain run's answer, memory and output
  module _ (good : allowed a ≡ true) where
    pub answer_with_lem : answer_with a c m area s out ≡ answer_of c m area s out
    unfolding answer_with
    answer_with_lem = cond_yes (allowed a) _ _ good

    pub memory_with_lem : memory_with a c m area s out ≡ memory_of c m area s out
    unfolding memory_with
    memory_with_lem = cond_yes (allowed a) _ _ good

    pub output_with_lem : output_with a c m area s out ≡ output_of c m area s out
    unfolding output_with
    output_with_lem = cond_yes (allowed a) _ _ good

    number_with : (refusal_with a c (length m) (length area) s (length out)).number ≡ number
    unfolding refusal_with
    number_with = ap (λ (q : Refusal). q.number) (cond_yes (allowed a) _ _ good)

    -- refused, the report is as it was handed in; done, the jobs are counted
    pub report_refused : (r : Report) → (number ≡ 0 → ⊥) → report_of a r c m area s out ≡ r
    unfolding report_of
    report_refused r no_zero = cond_no _ _ _ (ne_eqb _ _ (λ z. no_zero (sym number_with ∙ z)))

    pub report_done : (r : Report) → number ≡ 0 → report_of a r c m area s out ≡ report_after a (jobs_of (setting_of (length m) area) s c m) (tidied r)
    unfolding report_of
    report_done r ok = cond_yes _ _ _ (eq-eqb _ _ (number_with ∙ ok))

-- ---- two scripts

-- the report after some jobs and then others
pub report_add : (a : Allowances) (js ks : List Finished) (r : Report) → report_after a (js ++ ks) r ≡ report_after a ks (report_after a js r)
unfolding report_after
report_add a [] ks r = refl
report_add a (j ∷ js) ks r = report_add a js ks (counted_job a j r)

-- a report whose lines without jobs have no margins stays so
pub report_tidy : (a : Allowances) (js : List Finished) (r : Report) → tidied r ≡ r → tidied (report_after a js r) ≡ report_after a js r
unfolding report_after
report_tidy a [] r tidy = tidy
report_tidy a (j ∷ js) r tidy = report_tidy a js (counted_job a j r) (tidied-counted j.kind _ r tidy)
