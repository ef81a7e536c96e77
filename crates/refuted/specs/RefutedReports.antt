-- Each wrong reporter of `WrongReports` breaks the demand on reports: it is asked at one closed moment, and what the demand says there is false of it.
use Rattle.std.specs.Prelude.{ℕ, ◌<◌, ◌≤◌, true, cond, List, [], ◌∷◌, ◌≡◌, refl, eqb, ℤ, pos, negsuc, nat_abs, length, replicate}
use Rattle.std.proofs.Common.{ap, ◌∙◌, inl, inr, arith}
use Rattle.std.proofs.Math.IntN.{pos-ne-negsuc}
use Rattle.cells.specs.Choice.{cond_either}
use Rattle.part.specs.Part.{permitted, setting_of}
use Rattle.part.specs.Protection.{protected_count, protected_sectors}
use Rattle.commands.specs.Table.{row_of, row_in, fits_rule, is_read, is_program}
use Rattle.kinds.specs.Kinds.{known_in_script, kind_row_in, kind_row}
use Rattle.chip.specs.declared.Chip.{Chip}
use Rattle.chip.specs.declared.Core.{Core}
use Rattle.chip.specs.declared.JobKind.{JobKind}
use Rattle.chip.specs.declared.JobKind.TheVariants.{Idle, WriteStatus, Program, SmallErase, SectorErase, ChipErase}
use Rattle.chip.specs.Fields.{with_wen, with_job}
use Rattle.chip.specs.Chip.{whole, resting, empty_frame, blank_load}
use Rattle.legal.specs.Legal.{legal_job, legal_core, legal_frame, is_empty, is_blank, legal}
use Rattle.job.specs.Tick.{tick_core, ticks_core}
use Rattle.frame.specs.Frame.{judge, exchanged}
use Rattle.verdict.specs.Verdict.{job_of, job_verdict, command_verdict, listed, verdict, record_of}
use Rattle.verdict.specs.Effect.{instantly, acted, settled}
use Rattle.event.specs.Event.{applied}
use Rattle.margins.specs.declared.Allowances.{Allowances}
use Rattle.margins.specs.declared.Line.{Line}
use Rattle.margins.specs.declared.Report.{Report}
use Rattle.margins.specs.Margins.{allowed, line, joined, tidy_line, tidied, counted}
use Rattle.script.specs.Script.{fault_at, walk, events_from, timed, first_bad, room}
use Rattle.script.specs.Run as Run
use Rattle.script.specs.Jobs.{tick_by_tick, Finished, jobs, jobs_of}
use Rattle.script.specs.Report.{counted_job, report_after, refusal_with, report_of}
use Rattle.demands.specs.Demand1.{our_run}
use Rattle.demands.specs.Reporting.{Reporter, our_report, allowance_at, line_at, Over, margins_at, OneOf, AtMostEach, LineIs, Counts, Reporting}
use Rattle.refuted.specs.WrongReports.{counted_by, after_by, joining, reads_margins_of_none, counts_what_stood, changes_refused, takes18_late, counts_working_ticks, cuts_at_zero, swaps_ends, wraps_counts, counts_on, starts_from_zero, mixes_kinds}

-- Nothing but the rules is changed in them: by its own rules the report is ours.
pub by-rules_is_ours : (a : Allowances) (r : Report) (c : Chip) (m area s out : List ℕ) → joining joined a r c m area s out ≡ our_report a r c m area s out
unfolding report_of after_by report_after
by-rules_is_ours a r c m area s out =
    λ i.
    record {
      run = (our_report a r c m area s out).run;
      report = cond (eqb (refusal_with a c (length m) (length area) s (length out)).number 0) (same_after (jobs_of (setting_of (length m) area) s c m) (tidied r) i) r;
    }
  where
    same_counted : (kind : JobKind) (m : ℤ) (r : Report) → counted_by (joined m) kind r ≡ counted kind m r
    same_counted Idle m r = refl
    same_counted (WriteStatus value) m r = refl
    same_counted Program m r = refl
    same_counted SmallErase m r = refl
    same_counted SectorErase m r = refl
    same_counted ChipErase m r = refl

    same_after : (js : List Finished) (r : Report) → after_by (λ j. j.used) joined a js r ≡ report_after a js r
    same_after [] r = refl
    same_after (j ∷ js) r = ap (after_by (λ j. j.used) joined a js) (same_counted j.kind _ r) ∙ same_after js (counted_job a j r)

-- ---- the moments

-- a memory of one sector, and room enough for the records
abbrev cells : List ℕ
cells = replicate 65536 0

abbrev output : List ℕ
output = replicate 64 0

-- WEN on
abbrev enabled : Core
enabled = with_wen true resting

-- chips: at rest; with an erase that has one step left; before the deselect of a write status of 00h, and of a small sector erase at address 0
abbrev idle : Chip
idle = whole resting empty_frame blank_load blank_load

abbrev last_step : Chip
last_step = whole (with_job (record { kind = SmallErase; start = 0; done = 15 }) enabled) empty_frame blank_load blank_load

abbrev sent : ℕ → ℕ → Chip
sent opcode count = whole enabled (record { selected = true; opcode = opcode; address = 0; place = 0; slot = 0; count = count; judgement = 0 }) blank_load blank_load

abbrev writing : Chip
writing = sent 0x01 2

abbrev erasing : Chip
erasing = sent 0x20 4

-- scripts: a deselect and a tick; a deselect, a suspend, a step and a suspended tick, a resume and the other 15 steps
abbrev one_tick : List ℕ
one_tick = 0x03 ∷ 0x00 ∷ 0x04 ∷ []

abbrev suspended : List ℕ
suspended =
    0x03 ∷ 0x00
    ∷ 0x01 ∷ 0x02 ∷ 0xB0 ∷ 0x03 ∷ 0x00
    ∷ 0x04 ∷ 0x04
    ∷ 0x01 ∷ 0x02 ∷ 0x30 ∷ 0x03 ∷ 0x00
    ∷ 0x05 ∷ 0x00 ∷ 0x0F
    ∷ []

-- lines: no job, with margins; so many jobs with margins from 1 to 9
abbrev margins_of_none : Line
margins_of_none = line 0 (pos 7) (pos 9)

abbrev one_to_nine : ℕ → Line
one_to_nine count = line count (pos 1) (pos 9)

-- one allowance, and one line, for every kind
abbrev allowing : ℕ → Allowances
allowing n = record { status = n; program = n; small = n; sector = n; chip = n }

abbrev all : Line → Report
all l = record { status = l; program = l; small = l; sector = l; chip = l }

-- with which nothing is wrong
none_over : (n : ℕ) → n ≤ 1000000 → Over (allowing n) → ⊥
none_over n h (inl p) = omega arith
none_over n h (inr (inl p)) = omega arith
none_over n h (inr (inr (inl p))) = omega arith
none_over n h (inr (inr (inr (inl p)))) = omega arith
none_over n h (inr (inr (inr (inr p)))) = omega arith

few : (l : Line) → l.count ≤ 4294967295 → Counts (all l)
few l h =
    record {
      each = λ k.
          cond_either Few (eqb k 0) _ _ (λ _. h)
          (λ _. cond_either Few (eqb k 1) _ _ (λ _. h) (λ _. cond_either Few (eqb k 2) _ _ (λ _. h) (λ _. cond_either Few (eqb k 3) _ _ (λ _. h) (λ _. h))));
    }
  where
    Few : Line → Type 0
    Few x = x.count ≤ 4294967295

-- what the demand says of a line where a script is done
asked : {P : Reporter} → Reporting our_run P → (n : ℕ) → n ≤ 1000000 → (l : Line) → l.count ≤ 4294967295 → (c : Chip) (s : List ℕ) → (our_run c cells [] s output).refusal ≡ 0 → (k : ℕ) → k < 5
    → LineIs (line_at (all l) k) (margins_at (allowance_at (allowing n) k) k (jobs_of (setting_of (length cells) []) s c cells)) (line_at (P (allowing n) (all l) c cells [] s output).report k)
asked d n in-range l small c s done k h = d.lines (allowing n) (all l) c cells [] s output (none_over n in-range) done (few l small) k h

-- ---- the demand is broken

pub record WrongReports : Type 0 where
  -- no job, and yet margins of 7 and 9
  pub reads_margins_of_none_lem : Reporting our_run reads_margins_of_none → ⊥
  -- no job began in the script, and yet one is counted
  pub counts_what_stood_lem : Reporting our_run counts_what_stood → ⊥
  -- refused, and yet the margins 7 and 9 are gone
  pub changes_refused_lem : Reporting our_run changes_refused → ⊥
  -- an allowance of 1,000,001, and yet the number is 1
  pub takes_18_late : Reporting our_run takes18_late → ⊥
  -- an erase allowed 20 ticks that used 17, one of them suspended: the margin is 4 and not 3
  pub counts_working_ticks_lem : Reporting our_run counts_working_ticks → ⊥
  -- a write status that used 1 tick and was allowed none: the margin is 0 and not -1
  pub cuts_at_zero_lem : Reporting our_run cuts_at_zero → ⊥
  -- with a margin of 4 more, the smallest of 1 and 4 is 4
  pub swaps_ends_lem : Reporting our_run swaps_ends → ⊥
  -- one more than 4,294,967,295 jobs are 0, or 4,294,967,296
  pub wraps_counts_lem : Reporting our_run wraps_counts → ⊥
  pub counts_on_lem : Reporting our_run counts_on → ⊥
  -- the first margin is 4, and the smallest is 0
  pub starts_from_zero_lem : Reporting our_run starts_from_zero → ⊥
  -- a write status ends, and is not in its line
  pub mixes_kinds_lem : Reporting our_run mixes_kinds → ⊥

-- The demand refutes them.
pub wrong_reports : WrongReports
unfolding Run.answer_of Run.refusal refusal_with allowed report_of report_after after_by margins_at joined tidy_line OneOf AtMostEach jobs tick_by_tick legal legal_core legal_job legal_frame is_empty is_blank permitted known_in_script kind_row kind_row_in applied exchanged judge row_of row_in is_program verdict record_of listed is_read command_verdict job_verdict job_of fits_rule settled acted instantly protected_sectors protected_count ticks_core tick_core timed first_bad room events_from walk fault_at
wrong_reports =
    record {
      reads_margins_of_none_lem = λ d. absurd (omega (arith, ap nat_abs ((asked d 5 (omega arith) margins_of_none (omega arith) idle [] refl 0 (omega arith)).none_is refl refl).0));
      counts_what_stood_lem = λ d. absurd (omega (arith, (asked d 5 (omega arith) margins_of_none (omega arith) last_step (0x04 ∷ []) refl 2 (omega arith)).count_is));
      changes_refused_lem = λ d. absurd (omega (arith, ap (λ (r : Report). nat_abs r.status.smallest) (d.refused_keeps (allowing 5) (all margins_of_none) idle [] [] [] [] (none_over 5 (omega arith)) (λ e. omega (arith, e)))));
      takes_18_late = λ d. absurd (omega (arith, (d.eighteen (allowing 1000001) (all margins_of_none) idle [] [] [] []).1 (inl (omega arith))));
      counts_working_ticks_lem = λ d. not_one (pos 4) (pos 3) (λ e. omega (arith, ap nat_abs e)) ((asked d 20 (omega arith) margins_of_none (omega arith) erasing suspended refl 2 (omega arith)).first_smallest refl (omega arith)).0;
      cuts_at_zero_lem = λ d. not_one (pos 0) (negsuc 0) (pos-ne-negsuc 0 0) ((asked d 0 (omega arith) margins_of_none (omega arith) writing one_tick refl 0 (omega arith)).first_smallest refl (omega arith)).0;
      swaps_ends_lem = λ d. ((asked d 5 (omega arith) (one_to_nine 1) (omega arith) writing one_tick refl 0 (omega arith)).later_smallest (omega arith)).1.0.le;
      wraps_counts_lem = λ d. absurd (omega (arith, (asked d 5 (omega arith) (one_to_nine 4294967295) (omega arith) writing one_tick refl 0 (omega arith)).count_is));
      counts_on_lem = λ d. absurd (omega (arith, (asked d 5 (omega arith) (one_to_nine 4294967295) (omega arith) writing one_tick refl 0 (omega arith)).count_is));
      starts_from_zero_lem = λ d. not_one (pos 0) (pos 4) (λ e. omega (arith, ap nat_abs e)) ((asked d 5 (omega arith) margins_of_none (omega arith) writing one_tick refl 0 (omega arith)).first_smallest refl (omega arith)).0;
      mixes_kinds_lem = λ d. absurd (omega (arith, (asked d 5 (omega arith) margins_of_none (omega arith) writing one_tick refl 0 (omega arith)).count_is));
    }
  where
    not_one : (x y : ℤ) → (x ≡ y → ⊥) → OneOf x (y ∷ []) → ⊥
    not_one x y other (inl e) = other e
    not_one x y other (inr none) = none
