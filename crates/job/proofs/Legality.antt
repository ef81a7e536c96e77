-- A legal core stays legal under ticks.
use Rattle.std.specs.Prelude.{ℕ, zero, suc, ◌+◌, ◌<◌, Bool, true, false, not, ◌≡◌, refl}
use Rattle.std.proofs.lemmas.Bool.{false≢true, not-true}
use Rattle.std.proofs.Common.{sym, subst, arith}
use Rattle.std.proofs.Math.Decide.{dec_lt}
use Rattle.cells.specs.Choice.{cond_either, and_left, and_right}
use Rattle.chip.specs.declared.Core.{Core}
use Rattle.chip.specs.declared.JobKind.{JobKind}
use Rattle.chip.specs.Job.{is_job, has_cells, total}
use Rattle.chip.specs.Chip.{with_bits, running}
use Rattle.legal.proofs.Legality.{LegalCore, idle-legal}
use Rattle.job.specs.Tick.{advanced, suspends, moved_on, gone, ended_as, tick_core, ticks_core}
use Rattle.job.proofs.Laws.{tick-rests, tick-moves, tick-ends, ended-each}

-- a running job is a job, and not suspended
pub running-job : (k : Core) → running k ≡ true → is_job k.job.kind ≡ true
running-job k h = and_left (is_job k.job.kind) (not k.suspended) h

pub running-awake : (k : Core) → running k ≡ true → k.suspended ≡ false
running-awake k h = not-true k.suspended (and_right (is_job k.job.kind) (not k.suspended) h)

module _ (S : ℕ) (k : Core) (l : LegalCore S k) where
  module _ (more : k.job.done + 1 < total k.job.kind S) where
    advanced_legal : LegalCore S (advanced 1 k)
    advanced_legal =
        record {
          level_small = l.level_small;
          job_placed = l.job_placed;
          job_unfinished = λ _. more;
          job_enabled_lem = l.job_enabled_lem;
          suspended_cells = l.suspended_cells;
          waiting_runs_lem = l.waiting_runs_lem;
          deep_idle = l.deep_idle;
          deep_unarmed = l.deep_unarmed;
        }

    -- a job that waited has cells, so it may be suspended
    suspends_legal : k.waiting ≡ true → LegalCore S (suspends (advanced 1 k))
    suspends_legal waits =
        record {
          level_small = l.level_small;
          job_placed = l.job_placed;
          job_unfinished = λ _. more;
          job_enabled_lem = l.job_enabled_lem;
          suspended_cells = λ _. and_right (running k) (has_cells k.job.kind) (l.waiting_runs_lem waits);
          waiting_runs_lem = λ h. absurd (false≢true h);
          deep_idle = l.deep_idle;
          deep_unarmed = l.deep_unarmed;
        }

    moved_legal : LegalCore S (moved_on k)
    moved_legal = cond_either (λ (q : Core). LegalCore S q) k.waiting _ _ suspends_legal (λ _. advanced_legal)

  module _ (awake : k.suspended ≡ false) where
    gone_legal : LegalCore S (gone k)
    gone_legal = idle-legal S (gone k) refl l.level_small awake refl l.deep_unarmed

    ended_legal : (kind : JobKind) → LegalCore S (ended_as kind k)
    ended_legal kind = ended-each kind k (λ (q : Core). LegalCore S q) gone_legal (λ value. idle-legal S (with_bits value (gone k)) refl (omega arith) awake refl l.deep_unarmed)

  pub tick_legal : LegalCore S (tick_core S k)
  tick_legal = go (running k) refl
    where
      working : running k ≡ true → Dec (k.job.done + 1 < total k.job.kind S) → LegalCore S (tick_core S k)
      working r (yes h) = subst (λ (q : Core). LegalCore S q) (sym (tick-moves S k r h)) (moved_legal h)
      working r (no h) = subst (λ (q : Core). LegalCore S q) (sym (tick-ends S k r (omega arith))) (ended_legal (running-awake k r) k.job.kind)

      go : (b : Bool) → running k ≡ b → LegalCore S (tick_core S k)
      go true r = working r (dec_lt (k.job.done + 1) (total k.job.kind S))
      go false r = subst (λ (q : Core). LegalCore S q) (sym (tick-rests S k r)) l

pub ticks-legal : (S t : ℕ) (k : Core) → LegalCore S k → LegalCore S (ticks_core S t k)
unfolding ticks_core
ticks-legal S zero k l = l
ticks-legal S (suc t) k l = tick_legal S (ticks_core S t k) (ticks-legal S t k l)
