-- A legal core stays legal under a deselect.
use Rattle.std.specs.Prelude.{ℕ, ◌+◌, ◌%◌, ◌<◌, ◌≤◌, Bool, not, ◌&&◌, ◌||◌, ◌≡◌, eqb, leb}
use Rattle.std.proofs.Math.Bool.{true, false, false≢true}
use Rattle.std.proofs.Math.Path.{refl, subst}
use Rattle.std.proofs.Common.{sym, ◌∙◌, mod-lt, arith}
use Rattle.std.proofs.Math.Decide.{ℕ_discrete}
use borrow.Author.Tests.{eq-eqb, ne_eqb, eqb-true, le-leb}
use Rattle.cells.specs.Choice.{cond_either, cond_yes, cond_no, and_left, and_right, and_both, not_so}
use Rattle.part.specs.Part.{length_of, page, small_sector, sector, reduced, rounded_down}
use Rattle.commands.specs.Table.{row_of, row_in, is_program, write_disable, suspend, resume, wake, deep_power_down, reset_enable}
use Rattle.chip.specs.declared.Core.{Core}
use Rattle.chip.specs.declared.Frame.{Frame}
use Rattle.chip.specs.declared.JobKind.{JobKind}
use Rattle.chip.specs.declared.JobKind.TheVariants.{Idle, WriteStatus, Program, SmallErase, SectorErase, ChipErase}
use Rattle.chip.specs.Fields.{with_wen, with_suspended, with_waiting, with_deep, with_armed}
use Rattle.chip.specs.Job.{is_job, has_cells, total}
use Rattle.chip.specs.Chip.{running, suspendable}
use Rattle.legal.specs.Legal.{placed, aligned_to, judgement_known}
use Rattle.legal.proofs.Legality.{LegalCore, idle-legal}
use Rattle.frame.specs.Laws.{Allowed, allowed}
use Rattle.verdict.specs.Verdict.{job_of, start_of, pointless, verdict}
use Rattle.verdict.specs.Effect.{begins, resets, instantly, acted, settled}
use Rattle.verdict.proofs.Laws.{Begins, ActsAtOnce, verdict_one, verdict_two, acted-nothing, instantly-each}

-- ---- a job that begins

aligned_at : (S size p : ℕ) → p % size ≡ 0 → p + size ≤ length_of S → aligned_to S size p ≡ true
aligned_at S size p a i = and_both (eqb (p % size) 0) (leb (p + size) (length_of S)) (eq-eqb _ _ a) (le-leb _ _ i)

-- it is on the part and aligned
pub begun-placed : (S : ℕ) (kind : JobKind) (address : ℕ) → 1 ≤ S → placed S kind (start_of S kind address) ≡ true
begun-placed S Idle address s = refl
begun-placed S (WriteStatus value) address s = refl
begun-placed S Program address s =
    let r : address % length_of S < length_of S = mod-lt address (omega arith) in
    aligned_at S page (rounded_down page (reduced S address)) (omega arith) (omega arith)
begun-placed S SmallErase address s =
    let r : address % length_of S < length_of S = mod-lt address (omega arith) in
    aligned_at S small_sector (rounded_down small_sector (reduced S address)) (omega arith) (omega arith)
begun-placed S SectorErase address s =
    let r : address % length_of S < length_of S = mod-lt address (omega arith) in
    aligned_at S sector (rounded_down sector (reduced S address)) (omega arith) (omega arith)
begun-placed S ChipErase address s = refl

begun-unfinished : (S : ℕ) (kind : JobKind) → 1 ≤ S → is_job kind ≡ true → 0 < total kind S
begun-unfinished S Idle s e = absurd (false≢true e)
begun-unfinished S (WriteStatus value) s e = omega arith
begun-unfinished S Program s e = omega arith
begun-unfinished S SmallErase s e = omega arith
begun-unfinished S SectorErase s e = omega arith
begun-unfinished S ChipErase s e = omega arith

-- the waking command begins none
wake-begins_none : (opcode address : ℕ) → opcode ≡ wake → is_job (job_of opcode address) ≡ false
unfolding job_of is_program
wake-begins_none opcode address e = rw e

-- ---- what is done at once

-- a core that is neither running nor suspended has no job
resting-idle : (k : Core) → running k ≡ false → k.suspended ≡ false → is_job k.job.kind ≡ false
resting-idle k r s = go (is_job k.job.kind) k.suspended s r
  where
    go : (j z : Bool) → z ≡ false → (j && not z) ≡ false → j ≡ false
    go true false p q = q
    go true true p q = absurd (false≢true (sym p))
    go false z p q = refl

-- a suspend that has something to act on finds a program or an erase that runs
found : (s w : Bool) → (not (s && not w) || false || false) ≡ false → s ≡ true
found true w e = refl
found false w e = absurd (false≢true (sym e))

module _ (S : ℕ) (k : Core) (l : LegalCore S k) where
  -- other flags keep a core legal where they agree with the job
  flags_legal : (wen sus wait deep a : Bool) → (is_job k.job.kind ≡ true → wen ≡ true) → (sus ≡ true → has_cells k.job.kind ≡ true)
      → (wait ≡ true → suspendable (with_suspended sus k) ≡ true)
      → (deep ≡ true → is_job k.job.kind ≡ false) → (deep ≡ true → a ≡ false)
      → LegalCore S (with_armed a (with_wen wen (with_suspended sus (with_waiting wait (with_deep deep k)))))
  flags_legal wen sus wait deep a w s q d u =
      record {
        level_small = l.level_small;
        job_placed = l.job_placed;
        job_unfinished = l.job_unfinished;
        job_enabled_lem = w;
        suspended_cells = s;
        waiting_runs_lem = q;
        deep_idle = d;
        deep_unarmed = u;
      }

  -- arming or disarming alone: not both asleep and armed
  armed_legal : (a : Bool) → (k.deep ≡ true → a ≡ false) → LegalCore S (with_armed a k)
  armed_legal a = flags_legal k.wen k.suspended k.waiting k.deep a l.job_enabled_lem l.suspended_cells l.waiting_runs_lem l.deep_idle

  -- a begun job is legal
  begins_legal : (f : Frame) (a : Bool) → 1 ≤ S → Begins S k f → LegalCore S (with_armed a (begins S k f))
  begins_legal f a s b =
      record {
        level_small = l.level_small;
        job_placed = begun-placed S (job_of f.opcode f.address) f.address s;
        job_unfinished = begun-unfinished S (job_of f.opcode f.address) s;
        job_enabled_lem = λ _. b.enabled;
        suspended_cells = λ h. absurd (false≢true h);
        waiting_runs_lem = λ h. absurd (false≢true h);
        deep_idle = λ h. absurd (false≢true (sym (awake h) ∙ b.begins_job_lem));
        deep_unarmed = λ h. absurd (false≢true (sym (awake h) ∙ b.begins_job_lem));
      }
    where
      awake : k.deep ≡ true → is_job (job_of f.opcode f.address) ≡ false
      awake h = wake-begins_none f.opcode f.address ((allowed k f.opcode b.judged_none).asleep h)

  -- an opcode that is refused while running and while suspended finds no job
  finds_idle : (opcode : ℕ) → Allowed k opcode → (row_of opcode).running ≡ false → (row_of opcode).suspended ≡ false → is_job k.job.kind ≡ false
  finds_idle opcode p r s =
      resting-idle k (not_so (running k) (λ e. false≢true (sym r ∙ p.while_running e))) (not_so k.suspended (λ e. false≢true (sym s ∙ p.while_suspended e)))

  module _ (f : Frame) (acts-now : ActsAtOnce k f) (a : Bool) (arms : a ≡ true → f.opcode ≡ reset_enable) where
    abbrev open-to : Allowed k f.opcode
    open-to = allowed k f.opcode acts-now.judged_none

    -- an opcode other than 66h does not arm
    unarmed : (opcode : ℕ) → f.opcode ≡ opcode → (opcode ≡ reset_enable → ⊥) → a ≡ false
    unarmed opcode e other = not_so a (λ h. other (sym e ∙ arms h))

    -- asleep only the waking command is heard, which does not arm
    asleep_unarmed : k.deep ≡ true → a ≡ false
    asleep_unarmed h = unarmed wake (open-to.asleep h) (λ e. omega arith)

    -- write disable and deep power-down find no job, a suspend finds a program or an erase that runs
    idle_at : (opcode : ℕ) → (row_of opcode).running ≡ false → (row_of opcode).suspended ≡ false → f.opcode ≡ opcode → is_job k.job.kind ≡ false
    idle_at opcode r s e = finds_idle opcode (subst (Allowed k) e open-to) r s

    can_suspend : f.opcode ≡ suspend → suspendable k ≡ true
    can_suspend e = found (suspendable k) k.waiting (subst (λ (q : ℕ). pointless k q ≡ false) e acts-now.acts)

    -- a resume is turned away while a job runs, so it finds none that waits
    resume_unmarked : f.opcode ≡ resume → k.waiting ≡ false
    unfolding row_of row_in
    resume_unmarked e = not_so k.waiting (λ w. false≢true ((subst (Allowed k) e open-to).while_running (and_left (running k) (has_cells k.job.kind) (l.waiting_runs_lem w))))

    instantly_legal : LegalCore S (with_armed a (instantly k f.opcode))
    unfolding row_of row_in
    instantly_legal =
        instantly-each k f.opcode (λ (q : Core). LegalCore S (with_armed a q))
        (λ _. flags_legal true k.suspended k.waiting k.deep a (λ _. refl) l.suspended_cells l.waiting_runs_lem l.deep_idle asleep_unarmed)
        (λ e.
        flags_legal false k.suspended k.waiting k.deep a (λ j. absurd (false≢true (sym (idle_at write_disable refl refl e) ∙ j)))
        l.suspended_cells l.waiting_runs_lem l.deep_idle asleep_unarmed)
        (λ e. flags_legal k.wen k.suspended true k.deep a l.job_enabled_lem l.suspended_cells (λ _. can_suspend e) l.deep_idle asleep_unarmed)
        (λ e.
        flags_legal k.wen false k.waiting k.deep a l.job_enabled_lem (λ h. absurd (false≢true h)) (λ h. absurd (false≢true (sym (resume_unmarked e) ∙ h)))
        l.deep_idle asleep_unarmed)
        (λ _. flags_legal k.wen k.suspended k.waiting false a l.job_enabled_lem l.suspended_cells l.waiting_runs_lem (λ h. absurd (false≢true h)) (λ h. absurd (false≢true h)))
        (λ e.
        flags_legal k.wen k.suspended k.waiting true a l.job_enabled_lem l.suspended_cells l.waiting_runs_lem (λ _. idle_at deep_power_down refl refl e)
        (λ _. unarmed deep_power_down e (λ q. omega arith)))
        (λ _. idle-legal S (with_armed a (resets k)) refl l.level_small refl refl asleep_unarmed)
        (armed_legal a asleep_unarmed)

  -- ---- a verdict

  module _ (f : Frame) (loose : Bool) (s : 1 ≤ S) (known : judgement_known f.judgement ≡ true) where
    abbrev v : ℕ
    v = verdict S k f loose

    abbrev arms : Bool
    arms = eqb f.opcode reset_enable && eqb v 1

    acted_legal : Dec (v ≡ 2) → Dec (v ≡ 1) → LegalCore S (with_armed arms (acted S k f v))
    unfolding acted
    acted_legal (yes two) o =
        subst (λ (q : Core). LegalCore S (with_armed arms q)) (sym (cond_yes (eqb v 2) _ _ (eq-eqb _ _ two)))
        (begins_legal f arms s (verdict_two S k f loose known two))
    acted_legal (no two) (yes one) =
        subst (λ (q : Core). LegalCore S (with_armed arms q)) (sym (cond_no (eqb v 2) _ _ (ne_eqb _ _ two) ∙ cond_yes (eqb v 1) _ _ (eq-eqb _ _ one)))
        (instantly_legal f (verdict_one S k f loose known one) arms (λ h. eqb-true _ _ (and_left (eqb f.opcode reset_enable) (eqb v 1) h)))
    acted_legal (no two) (no one) =
        subst (λ (q : Core). LegalCore S (with_armed arms q)) (sym (acted-nothing S k f v one two))
        (armed_legal arms (λ _. not_so arms (λ h. one (eqb-true _ _ (and_right (eqb f.opcode reset_enable) (eqb v 1) h)))))

    pub settled_legal : LegalCore S (settled S k f v)
    unfolding settled
    settled_legal = cond_either (λ (q : Core). LegalCore S q) (eqb f.count 0) _ _ (λ _. l) (λ _. acted_legal (ℕ_discrete v 2) (ℕ_discrete v 1))
