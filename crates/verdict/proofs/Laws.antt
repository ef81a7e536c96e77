-- What is true of verdicts: what 1, 2 and 9 say of the frame and the state, what is said of them, and that the others change no job and no status bit.
use Rattle.std.specs.Prelude.{ℕ, ◌/◌, ◌≤◌, Bool, true, cond, ◌&&◌, ◌||◌, List, ◌≡◌, refl, length, get_or, None, Some}
use Rattle.std.proofs.Math.Bool.{false, not}
use Rattle.std.proofs.lemmas.Bool.{false≢true}
use Rattle.std.proofs.Common.{sym, ap, ◌∙◌, arith}
use Rattle.std.proofs.Math.Path.{subst}
use Rattle.std.proofs.Math.Decide.{ℕ_discrete}
use Rattle.std.proofs.Math.Dec.{eqb}
use borrow.Author.Tests.{eq-eqb, ne_eqb, eqb-true, not-true, not-false}
use Rattle.cells.specs.Choice.{cond_yes, cond_no, cond_either, and_left, and_right, and_both, not_so}
use Rattle.part.specs.Part.{sector}
use Rattle.part.specs.Protection.{Protected, protected_count, first_end, last_end, protected_sectors, protects, protects_any, is_protected}
use Rattle.part.proofs.Laws.{no_ends, two_ends}
use Rattle.commands.specs.Table.{row_of, fits_rule, is_read, is_program, write_enable, write_disable, suspend, resume, wake, deep_power_down, reset_enable, reset}
use Rattle.chip.specs.declared.Core.{Core}
use Rattle.chip.specs.declared.Frame.{Frame}
use Rattle.chip.specs.declared.Job.{Job}
use Rattle.chip.specs.declared.JobKind.{JobKind}
use Rattle.chip.specs.declared.JobKind.TheVariants.{Idle, WriteStatus, Program, SmallErase, SectorErase, ChipErase}
use Rattle.chip.specs.declared.Record.{Record}
use Rattle.chip.specs.declared.Record.TheVariants.{Verdict, InTheWay}
use Rattle.chip.specs.Fields.{with_wen, with_suspended, with_waiting, with_deep, with_armed}
use Rattle.chip.specs.Job.{is_job, has_cells}
use Rattle.chip.specs.Chip.{bits_of, blank_load}
use Rattle.chip.specs.Record.{record_bytes}
use Rattle.legal.specs.Legal.{judgement_known}
use Rattle.frame.specs.Frame.{judge}
use Rattle.frame.specs.Legality.{judge-known}
use Rattle.verdict.specs.Verdict.{job_of, job_asked, target_protected, pointless, job_verdict, command_verdict, listed, verdict, in_the_way, record_of}
use Rattle.verdict.specs.Effect.{resets, instantly, acted, settled, held_after}

-- what verdict 2 says: the frame begins a job, WEN is 1 and the target is free
pub record Begins (S : ℕ) (k : Core) (f : Frame) : Type 0 where
  pub judged_none : judge k f.opcode ≡ 0
  pub begins_job_lem : is_job (job_of f.opcode f.address) ≡ true
  pub enabled : k.wen ≡ true
  pub target_free : target_protected S k (job_asked S f).kind (job_asked S f).start ≡ false

-- what verdict 1 says: the frame begins no job, and has something to act on
pub record ActsAtOnce (k : Core) (f : Frame) : Type 0 where
  pub judged_none : judge k f.opcode ≡ 0
  pub begins_none : is_job (job_of f.opcode f.address) ≡ false
  pub acts : pointless k f.opcode ≡ false

module _ (S : ℕ) (k : Core) (f : Frame) (loose : Bool) (known : judgement_known f.judgement ≡ true) where
  abbrev kind : JobKind
  kind = job_of f.opcode f.address

  abbrev start : ℕ
  start = (job_asked S f).start

  -- what holds of each number of the list, where its test is the first that applies, holds of the verdict
  verdict_each : (P : ℕ → Type 0)
      → ((v : ℕ) → judgement_known v ≡ true → P v)
      → P 4
      → P 11
      → (k.wen ≡ false → P 8)
      → P 10
      → (target_protected S k kind start ≡ true → P 9)
      → (Begins S k f → P 2)
      → (ActsAtOnce k f → P 1)
      → P (verdict S k f loose)
  unfolding verdict listed command_verdict job_verdict
  verdict_each P judged p₄ p₁₁ p₈ p₁₀ p₉ p₂ p₁ =
      cond_either P (eqb f.count 0) _ _ (λ _. judged 0 refl)
      (λ _. cond_either P (not (eqb f.judgement 0)) _ _ (λ _. judged f.judgement known)
      (λ _. cond_either P (not (eqb (judge k f.opcode) 0)) _ _ (λ _. judged (judge k f.opcode) (judge-known k f.opcode))
      (λ none. cond_either P (is_read f.opcode) _ _ (λ _. judged 0 refl)
      (λ _. cond_either P (loose || not (fits_rule (row_of f.opcode).rule f.count)) _ _ (λ _. p₄)
      (λ _. cond_either P (pointless k f.opcode) _ _ (λ _. p₁₁)
      (λ acts. cond_either P (is_job kind) _ _
      (λ job. cond_either P (not k.wen) _ _ (λ off. p₈ (not-true k.wen off))
      (λ on. cond_either P (not (has_cells kind) && k.srwp && not k.wp) _ _ (λ _. p₁₀)
      (λ _. cond_either P (target_protected S k kind start) _ _ p₉
      (λ free. p₂ (record { judged_none = unjudged none; begins_job_lem = job; enabled = not-false k.wen on; target_free = free })))))
      (λ none-begun. p₁ (record { judged_none = unjudged none; begins_none = none-begun; acts = acts }))))))))
    where
      unjudged : not (eqb (judge k f.opcode) 0) ≡ false → judge k f.opcode ≡ 0
      unjudged none = eqb-true _ _ (not-false _ none)

  -- 1, 2, 8 and 9 are no judgements
  not_judged : (v u : ℕ) → judgement_known u ≡ false → judgement_known v ≡ true → v ≡ u → ⊥
  not_judged v u other known e = false≢true (sym other ∙ ap judgement_known (sym e) ∙ known)

  pub verdict_two : verdict S k f loose ≡ 2 → Begins S k f
  verdict_two =
      verdict_each (λ v. v ≡ 2 → Begins S k f) (λ v known e. absurd (not_judged v 2 refl known e)) (λ e. absurd (omega arith)) (λ e. absurd (omega arith))
      (λ _ e. absurd (omega arith)) (λ e. absurd (omega arith)) (λ _ e. absurd (omega arith)) (λ begins _. begins) (λ _ e. absurd (omega arith))

  pub verdict_one : verdict S k f loose ≡ 1 → ActsAtOnce k f
  verdict_one =
      verdict_each (λ v. v ≡ 1 → ActsAtOnce k f) (λ v known e. absurd (not_judged v 1 refl known e)) (λ e. absurd (omega arith)) (λ e. absurd (omega arith))
      (λ _ e. absurd (omega arith)) (λ e. absurd (omega arith)) (λ _ e. absurd (omega arith)) (λ _ e. absurd (omega arith)) (λ acts _. acts)

  -- verdict 8 finds WEN at 0
  pub verdict_eight : verdict S k f loose ≡ 8 → k.wen ≡ false
  verdict_eight =
      verdict_each (λ v. v ≡ 8 → k.wen ≡ false) (λ v known e. absurd (not_judged v 8 refl known e)) (λ e. absurd (omega arith)) (λ e. absurd (omega arith))
      (λ off _. off) (λ e. absurd (omega arith)) (λ _ e. absurd (omega arith)) (λ _ e. absurd (omega arith)) (λ _ e. absurd (omega arith))

  -- verdict 9 finds the target protected
  verdict_nine : verdict S k f loose ≡ 9 → target_protected S k kind start ≡ true
  verdict_nine =
      verdict_each (λ v. v ≡ 9 → target_protected S k kind start ≡ true) (λ v known e. absurd (not_judged v 9 refl known e)) (λ e. absurd (omega arith)) (λ e. absurd (omega arith))
      (λ _ e. absurd (omega arith)) (λ e. absurd (omega arith)) (λ kept_off _. kept_off) (λ _ e. absurd (omega arith)) (λ _ e. absurd (omega arith))

  -- so there are protected sectors to tell of
  pub nine_finds : verdict S k f loose ≡ 9 → protected_count k.level S ≡ 0 → ⊥
  nine_finds h none = false≢true (sym (free kind) ∙ verdict_nine h)
    where
      nothing : protected_sectors k.level k.tb S ≡ None
      nothing = no_ends k.level k.tb S none

      at : (x : ℕ) → is_protected k.level k.tb S x ≡ false
      at x = ap (λ (range : Protected). protects range x) nothing

      free : (kind : JobKind) → target_protected S k kind start ≡ false
      free Idle = refl
      free (WriteStatus value) = refl
      free Program = at (start / sector)
      free SmallErase = at (start / sector)
      free SectorErase = at (start / sector)
      free ChipErase = ap protects_any nothing

  -- the list ends at 11
  pub verdict_most : verdict S k f loose ≤ 11
  verdict_most =
      verdict_each (λ v. v ≤ 11) judged (omega arith) (omega arith) (λ _. omega arith) (omega arith) (λ _. omega arith) (λ _. omega arith) (λ _. omega arith)
    where
      judged : (v : ℕ) → judgement_known v ≡ true → v ≤ 11
      judged v = go (ℕ_discrete v 0) (ℕ_discrete v 3) (ℕ_discrete v 5) (ℕ_discrete v 6) (ℕ_discrete v 7)
        where
          go : Dec (v ≡ 0) → Dec (v ≡ 3) → Dec (v ≡ 5) → Dec (v ≡ 6) → Dec (v ≡ 7) → judgement_known v ≡ true → v ≤ 11
          go (yes e) a b c d h = omega arith
          go (no z) (yes e) b c d h = omega arith
          go (no z) (no a) (yes e) c d h = omega arith
          go (no z) (no a) (no b) (yes e) d h = omega arith
          go (no z) (no a) (no b) (no c) (yes e) h = omega arith
          go (no z) (no a) (no b) (no c) (no d) h = absurd (false≢true (sym (rw (ne_eqb _ _ z, ne_eqb _ _ a, ne_eqb _ _ b, ne_eqb _ _ c, ne_eqb _ _ d)) ∙ h))

-- the record of a verdict other than 9 is its number
pub record_plain : (S : ℕ) (k : Core) (v : ℕ) → (v ≡ 9 → ⊥) → record_of S k v ≡ Verdict v
unfolding record_of
record_plain S k v other = cond_no (eqb v 9) _ _ (ne_eqb _ _ other)

-- so a record that says a verdict by its number says the verdict that fell
pub record_tells : (S : ℕ) (k : Core) (u v : ℕ) → record_of S k u ≡ Verdict v → u ≡ v
unfolding record_of
record_tells S k u v = go (ℕ_discrete u 9)
  where
    number : {a b : ℕ} → Verdict a ≡ Verdict b → a ≡ b
    number e = ap (λ (r : Record). get_or (record_bytes r) 1 0) e

    at : (range : Protected) → in_the_way range ≡ Verdict v → 9 ≡ v
    at None e = number e
    at (Some ends) e = let longer : ◌≡◌ {A = ℕ} 3 2 = ap (λ (r : Record). length (record_bytes r)) e in absurd (omega arith)

    go : Dec (u ≡ 9) → record_of S k u ≡ Verdict v → u ≡ v
    go (yes nine) e = nine ∙ at (protected_sectors k.level k.tb S) (sym (ap (record_of S k) nine) ∙ e)
    go (no other) e = number (sym (record_plain S k u other) ∙ e)

-- and the record of 9 is the two ends of what is protected, where something is
pub record_nine : (S : ℕ) (k : Core) → (protected_count k.level S ≡ 0 → ⊥)
    → record_of S k 9 ≡ InTheWay (first_end (protected_count k.level S) k.tb S) (last_end (protected_count k.level S) k.tb S)
unfolding record_of
record_nine S k some = ap in_the_way (two_ends k.level k.tb S some)

-- the verdict on a command with something to act on, by the job that it asks for
pub command_as : (S : ℕ) (k : Core) (f : Frame) (j : Job) → pointless k f.opcode ≡ false → j ≡ job_asked S f → command_verdict S k f ≡ cond (is_job j.kind) (job_verdict S k j) 1
unfolding command_verdict
command_as S k f j h e = cond_no (pointless k f.opcode) _ _ h ∙ ap (λ (j : Job). cond (is_job j.kind) (job_verdict S k j) 1) (sym e)

-- every verdict but 1 and 2 changes no job and no status bit: only arming may go
pub acted-nothing : (S : ℕ) (k : Core) (f : Frame) (v : ℕ) → (v ≡ 1 → ⊥) → (v ≡ 2 → ⊥) → acted S k f v ≡ k
unfolding acted
acted-nothing S k f v not_one not-two = cond_no (eqb v 2) _ _ (ne_eqb _ _ not-two) ∙ cond_no (eqb v 1) _ _ (ne_eqb _ _ not_one)

-- what holds of each thing done at once holds of what an opcode does
pub instantly-each : (k : Core) (opcode : ℕ) (P : Core → Type 0)
    → (opcode ≡ write_enable → P (with_wen true k))
    → (opcode ≡ write_disable → P (with_wen false k))
    → (opcode ≡ suspend → P (with_waiting true k))
    → (opcode ≡ resume → P (with_suspended false k))
    → (opcode ≡ wake → P (with_deep false k))
    → (opcode ≡ deep_power_down → P (with_deep true k))
    → (opcode ≡ reset → P (resets k))
    → P k
    → P (instantly k opcode)
unfolding instantly
instantly-each k opcode P p₁ p₂ p₃ p₄ p₅ p₆ p₇ p₈ =
    cond_either P (eqb opcode write_enable) _ _ (λ e. p₁ (eqb-true _ _ e))
    (λ _. cond_either P (eqb opcode write_disable) _ _ (λ e. p₂ (eqb-true _ _ e))
    (λ _. cond_either P (eqb opcode suspend) _ _ (λ e. p₃ (eqb-true _ _ e))
    (λ _. cond_either P (eqb opcode resume) _ _ (λ e. p₄ (eqb-true _ _ e))
    (λ _. cond_either P (eqb opcode wake) _ _ (λ e. p₅ (eqb-true _ _ e))
    (λ _. cond_either P (eqb opcode deep_power_down) _ _ (λ e. p₆ (eqb-true _ _ e))
    (λ _. cond_either P (eqb opcode reset) _ _ (λ e. p₇ (eqb-true _ _ e)) (λ _. p₈)))))))

-- what neither begins a job nor resets leaves the job and the kept bits
module _ (S : ℕ) (k : Core) (f : Frame) (v : ℕ) (not-begun : v ≡ 2 → ⊥) (not-reset : v ≡ 1 → f.opcode ≡ reset → ⊥) where
  abbrev Same : Core → Type 0
  Same q = (q.job ≡ k.job) × (bits_of q ≡ bits_of k)

  acted_same : Same (acted S k f v)
  unfolding acted
  acted_same = go (ℕ_discrete v 1)
    where
      go : Dec (v ≡ 1) → Same (acted S k f v)
      go (yes one) =
          subst Same (sym (cond_no (eqb v 2) _ _ (ne_eqb _ _ not-begun) ∙ cond_yes (eqb v 1) _ _ (eq-eqb _ _ one)))
          (instantly-each k f.opcode Same (λ _. (refl, refl)) (λ _. (refl, refl)) (λ _. (refl, refl)) (λ _. (refl, refl)) (λ _. (refl, refl)) (λ _. (refl, refl)) (λ e. absurd (not-reset one e)) (refl, refl))
      go (no one) = subst Same (sym (acted-nothing S k f v one not-begun)) (refl, refl)

  pub settled_same : ((settled S k f v).job ≡ k.job) × (bits_of (settled S k f v) ≡ bits_of k)
  unfolding settled
  settled_same = cond_either Same (eqb f.count 0) _ _ (λ _. (refl, refl)) (λ _. acted_same)

-- ---- a read

-- the verdict on a read that is allowed where it stands is 0, loose or not
pub verdict-read : (S : ℕ) (k : Core) (f : Frame) (loose : Bool) → f.judgement ≡ 0 → judge k f.opcode ≡ 0 → is_read f.opcode ≡ true → verdict S k f loose ≡ 0
unfolding verdict listed
verdict-read S k f loose unjudged allowed read =
    cond_either (λ (v : ℕ). v ≡ 0) (eqb f.count 0) _ _ (λ _. refl)
    (λ _. cond_no (not (eqb f.judgement 0)) _ _ (ap not (eq-eqb _ _ unjudged)) ∙ cond_no (not (eqb (judge k f.opcode) 0)) _ _ (ap not (eq-eqb _ _ allowed)) ∙ cond_yes (is_read f.opcode) _ _ read)

-- verdict 0 leaves a core that is not armed as it was
pub settled-read : (S : ℕ) (k : Core) (f : Frame) → k.armed ≡ false → settled S k f 0 ≡ k
unfolding settled acted
settled-read S k f unarmed =
    cond_either (λ (q : Core). q ≡ k) (eqb f.count 0) _ _ (λ _. refl) (λ _. ap (λ (b : Bool). with_armed b k) (and_false (eqb f.opcode reset_enable) ∙ sym unarmed))
  where
    and_false : (b : Bool) → (b && false) ≡ false
    and_false true = refl
    and_false false = refl

-- ---- the job's load

module _ (f : Frame) (v : ℕ) (load held : List ℕ) where
  pub held_begun : v ≡ 2 → held_after f v load held ≡ cond (is_program f.opcode) load blank_load
  unfolding held_after
  held_begun two = cond_yes (eqb v 2) _ _ (eq-eqb _ _ two)

  pub held_reset : v ≡ 1 → f.opcode ≡ reset → held_after f v load held ≡ blank_load
  unfolding held_after
  held_reset one r =
      cond_no (eqb v 2) _ _ (ne_eqb v 2 (λ two. omega arith)) ∙ cond_yes (eqb v 1 && eqb f.opcode reset) _ _ (and_both (eqb v 1) (eqb f.opcode reset) (eq-eqb _ _ one) (eq-eqb _ _ r))

  pub held_stays : (v ≡ 2 → ⊥) → (v ≡ 1 → f.opcode ≡ reset → ⊥) → held_after f v load held ≡ held
  unfolding held_after
  held_stays not-begun not-reset =
      cond_no (eqb v 2) _ _ (ne_eqb _ _ not-begun)
      ∙ cond_no (eqb v 1 && eqb f.opcode reset) _ _
      (not_so (eqb v 1 && eqb f.opcode reset) (λ h. not-reset (eqb-true _ _ (and_left (eqb v 1) (eqb f.opcode reset) h)) (eqb-true _ _ (and_right (eqb v 1) (eqb f.opcode reset) h))))
