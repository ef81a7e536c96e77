-- A gone job leaves nothing behind (RULES, Jobs): what each event does to the job and its load, and that a state without leftovers stays so.
use Rattle.std.specs.Prelude.{ℕ, ◌<◌, Bool, true, false, List, ◌≡◌, eqb, ltb}
use Rattle.std.proofs.lemmas.Bool.{false≢true}
use Rattle.std.proofs.Math.Path.{refl, ap}
use Rattle.std.proofs.Common.{sym, subst, ◌∙◌, arith, eq-eqb, ne_eqb}
use Rattle.std.proofs.Math.Decide.{ℕ_discrete, dec_lt}
use Rattle.cells.specs.Choice.{cond_yes, cond_no, cond_either, not_so}
use Rattle.part.specs.Part.{Setting}
use Rattle.commands.specs.Table.{is_program, write_status, reset}
use Rattle.kinds.specs.Kinds.{POWER}
use Rattle.chip.specs.declared.Chip.{Chip}
use Rattle.chip.specs.declared.Core.{Core}
use Rattle.chip.specs.declared.Frame.{Frame}
use Rattle.chip.specs.declared.Job.{Job}
use Rattle.chip.specs.declared.JobKind.TheVariants.{Idle, Program}
use Rattle.chip.specs.Fields.{with_done}
use Rattle.chip.specs.Job.{is_job, no_job}
use Rattle.chip.specs.Chip.{blank_load, fresh, running, NoLeftovers}
use Rattle.legal.specs.Legal.{legal, judgement_known}
use Rattle.legal.proofs.Legality.{chip-facts}
use Rattle.job.specs.Tick.{ticks_core, ticks_load, ticks_left}
use Rattle.job.proofs.Laws.{Stop, pauses, ends, stop-of, ticks-rest, ticks_load-rest, ticks_go, ticks_load_go, ticks_pause, ticks_load_pause, ticks_end, ticks_load_end, ended-none}
use Rattle.job.proofs.Legality.{running-job}
use Rattle.verdict.specs.Verdict.{job_of, job_asked, verdict}
use Rattle.verdict.specs.Effect.{instantly, acted, settled, held_after}
use Rattle.verdict.proofs.Laws.{Begins, verdict_two, settled_same, held_begun, held_reset, held_stays}
use Rattle.event.specs.Event.{Outcome, deselect, applied}
use Rattle.event.proofs.Laws.{applied-each}

-- What an event does to the job and its load: both stay; both are gone; the job moves on with its load; or another begins, and holds a load only if it is a program.
pub data Fate (j : Job) (held : List ℕ) : Job → List ℕ → Type 0 where
  stays : Fate j held j held
  gone : Fate j held no_job blank_load
  moves : (done : ℕ) → is_job j.kind ≡ true → Fate j held (with_done done j) held
  begins : (j' : Job) (held' : List ℕ) → is_job j'.kind ≡ true → ((j'.kind ≡ Program → ⊥) → held' ≡ blank_load) → Fate j held j' held'

-- ---- ticks

module _ (j : Job) (held : List ℕ) where
  -- a fate told of an equal job and load
  fated : {j₁ j₂ : Job} {h₁ h₂ : List ℕ} → j₂ ≡ j₁ → h₂ ≡ h₁ → Fate j held j₁ h₁ → Fate j held j₂ h₂
  fated {j₁} {j₂} {h₁} {h₂} e d f = subst (λ (q : Job). Fate j held q h₂) (sym e) (subst (λ (l : List ℕ). Fate j held j₁ l) (sym d) f)

ticks-fate : (S n : ℕ) (k : Core) (held : List ℕ) → Fate k.job held (ticks_core S n k).job (ticks_load S n k held)
ticks-fate S n k held = go (running k) refl (dec_lt n (ticks_left S k)) (stop-of S k)
  where
    job_of_lem : Core → Job
    job_of_lem q = q.job

    go : (b : Bool) → running k ≡ b → Dec (n < ticks_left S k) → Stop S k → Fate k.job held (ticks_core S n k).job (ticks_load S n k held)
    go false r d s = fated k.job held (ap job_of_lem (ticks-rest S n k r)) (ticks_load-rest S n k held r) stays
    go true r (yes l) s = fated k.job held (ap job_of_lem (ticks_go S k r n l)) (ticks_load_go S k r held n l) (moves _ (running-job k r))
    go true r (no l) (pauses waits more) =
        fated k.job held (ap job_of_lem (ticks_pause S k r n (omega arith) waits more)) (ticks_load_pause S k r n (omega arith) held waits more) (moves _ (running-job k r))
    go true r (no l) (ends all) =
        fated k.job held (ap job_of_lem (ticks_end S k r n (omega arith) all) ∙ ended-none k.job.kind k) (ticks_load_end S k r n (omega arith) held all) gone

-- ---- a deselect

-- an opcode that asks for a job other than a program is no program's
no_program : (opcode address : ℕ) → (job_of opcode address ≡ Program → ⊥) → is_program opcode ≡ false
unfolding job_of is_program
no_program opcode address other = go (ℕ_discrete opcode write_status)
  where
    go : Dec (opcode ≡ write_status) → is_program opcode ≡ false
    go (yes e) = ap is_program e
    go (no n) = not_so (is_program opcode) (λ p. other (cond_no (eqb opcode write_status) _ _ (ne_eqb _ _ n) ∙ cond_yes (is_program opcode) _ _ p))

module _ (S : ℕ) (k : Core) (f : Frame) (loose : Bool) (known : judgement_known f.judgement ≡ true) (load held : List ℕ) where
  abbrev v : ℕ
  v = verdict S k f loose

  -- a verdict other than 0 has a byte to speak of
  some_byte : (v ≡ 0 → ⊥) → eqb f.count 0 ≡ false
  unfolding verdict
  some_byte n = not_so (eqb f.count 0) (λ e. n (cond_yes (eqb f.count 0) _ _ e))

  acted_job : (v ≡ 0 → ⊥) → (settled S k f v).job ≡ (acted S k f v).job
  unfolding settled
  acted_job n = ap (λ (q : Core). q.job) (cond_no (eqb f.count 0) _ _ (some_byte n))

  begun_fate : v ≡ 2 → Fate k.job held (settled S k f v).job (held_after f v load held)
  unfolding acted
  begun_fate two =
      let b : Begins S k f = verdict_two S k f loose known two in
      let job : (settled S k f v).job ≡ job_asked S f = acted_job (λ z. omega arith) ∙ ap (λ (q : Core). q.job) (cond_yes (eqb v 2) _ _ (eq-eqb _ _ two)) in
      fated k.job held job refl
      (begins (job_asked S f) (held_after f v load held) b.begins_job_lem
      (λ h. held_begun f v load held two ∙ cond_no (is_program f.opcode) _ _ (no_program f.opcode f.address h)))

  -- a reset leaves nothing, whatever was lent
  pub reset_leaves_nothing : v ≡ 1 → f.opcode ≡ reset → ((settled S k f v).job ≡ no_job) × (held_after f v load held ≡ blank_load)
  unfolding acted instantly
  reset_leaves_nothing one r = (
    acted_job (λ z. omega arith) ∙ ap (λ (q : Core). q.job) (cond_no (eqb v 2) _ _ (ne_eqb v 2 (λ two. omega arith)) ∙ cond_yes (eqb v 1) _ _ (eq-eqb _ _ one)) ∙ ap (λ (o : ℕ). (instantly k o).job) r,
    held_reset f v load held one r,
  )

  verdict_fate : Fate k.job held (settled S k f v).job (held_after f v load held)
  verdict_fate = go (ℕ_discrete v 2) (ℕ_discrete v 1) (ℕ_discrete f.opcode reset)
    where
      go : Dec (v ≡ 2) → Dec (v ≡ 1) → Dec (f.opcode ≡ reset) → Fate k.job held (settled S k f v).job (held_after f v load held)
      go (yes two) one r = begun_fate two
      go (no two) (yes one) (yes r) = let none = reset_leaves_nothing one r in fated k.job held none.0 none.1 gone
      go (no two) (yes one) (no r) = fated k.job held (settled_same S k f v two (λ _ e. r e)).0 (held_stays f v load held two (λ _ e. r e)) stays
      go (no two) (no one) r = fated k.job held (settled_same S k f v two (λ e _. one e)).0 (held_stays f v load held two (λ e _. one e)) stays

-- ---- every event

abbrev FateOf : Chip → Outcome → Type 0
FateOf c o = Fate c.core.job c.held o.chip.core.job o.chip.held

deselect-fate : (T : Setting) (c : Chip) (m : List ℕ) (loose : Bool) → judgement_known c.frame.judgement ≡ true → FateOf c (deselect T c m loose)
deselect-fate T c m loose known =
    cond_either (FateOf c) c.frame.selected _ _ (λ _. verdict_fate T.sectors c.core c.frame loose known c.load c.held) (λ _. stays)

-- The fate of the job and its load under every event of a legal state.
pub event-fate : (T : Setting) (c : Chip) (m : List ℕ) (kind body : ℕ) → judgement_known c.frame.judgement ≡ true → FateOf c (applied T c m kind body)
event-fate T c m kind body known =
    applied-each T c m kind body (FateOf c)
    (λ _. stays) (λ _. stays)
    (λ _. deselect-fate T c m (ltb 0 body) known)
    (λ _. ticks-fate T.sectors 1 c.core c.held)
    (λ _. ticks-fate T.sectors body c.core c.held)
    (λ _. stays) (λ _. gone) (λ _. stays)

-- ---- what follows

-- A power cut leaves nothing, whatever was lent.
pub power_leaves_nothing : (T : Setting) (c : Chip) (m : List ℕ) (body : ℕ) → ((applied T c m POWER body).chip.core.job ≡ no_job) × ((applied T c m POWER body).chip.held ≡ blank_load)
unfolding applied
power_leaves_nothing T c m body = (refl, refl)

-- A job that was there and is not leaves a state with no job and a blank load, as a fresh one.
pub gone-leaves_nothing : (T : Setting) (c : Chip) (m : List ℕ) (n kind body : ℕ) → legal c n ≡ true → is_job c.core.job.kind ≡ true
    → is_job (applied T c m kind body).chip.core.job.kind ≡ false
    → ((applied T c m kind body).chip.core.job ≡ no_job) × ((applied T c m kind body).chip.held ≡ blank_load)
gone-leaves_nothing T c m n kind body l was is-not = go (event-fate T c m kind body (chip-facts c n l).frame_part.judgement_known_lem) was is-not
  where
    go : {j : Job} {held : List ℕ} {j' : Job} {held' : List ℕ} → Fate j held j' held' → is_job j.kind ≡ true → is_job j'.kind ≡ false → (j' ≡ no_job) × (held' ≡ blank_load)
    go stays p q = absurd (false≢true (sym q ∙ p))
    go gone p q = (refl, refl)
    go (moves done p') p q = absurd (false≢true (sym q ∙ p))
    go (begins j' held' p' h) p q = absurd (false≢true (sym q ∙ p'))

-- Once there are no leftovers there are none after any event; a fresh state has none.
pub no_leftovers_applied : (T : Setting) (c : Chip) (m : List ℕ) (n kind body : ℕ) → legal c n ≡ true → NoLeftovers c.core c.held
    → NoLeftovers (applied T c m kind body).chip.core (applied T c m kind body).chip.held
no_leftovers_applied T c m n kind body l none = go _ _ (event-fate T c m kind body (chip-facts c n l).frame_part.judgement_known_lem) none
  where
    go : (k k' : Core) {held held' : List ℕ} → Fate k.job held k'.job held' → NoLeftovers k held → NoLeftovers k' held'
    go k k' f n = record { load_blank = blank f n.load_blank; job_none = idle f n.job_none }
      where
        blank : {j j' : Job} {held held' : List ℕ} → Fate j held j' held' → ((j.kind ≡ Program → ⊥) → held ≡ blank_load) → (j'.kind ≡ Program → ⊥) → held' ≡ blank_load
        blank stays b e = b e
        blank gone b e = refl
        blank (moves done p) b e = b e
        blank (begins j' held' p h) b e = h e

        idle : {j j' : Job} {held held' : List ℕ} → Fate j held j' held' → (j.kind ≡ Idle → j ≡ no_job) → j'.kind ≡ Idle → j' ≡ no_job
        idle stays b e = b e
        idle gone b e = refl
        idle (moves done p) b e = absurd (false≢true (sym (ap is_job e) ∙ p))
        idle (begins j' held' p h) b e = absurd (false≢true (sym (ap is_job e) ∙ p))

pub no_leftovers_fresh : (status : ℕ) → NoLeftovers (fresh status).core (fresh status).held
unfolding fresh
no_leftovers_fresh status = record { load_blank = λ _. refl; job_none = λ _. refl }
