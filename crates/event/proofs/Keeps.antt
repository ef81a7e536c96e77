-- What an event leaves alone: the memory's length, the cells and the count of working ticks at every kind but ticks, and all but arming at verdicts 3 to 11.
use Rattle.std.specs.Prelude.{ℕ, Bool, List, ◌≡◌, refl, eqb, ltb, length}
use Rattle.std.proofs.Common.{ap}
use Rattle.cells.specs.Choice.{cond_either}
use Rattle.part.specs.Part.{Setting}
use Rattle.kinds.specs.Kinds.{TICK, TICKS}
use Rattle.chip.specs.declared.Chip.{Chip}
use Rattle.chip.specs.declared.Core.{Core}
use Rattle.chip.specs.declared.Frame.{Frame}
use Rattle.chip.specs.Chip.{status_byte}
use Rattle.job.proofs.Laws.{length-ticks}
use Rattle.verdict.specs.Verdict.{verdict}
use Rattle.verdict.specs.Effect.{settled}
use Rattle.verdict.proofs.Laws.{acted-nothing}
use Rattle.event.specs.Event.{Outcome, deselect, applied}
use Rattle.event.proofs.Laws.{applied-each}

-- a deselect has the memory as it was, and no working tick
deselect-still : (T : Setting) (c : Chip) (m : List ℕ) (loose : Bool) → ((deselect T c m loose).memory ≡ m) × ((deselect T c m loose).ticks ≡ 0)
deselect-still T c m loose = cond_either (λ (o : Outcome). (o.memory ≡ m) × (o.ticks ≡ 0)) c.frame.selected _ _ (λ _. (refl, refl)) (λ _. (refl, refl))

-- Memory keeps its length.
pub length-applied : (T : Setting) (c : Chip) (m : List ℕ) (kind body : ℕ) → length (applied T c m kind body).memory ≡ length m
length-applied T c m kind body =
    applied-each T c m kind body (λ (o : Outcome). length o.memory ≡ length m)
    (λ _. refl)
    (λ _. refl)
    (λ _. ap length (deselect-still T c m (ltb 0 body)).0)
    (λ _. length-ticks T.sectors 1 c.core c.held m)
    (λ _. length-ticks T.sectors body c.core c.held m)
    (λ _. refl)
    (λ _. refl)
    (λ _. refl)

-- An event of a kind other than ticks changes no cell and works no tick.
still : (T : Setting) (c : Chip) (m : List ℕ) (kind body : ℕ) → (kind ≡ TICK → ⊥) → (kind ≡ TICKS → ⊥) → ((applied T c m kind body).memory ≡ m) × ((applied T c m kind body).ticks ≡ 0)
still T c m kind body not-tick not-ticks =
    applied-each T c m kind body (λ (o : Outcome). (o.memory ≡ m) × (o.ticks ≡ 0))
    (λ _. (refl, refl))
    (λ _. (refl, refl))
    (λ _. deselect-still T c m (ltb 0 body))
    (λ e. absurd (not-tick e))
    (λ e. absurd (not-ticks e))
    (λ _. (refl, refl))
    (λ _. (refl, refl))
    (λ _. (refl, refl))

pub cells_stay : (T : Setting) (c : Chip) (m : List ℕ) (kind body : ℕ) → (kind ≡ TICK → ⊥) → (kind ≡ TICKS → ⊥) → (applied T c m kind body).memory ≡ m
cells_stay T c m kind body not-tick not-ticks = (still T c m kind body not-tick not-ticks).0

pub works_none : (T : Setting) (c : Chip) (m : List ℕ) (kind body : ℕ) → (kind ≡ TICK → ⊥) → (kind ≡ TICKS → ⊥) → (applied T c m kind body).ticks ≡ 0
works_none T c m kind body not-tick not-ticks = (still T c m kind body not-tick not-ticks).1

-- Verdicts 3 to 11 change no job and no status bit, and WEN stays; so do all verdicts but 1 and 2.
pub record Untouched (k k' : Core) : Type 0 where
  pub job_stays : k'.job ≡ k.job
  pub status_stays : status_byte k' ≡ status_byte k
  pub wen_stays : k'.wen ≡ k.wen

pub settled-untouched : (S : ℕ) (k : Core) (f : Frame) (v : ℕ) → (v ≡ 1 → ⊥) → (v ≡ 2 → ⊥) → Untouched k (settled S k f v)
unfolding settled status_byte
settled-untouched S k f v not_one not-two =
    cond_either (Untouched k) (eqb f.count 0) _ _ (λ _. record { job_stays = refl; status_stays = refl; wen_stays = refl })
    (λ _. rw (acted-nothing S k f v not_one not-two) (record { job_stays = refl; status_stays = refl; wen_stays = refl }))

-- the same of the whole deselect, by the verdict that it gives
pub deselect-untouched : (T : Setting) (c : Chip) (m : List ℕ) (loose : Bool) → (verdict T.sectors c.core c.frame loose ≡ 1 → ⊥)
    → (verdict T.sectors c.core c.frame loose ≡ 2 → ⊥) → Untouched c.core (deselect T c m loose).chip.core
deselect-untouched T c m loose not_one not-two =
    cond_either (λ (o : Outcome). Untouched c.core o.chip.core) c.frame.selected _ _
    (λ _. settled-untouched T.sectors c.core c.frame _ not_one not-two)
    (λ _. record { job_stays = refl; status_stays = refl; wen_stays = refl })
