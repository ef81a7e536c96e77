-- What Demand 3 says of ticks, of ours: idle ones do nothing, all of them leave what is not the job's, and a job that waits is suspended after one; and that it does not matter how ticks are split into events.
use Rattle.std.specs.Prelude.{ℕ, ◌+◌, ◌<◌, ◌≤◌, Bool, true, false, ◌&&◌, ◌||◌, List, [], ◌∷◌, ◌++◌, ◌≡◌, refl, ltb, leb, length}
use Rattle.std.proofs.lemmas.Bool.{false≢true}
use Rattle.std.proofs.Common.{append-nil, sym, ap, subst, ◌∙◌, add_assoc, arith, lt-ltb, ltb-true, le-leb}
use Rattle.std.proofs.Math.Decide.{dec_lt}
use Rattle.cells.specs.Choice.{and_left, and_right, and_both, not_so}
use Rattle.part.specs.Part.{Setting, sectors_in, setting_of}
use Rattle.chip.specs.declared.Chip.{Chip}
use Rattle.chip.specs.declared.Core.{Core}
use Rattle.chip.specs.declared.JobKind.{JobKind}
use Rattle.chip.specs.Job.{has_cells, total}
use Rattle.chip.specs.Chip.{whole, running}
use Rattle.legal.proofs.Legality.{LegalCore, chip-facts}
use Rattle.kinds.specs.Kinds.{known_kind, known_in_script, kind_row, kind_row_in}
use Rattle.job.specs.Tick.{advanced, steps_left, ticks_left, ticks_core, worked, ended_as}
use Rattle.job.proofs.Laws.{Stop, pauses, ends, stop-of, waits_one, ticks-rest, ticks_load-rest, ticks_memory-rest, worked-rest, ticks_go, ticks_pause, ticks_end, ended-each, ticks-add, ticks_load-add, ticks_memory-add, worked-add}
use Rattle.event.specs.Event.{tick, applied}
use Rattle.script.specs.Run.{World, world, runs}
use Rattle.demands.specs.Model.{reply, ours, event, Good, AllGood, Fit, runs_by}
use Rattle.demands.specs.Demand3.{Ticking, one_tick_lem, many_ticks, TicksKeep}
use Rattle.meets.specs.Ours.{told, done_as, runs-ours}

-- nothing is wrong with an event of ticks
pub ticking-good : (kind body n : ℕ) → Ticking kind body n → Good (event kind body)
unfolding known_kind known_in_script kind_row kind_row_in
ticking-good kind body n (one_tick_lem b) = (refl, refl)
ticking-good kind body n (many_ticks t some most) = (refl, and_both (leb 1 t) (leb t 65535) (le-leb 1 t some) (le-leb t 65535 most))

-- it has at least one tick
ticking-some : (kind body n : ℕ) → Ticking kind body n → 1 ≤ n
ticking-some kind body n (one_tick_lem b) = omega arith
ticking-some kind body n (many_ticks t some most) = some

-- and it is what n ticks do
ticking-applied : (T : Setting) (c : Chip) (m : List ℕ) (kind body n : ℕ) → Ticking kind body n → applied T c m kind body ≡ tick T c m n
unfolding applied
ticking-applied T c m kind body n (one_tick_lem b) = refl
ticking-applied T c m kind body n (many_ticks t some most) = refl

ticking-as : (c : Chip) (m area : List ℕ) (kind body n : ℕ) → Fit c m area → Ticking kind body n → ours c m area kind body ≡ told (tick (setting_of (length m) area) c m n)
ticking-as c m area kind body n fit ticking =
    let good : Good (event kind body) = ticking-good kind body n ticking in
    done_as c m area fit kind body good.0 good.1 ∙ ap told (ticking-applied (setting_of (length m) area) c m kind body n ticking)

pub ours-idle_ticks : (c : Chip) (m area : List ℕ) (kind body n : ℕ) → Fit c m area → Ticking kind body n → running c.core ≡ false → ours c m area kind body ≡ reply c m [] 0
ours-idle_ticks c m area kind body n fit ticking idle =
    let S : ℕ = sectors_in (length m) in
    ticking-as c m area kind body n fit ticking
    ∙ (λ i.
    reply (whole (ticks-rest S n c.core idle i) c.frame c.load (ticks_load-rest S n c.core c.held idle i)) (ticks_memory-rest S n c.core c.held m idle i) [] (worked-rest S n c.core idle i))

-- what no number of ticks changes of the core
record CoreKeeps (k k' : Core) : Type 0 where
  wp_same : k'.wp ≡ k.wp
  deep_same : k'.deep ≡ k.deep
  armed_same : k'.armed ≡ k.armed

ended-keeps : (kind : JobKind) (k : Core) → CoreKeeps k (ended_as kind k)
ended-keeps kind k = ended-each kind k (CoreKeeps k) (record { wp_same = refl; deep_same = refl; armed_same = refl }) (λ _. record { wp_same = refl; deep_same = refl; armed_same = refl })

ticks-keep_core : (S n : ℕ) (k : Core) → CoreKeeps k (ticks_core S n k)
ticks-keep_core S n k = go (running k) refl (dec_lt n (ticks_left S k)) (stop-of S k)
  where
    go : (b : Bool) → running k ≡ b → Dec (n < ticks_left S k) → Stop S k → CoreKeeps k (ticks_core S n k)
    go false r l s = subst (CoreKeeps k) (sym (ticks-rest S n k r)) (record { wp_same = refl; deep_same = refl; armed_same = refl })
    go true r (yes l) s = subst (CoreKeeps k) (sym (ticks_go S k r n l)) (record { wp_same = refl; deep_same = refl; armed_same = refl })
    go true r (no l) (pauses waits more) = subst (CoreKeeps k) (sym (ticks_pause S k r n (omega arith) waits more)) (record { wp_same = refl; deep_same = refl; armed_same = refl })
    go true r (no l) (ends all) = subst (CoreKeeps k) (sym (ticks_end S k r n (omega arith) all)) (ended-keeps k.job.kind k)

-- ---- the wait

-- whether the next step is not the last
abbrev steps_after : ℕ → Core → Bool
steps_after S k = ltb (k.job.done + 1) (total k.job.kind S)

-- what ticks make of SUS and the mark: a job that waited is suspended if a step is left after the next, and waits no longer
record WaitOver (S : ℕ) (k k' : Core) : Type 0 where
  suspended_is : k'.suspended ≡ (k.suspended || k.waiting && steps_after S k)
  wait_over : k'.waiting ≡ false

or_nothing : (b x : Bool) → x ≡ false → b ≡ (b || x)
or_nothing true x e = refl
or_nothing false x e = sym e

or-true : (b x : Bool) → x ≡ true → (b || x) ≡ true
or-true true x e = refl
or-true false x e = e

-- where no job waits, and where nothing comes after the next step, SUS stays
unmarked_over : (S : ℕ) (k k' : Core) → k'.suspended ≡ k.suspended → k.waiting ≡ false → k'.waiting ≡ k.waiting → WaitOver S k k'
unmarked_over S k k' same unmarked mark =
    record { suspended_is = same ∙ or_nothing k.suspended _ (ap (λ (w : Bool). w && steps_after S k) unmarked); wait_over = mark ∙ unmarked }

ended-over : (S : ℕ) (k : Core) (kind : JobKind) → (k.waiting && steps_after S k) ≡ false → WaitOver S k (ended_as kind k)
ended-over S k kind last =
    let stays : k.suspended ≡ (k.suspended || k.waiting && steps_after S k) = or_nothing k.suspended _ last in
    ended-each kind k (WaitOver S k) (record { suspended_is = stays; wait_over = refl }) (λ _. record { suspended_is = stays; wait_over = refl })

module _ (S n : ℕ) (some : 1 ≤ n) (k : Core) (l : LegalCore S k) where
  -- a job that waits runs
  unmarked_at_rest : running k ≡ false → k.waiting ≡ false
  unmarked_at_rest rests = not_so k.waiting (λ w. false≢true (sym rests ∙ and_left (running k) (has_cells k.job.kind) (l.waiting_runs_lem w)))

  -- and stops at its next tick
  unmarked_going : n < ticks_left S k → k.waiting ≡ false
  unmarked_going going = not_so k.waiting (λ w. absurd (omega (arith, waits_one S k w)))

  nothing_after : ticks_left S k ≡ steps_left S k → (k.waiting && steps_after S k) ≡ false
  nothing_after all =
      not_so (k.waiting && steps_after S k) (λ h.
      let waits : k.waiting ≡ true = and_left k.waiting (steps_after S k) h in
      let more : k.job.done + 1 < total k.job.kind S = ltb-true _ _ (and_right k.waiting (steps_after S k) h) in
      omega (arith, all, waits_one S k waits))

  ticks_wait_over : WaitOver S k (ticks_core S n k)
  ticks_wait_over = go (running k) refl (dec_lt n (ticks_left S k)) (stop-of S k)
    where
      go : (b : Bool) → running k ≡ b → Dec (n < ticks_left S k) → Stop S k → WaitOver S k (ticks_core S n k)
      go false r d s = subst (WaitOver S k) (sym (ticks-rest S n k r)) (unmarked_over S k k refl (unmarked_at_rest r) refl)
      go true r (yes going) s = subst (WaitOver S k) (sym (ticks_go S k r n going)) (unmarked_over S k (advanced n k) refl (unmarked_going going) refl)
      go true r (no done) (pauses waits more) =
          subst (WaitOver S k) (sym (ticks_pause S k r n (omega arith) waits more))
          (record { suspended_is = sym (or-true k.suspended _ (and_both k.waiting (steps_after S k) waits (lt-ltb _ _ more))); wait_over = refl })
      go true r (no done) (ends all) = subst (WaitOver S k) (sym (ticks_end S k r n (omega arith) all)) (ended-over S k k.job.kind (nothing_after all))

pub ours-ticks_keep : (c : Chip) (m area : List ℕ) (kind body n : ℕ) → Fit c m area → Ticking kind body n → TicksKeep c m (ours c m area kind body)
ours-ticks_keep c m area kind body n fit ticking =
    let keeps : CoreKeeps c.core (ticks_core (sectors_in (length m)) n c.core) = ticks-keep_core (sectors_in (length m)) n c.core in
    let over : WaitOver (sectors_in (length m)) c.core (ticks_core (sectors_in (length m)) n c.core)
    = ticks_wait_over (sectors_in (length m)) n (ticking-some kind body n ticking) c.core (chip-facts c (length m) fit.state_legal).core_part in
    subst (TicksKeep c m) (sym (ticking-as c m area kind body n fit ticking))
    (record {
      says_nothing = refl;
      frame_same = refl;
      load_same = refl;
      suspended_is = over.suspended_is;
      wait_over = over.wait_over;
      wp_same = keeps.wp_same;
      deep_same = keeps.deep_same;
      armed_same = keeps.armed_same;
    })

-- ---- ticks in one event or in two

-- n ticks and then k, each in an event of its own, are n + k in one: whatever waits, ends or is suspended in between, and however they are split.
pub ticks-split : (area : List ℕ) (w : World) (n k : ℕ) → Fit w.chip w.memory area → 1 ≤ n → 1 ≤ k → n + k ≤ 65535
    → runs_by ours area (event 0x05 n ∷ event 0x05 k ∷ []) w ≡ runs_by ours area (event 0x05 (n + k) ∷ []) w
unfolding runs applied AllGood
ticks-split area w n k fit some more most =
    runs-ours area (event 0x05 n ∷ event 0x05 k ∷ []) w fit (good n some (omega arith), (good k more (omega arith), tt))
    ∙ (λ i.
    world (whole (sym (ticks-add S n k c) i) w.chip.frame w.chip.load (sym (ticks_load-add S n k c held) i)) (sym (ticks_memory-add S n k c held w.memory) i)
    (append-nil (w.written ++ []) i) (counted i))
    ∙ sym (runs-ours area (event 0x05 (n + k) ∷ []) w fit (good (n + k) (omega arith) most, tt))
  where
    S : ℕ
    S = sectors_in (length w.memory)

    c : Core
    c = w.chip.core

    held : List ℕ
    held = w.chip.held

    good : (t : ℕ) → 1 ≤ t → t ≤ 65535 → Good (event 0x05 t)
    good t some most = ticking-good 0x05 t t (many_ticks t some most)

    counted : w.ticks + worked S n c + worked S k (ticks_core S n c) ≡ w.ticks + worked S (n + k) c
    counted = add_assoc w.ticks (worked S n c) (worked S k (ticks_core S n c)) ∙ ap (λ (t : ℕ). w.ticks + t) (sym (worked-add S n k c))
