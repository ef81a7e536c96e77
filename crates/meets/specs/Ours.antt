-- Ours, where nothing refuses: on a legal chip a good event does what the definitions say, and a row of them what `runs` says.
use Rattle.std.specs.Prelude.{ℕ, ◌+◌, ◌<◌, ◌-◌, min, Bool, true, false, cond, List, [], ◌∷◌, ◌++◌, ◌≡◌, refl, eqb, length}
use Rattle.std.proofs.lemmas.Bool.{false≢true, eqb-false}
use Rattle.std.proofs.Common.{sym, ap, subst, ◌∙◌, arith, eqb-true}
use Rattle.std.proofs.Math.Decide.{dec_lt}
use Rattle.cells.specs.Choice.{cond_either}
use Rattle.part.specs.Part.{Setting, sectors_in, setting_of}
use Rattle.chip.specs.declared.Chip.{Chip}
use Rattle.chip.specs.declared.Core.{Core}
use Rattle.chip.specs.Job.{total}
use Rattle.chip.specs.Chip.{running}
use Rattle.chip.specs.Record.{record_bytes}
use Rattle.legal.specs.Legal.{legal}
use Rattle.legal.proofs.Legality.{chip-facts, LegalCore}
use Rattle.kinds.specs.Kinds.{kind_row, kind_row_in, known_kind, in_range}
use Rattle.kinds.proofs.Laws.{kind_each, none_known}
use Rattle.job.specs.Tick.{worked, ticks_left}
use Rattle.job.proofs.Laws.{worked-rest, worked_go, worked_over}
use Rattle.job.proofs.Legality.{running-job}
use Rattle.event.specs.Event.{Outcome, applied}
use Rattle.event.specs.Alone.{body_used, refusal, happens}
use Rattle.event.proofs.Laws.{answer_done, memory_done, said_done}
use Rattle.event.proofs.Legality.{legal-applied}
use Rattle.event.proofs.Keeps.{length-applied, works_none}
use Rattle.script.specs.Script.{Event}
use Rattle.script.specs.Run.{World, world, does, onward, runs}
use Rattle.meets.specs.Refusals.{event-refused_when}
use Rattle.demands.specs.Model.{Reply, reply, replied, ours, Good, AllGood, Fit, onward_by, runs_by, finds, working_ticks, worked_by}
use Rattle.meets.specs.Stepwise as Stepwise

-- ---- one event

-- what an outcome of the definitions is as a reply
abbrev pub told : Outcome → Reply
told o = reply o.chip o.memory (record_bytes o.said) o.ticks

-- an event uses its body as it is, or has none
used_same : (T : Setting) (c : Chip) (m : List ℕ) (kind body : ℕ) → known_kind kind ≡ true → applied T c m kind (body_used kind body) ≡ applied T c m kind body
unfolding applied body_used kind_row kind_row_in
used_same T c m kind body =
    kind_each (λ k. known_kind k ≡ true → applied T c m k (body_used k body) ≡ applied T c m k body) (λ _. refl) (λ _. refl) (λ _. refl) (λ _. refl) (λ _. refl) (λ _. refl) (λ _. refl) (λ _. refl)
    (λ k none known. absurd (false≢true (sym (none_known none) ∙ known))) kind

module _ (c : Chip) (m area : List ℕ) (fit : Fit c m area) (kind body : ℕ) (known : known_kind kind ≡ true) (ranged : in_range kind body ≡ true) where
  abbrev T : Setting
  T = setting_of (length m) area

  unrefused : refusal c (length m) (length area) kind body ≡ 0
  unrefused = (event-refused_when c (length m) (length area) kind body).none.1 ((chip-facts c (length m) fit.state_legal).length_permitted, fit.area_short, fit.state_legal, known, ranged)

  happens_applied : happens c m area kind body ≡ applied T c m kind body
  unfolding happens
  happens_applied = used_same T c m kind body known

  -- A good event is done, and does what the definitions say.
  pub done_as : ours c m area kind body ≡ told (applied T c m kind body)
  done_as =
      (λ i. replied (answer_done c m area kind body unrefused i) (memory_done c m area kind body unrefused i) (said_done c m area kind body unrefused i))
      ∙ ap told happens_applied

  -- and leaves a legal chip, on a memory of the same length
  pub fit_applied : Fit (applied T c m kind body).chip (applied T c m kind body).memory area
  fit_applied =
      record {
        state_legal = subst (λ (n : ℕ). legal (applied T c m kind body).chip n ≡ true) (sym (length-applied T c m kind body)) (legal-applied T c m kind body refl fit.state_legal);
        area_short = fit.area_short;
      }

-- ---- a row of events

-- the world after a good event
pub onward-ours : (area : List ℕ) (e : Event) (w : World) → Fit w.chip w.memory area → Good e → onward_by ours area e w ≡ onward (setting_of (length w.memory) area) e w
onward-ours area e w fit good =
    ap (λ (r : Reply). world r.chip r.memory (w.written ++ r.says) (w.ticks + r.ticks)) (done_as w.chip w.memory area fit e.kind e.body good.0 good.1)

-- the setting stays the same from event to event
pub setting_same : (area : List ℕ) (e : Event) (w : World) → setting_of (length (onward (setting_of (length w.memory) area) e w).memory) area ≡ setting_of (length w.memory) area
setting_same area e w = ap (λ (n : ℕ). setting_of n area) (length-applied (setting_of (length w.memory) area) w.chip w.memory e.kind e.body)

-- and so does legality
pub fit_onward : (area : List ℕ) (e : Event) (w : World) → Fit w.chip w.memory area → Good e
    → Fit (onward (setting_of (length w.memory) area) e w).chip (onward (setting_of (length w.memory) area) e w).memory area
fit_onward area e w fit good = fit_applied w.chip w.memory area fit e.kind e.body good.0 good.1

pub fit_next : (area : List ℕ) (e : Event) (w : World) → Fit w.chip w.memory area → Good e → Fit (onward_by ours area e w).chip (onward_by ours area e w).memory area
fit_next area e w fit good = subst (λ (v : World). Fit v.chip v.memory area) (sym (onward-ours area e w fit good)) (fit_onward area e w fit good)

-- A row of good events comes to what the definitions' run of it comes to.
pub runs-ours : (area : List ℕ) (es : List Event) (w : World) → Fit w.chip w.memory area → AllGood es → runs_by ours area es w ≡ runs (setting_of (length w.memory) area) es w
unfolding runs_by runs AllGood
runs-ours area [] w fit good = refl
runs-ours area (e ∷ es) w fit good =
    ap (runs_by ours area es) (onward-ours area e w fit good.0)
    ∙ runs-ours area es (onward (setting_of (length w.memory) area) e w) (fit_onward area e w fit good.0) good.1
    ∙ ap (λ (T : Setting). runs T es (onward (setting_of (length w.memory) area) e w)) (setting_same area e w)

-- and leaves a legal chip
pub fit_runs : (area : List ℕ) (es : List Event) (w : World) → Fit w.chip w.memory area → AllGood es → Fit (runs_by ours area es w).chip (runs_by ours area es w).memory area
unfolding runs_by AllGood
fit_runs area [] w fit good = fit
fit_runs area (e ∷ es) w fit good = fit_runs area es (onward_by ours area e w) (fit_next area e w fit good.0) good.1

-- ---- working ticks

-- the ticks that find a legal core's job running are those that the definitions count
finds-worked : (S : ℕ) (k : Core) (n : ℕ) → LegalCore S k → worked S n k ≡ finds S k n
finds-worked S k n l = go (running k) refl (dec_lt n (ticks_left S k))
  where
    -- the job has a step left
    left_is : running k ≡ true → ticks_left S k ≡ cond k.waiting 1 (total k.job.kind S - k.job.done)
    left_is r = ap (λ (left : ℕ). cond k.waiting 1 left) (omega (arith, l.job_unfinished (running-job k r)))

    go : (b : Bool) → running k ≡ b → Dec (n < ticks_left S k) → worked S n k ≡ cond b (min n (cond k.waiting 1 (total k.job.kind S - k.job.done))) 0
    go false r d = worked-rest S n k r
    go true r (yes h) = worked_go S k r n (omega arith) ∙ omega (arith, left_is r)
    go true r (no h) = worked_over S k r n (omega arith) ∙ omega (arith, left_is r)

-- no ticks find none
pub finds-none : (S : ℕ) (k : Core) → finds S k 0 ≡ 0
finds-none S k = cond_either (λ (n : ℕ). n ≡ 0) (running k) _ _ (λ _. omega arith) (λ _. refl)

pub ticks-ours : (area : List ℕ) (e : Event) (w : World) → Fit w.chip w.memory area → (does (setting_of (length w.memory) area) e w).ticks ≡ working_ticks w e
unfolding applied
ticks-ours area e w fit =
    cond_either (λ (n : ℕ). (does T e w).ticks ≡ finds S w.chip.core n) (eqb e.kind 0x04) _ _
    (λ one. ap (λ (kind : ℕ). (applied T w.chip w.memory kind e.body).ticks) (eqb-true e.kind 0x04 one) ∙ finds-worked S w.chip.core 1 core)
    (λ not_one.
    cond_either (λ (n : ℕ). (does T e w).ticks ≡ finds S w.chip.core n) (eqb e.kind 0x05) _ _
    (λ many. ap (λ (kind : ℕ). (applied T w.chip w.memory kind e.body).ticks) (eqb-true e.kind 0x05 many) ∙ finds-worked S w.chip.core e.body core)
    (λ not-many. works_none T w.chip w.memory e.kind e.body (eqb-false _ _ not_one) (eqb-false _ _ not-many) ∙ sym (finds-none S w.chip.core)))
  where
    T : Setting
    T = setting_of (length w.memory) area

    S : ℕ
    S = sectors_in (length w.memory)

    core : LegalCore S w.chip.core
    core = (chip-facts w.chip (length w.memory) fit.state_legal).core_part

-- The ticks of a row of events that find a job running are those that the definitions count.
pub worked-ours : (area : List ℕ) (es : List Event) (w : World) → Fit w.chip w.memory area → AllGood es
    → worked_by ours area es w ≡ Stepwise.worked_by (setting_of (length w.memory) area) es w
unfolding worked_by Stepwise.worked_by AllGood
worked-ours area [] w fit good = refl
worked-ours area (e ∷ es) w fit good =
    let T : Setting = setting_of (length w.memory) area in
    ap (λ (n : ℕ). n + worked_by ours area es (onward_by ours area e w)) (sym (ticks-ours area e w fit))
    ∙ ap (λ (v : World). (does T e w).ticks + worked_by ours area es v) (onward-ours area e w fit good.0)
    ∙ ap (λ (n : ℕ). (does T e w).ticks + n) (worked-ours area es (onward T e w) (fit_onward area e w fit good.0) good.1)
    ∙ ap (λ (U : Setting). (does T e w).ticks + Stepwise.worked_by U es (onward T e w)) (setting_same area e w)
