-- Ours meets Demand 1: the engine at one event, and the run of a script.
use Rattle.std.specs.Prelude.{ℕ, zero, suc, ◌≤◌, ◌≡◌, refl, leb, length, drop}
use mathlib.Core.List.{List, [], ◌∷◌, ◌++◌}
use Rattle.std.proofs.Math.Path.{sym, ap}
use Rattle.std.proofs.Common.{subst, ◌∙◌, arith, le-leb}
use Rattle.std.proofs.Math.Decide.{ℕ_discrete}
use Rattle.cells.specs.Choice.{cond_either, and_both}
use Rattle.part.specs.Part.{setting_of}
use Rattle.chip.specs.declared.Chip.{Chip}
use Rattle.kinds.specs.Kinds.{kind_row, kind_row_in, known_kind}
use Rattle.clock.specs.declared.Clock.{Clock}
use Rattle.clock.specs.Clock.{unset, moved_on}
use Rattle.clock.specs.Laws.{moved-most}
use Rattle.event.proofs.Laws as EventLaws
use Rattle.event.proofs.Keeps.{length-applied}
use Rattle.script.specs.Script.{Event, Refusal, refusal_of, events, is_stamp, clock_after, ticks_given, given, timed, played}
use Rattle.script.specs.Run.{Ran, World, world}
use Rattle.script.specs.Run as Run
use Rattle.script.proofs.Laws as ScriptLaws
use Rattle.demands.specs.Model.{Reply, replied, ours, event, AllGood, Fit, runs_by}
use Rattle.demands.specs.Demand1.{RefusedWhen, Demand1, RunReply, ran, our_run, Sound, AllSound, RunRefusedWhen, Demand1Run}
use Rattle.meets.specs.Refusals.{known_event, event-refused_when, event-refused_keeps, run_refused_when, run_refused_keeps}
use Rattle.meets.specs.Ours.{done_as, fit_next, runs-ours}

-- ---- one event

-- a done event leaves a legal chip, and memory keeps its length
stays : (c : Chip) (m area : List ℕ) (kind body : ℕ) → (ours c m area kind body).refusal ≡ 0
    → Fit (ours c m area kind body).chip (ours c m area kind body).memory area × (length (ours c m area kind body).memory ≡ length m)
stays c m area kind body done =
    let why = (event-refused_when c (length m) (length area) kind body).none.0 (sym (EventLaws.answer_number c m area kind body) ∙ done) in
    let fit : Fit c m area = record { state_legal = why.2; area_short = why.1 } in (
      fit_next area (event kind body) (world c m [] 0) fit (why.3, why.4),
      ap (λ (r : Reply). length r.memory) (done_as c m area fit kind body why.3 why.4) ∙ length-applied (setting_of (length m) area) c m kind body,
    )

-- Ours meets Demand 1.
pub meets_1 : Demand1 ours
meets_1 =
    record {
      numbers = λ c m area kind body.
          subst (λ (v : ℕ). RefusedWhen v c (length m) (length area) kind body) (sym (EventLaws.answer_number c m area kind body)) (event-refused_when c (length m) (length area) kind body);
      refused_keeps = λ c m area kind body some.
          let told = EventLaws.answer_number c m area kind body in
          let kept = event-refused_keeps c m area kind body (λ z. some (told ∙ z)) in
          (λ i. replied (kept.0 i) (kept.1 i) (kept.2 i)) ∙ ap (λ (v : ℕ). record { chip = c; memory = m; says = []; ticks = 0; refusal = v }) (sym told);
      stays_legal = stays;
    }

-- ---- a script run

-- good events, one row behind the other, are good
good_append : (es fs : List Event) → AllGood es → AllGood fs → AllGood (es ++ fs)
unfolding AllGood
good_append [] fs g h = h
good_append (e ∷ es) fs g h = (g.0, good_append es fs g.1 h)

-- the ticks that a stamp gives are a good event, if there are any
ticks-good : (e : Event) (n : ℕ) → n ≤ 65535 → AllGood (ticks_given e n)
unfolding AllGood known_kind kind_row kind_row_in
ticks-good e zero few = tt
ticks-good e (suc n) few = ((refl, and_both (leb 1 (suc n)) (leb (suc n) 65535) (le-leb 1 (suc n) (omega arith)) (le-leb (suc n) 65535 few)), tt)

-- what a run applies for a sound event is good
given-good : (s : List ℕ) (k : Clock) (e : Event) → Sound s k e → AllGood (given k e)
unfolding AllGood
given-good s k e sound =
    cond_either AllGood (is_stamp e) _ _ (λ _. ticks-good e (moved_on k e.body) (moved-most k e.body))
    (λ no-stamp. ((known_event e.kind sound.known no-stamp, sound.ranged), tt))

-- what a run applies for sound events of a script is good
pub all-good : (s : List ℕ) (k : Clock) (es : List Event) → AllSound s k es → AllGood (timed k es)
unfolding AllSound AllGood timed
all-good s k [] sound = tt
all-good s k (e ∷ es) sound = good_append (given k e) (timed (clock_after k e) es) (given-good s k e sound.0) (all-good s (clock_after k e) es sound.1)

module _ (c : Chip) (m area s out : List ℕ) where
  abbrev told : Refusal
  told = Run.refusal c (length m) (length area) s (length out)

  when : RunRefusedWhen told.number told.offset c (length m) (length area) s (length out)
  when = run_refused_when c (length m) (length area) s (length out)

  -- the number and the offset in the answer are the refusal's
  number_told : (our_run c m area s out).refusal ≡ told.number
  number_told = ScriptLaws.answer_number c m area s out

  offset_told : (our_run c m area s out).offset ≡ told.offset
  offset_told = go (ℕ_discrete told.number 0)
    where
      go : Dec (told.number ≡ 0) → (our_run c m area s out).offset ≡ told.offset
      go (yes z) = ap (λ (r : Ran). r.offset) (ScriptLaws.answer_done c m area s out z) ∙ sym (when.no_offset (λ e. omega arith) (λ e. omega arith) (λ e. omega arith) (λ e. omega arith))
      go (no refused) = ap (λ (r : Ran). r.offset) (ScriptLaws.answer_refused c m area s out refused)

  refused_kept : ((our_run c m area s out).refusal ≡ 0 → ⊥)
      → our_run c m area s out ≡ record { chip = c; memory = m; output = out; refusal = (our_run c m area s out).refusal; offset = (our_run c m area s out).offset; written = 0; ticks = 0 }
  refused_kept some =
      let kept = run_refused_keeps c m area s out (λ z. some (number_told ∙ z)) in
      (λ i. ran (kept.0 i) (kept.1 i) (kept.2 i))
      ∙ (λ i. record { chip = c; memory = m; output = out; refusal = sym number_told i; offset = sym offset_told i; written = 0; ticks = 0 })

  -- what a run that is done comes to
  abbrev done : World → RunReply
  done w = record { chip = w.chip; memory = w.memory; output = w.written ++ drop (length w.written) out; refusal = 0; offset = 0; written = length w.written; ticks = w.ticks }

  done_run_lem : (our_run c m area s out).refusal ≡ 0 → our_run c m area s out ≡ done (runs_by ours area (played s) (world c m [] 0))
  unfolding Run.world_after
  done_run_lem e =
      let ok : told.number ≡ 0 = sym number_told ∙ e in
      let accepted = when.none.0 ok in
      let fit : Fit c m area = record { state_legal = accepted.0.state_legal; area_short = accepted.0.area_short } in
      (λ i. ran (ScriptLaws.answer_done c m area s out ok i) (ScriptLaws.memory_done c m area s out ok i) (ScriptLaws.output_done c m area s out ok i))
      ∙ ap done (sym (runs-ours area (played s) (world c m [] 0) fit (all-good s unset (events s) accepted.1)))

-- Our run meets Demand 1, over our model.
pub meets_1_run : Demand1Run ours our_run
meets_1_run =
    record {
      numbers = λ c m area s out.
          subst (λ (r : Refusal). RunRefusedWhen r.number r.offset c (length m) (length area) s (length out)) (λ i. refusal_of (sym (number_told c m area s out) i) (sym (offset_told c m area s out) i)) (when c m area s out);
      refused_keeps = refused_kept;
      done_runs = done_run_lem;
    }
