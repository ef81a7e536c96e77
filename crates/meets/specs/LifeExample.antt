-- A closed script that holds a whole life, cut by a suspend, a status read and a resume: the hypotheses of `whole-life` are met.
-- They are met by tests that compute: a test over the definitions that is true gives what the demand asks of ours.
use Rattle.std.specs.Prelude.{ℕ, ◌≤◌, Bool, true, false, not, ◌&&◌, ◌≡◌, refl, eqb, length, take, drop}
use Rattle.std.proofs.lemmas.Bool.{false≢true}
use mathlib.Core.List.{List, [], ◌∷◌, ◌++◌}
use Rattle.std.proofs.Common.{sym, subst, ◌∙◌, arith}
use Rattle.std.proofs.Math.Path.{ap}
use borrow.Author.Tests.{eq-eqb, eqb-true, leb-true}
use Rattle.cells.specs.Choice.{and_left, and_right, and_both, and_four}
use Rattle.part.specs.Part.{Setting, sectors_in, setting_of, permitted}
use Rattle.commands.specs.Table.{row_of, row_in, fits_rule, is_read, is_program, reset}
use Rattle.kinds.specs.Kinds.{TICKS, POWER, known_in_script, kind_row_in, known_kind, kind_row}
use Rattle.clock.specs.Clock.{unset}
use Rattle.chip.specs.declared.Record.{Record}
use Rattle.chip.specs.declared.Record.TheVariants.{Nothing, Floating, Driven, Verdict, InTheWay}
use Rattle.chip.specs.Record.{record_bytes}
use Rattle.chip.specs.declared.JobKind.TheVariants.{SmallErase}
use Rattle.chip.specs.Job.{total, whole_image, no_job}
use Rattle.chip.specs.Chip.{fresh, blank_load}
use Rattle.part.specs.Protection.{protected_count, protected_sectors}
use Rattle.job.specs.Tick.{tick_core, ticks_core, worked}
use Rattle.frame.specs.Frame.{judge, taken, exchanged}
use Rattle.verdict.specs.Verdict.{job_of, job_verdict, command_verdict, listed, verdict, record_of}
use Rattle.verdict.specs.Effect.{instantly, acted, settled, held_after}
use Rattle.legal.specs.Legal.{legal}
use Rattle.event.specs.Event.{applied}
use Rattle.event.proofs.Keeps.{length-applied}
use Rattle.script.specs.Script.{Event, event_at, fault_at, walk, events_from, events, timed, played, first_bad}
use Rattle.script.specs.Run.{World, world, does, onward, runs}
use Rattle.demands.specs.Model.{ours, Good, AllGood, Fit, does_by, onward_by, runs_by, worked_by}
use Rattle.demands.specs.Demand1.{RunReply, AllSound, Heard, room_needed, our_run}
use Rattle.demands.specs.Demand3.{Spares, AllSpare, steps_of}
use Rattle.meets.specs.Ours.{onward-ours, setting_same, fit_onward, runs-ours, fit_runs, worked-ours}
use Rattle.meets.specs.Refusals.{sound_script}
use Rattle.meets.specs.Life.{told-verdict, says-ours}
use Rattle.meets.specs.Cut.{length_runs}
use Rattle.meets.specs.Examples.{frame, one}
use Rattle.meets.specs.Met.{legal-met}
use Rattle.meets.specs.Stepwise as Stepwise
use Rattle.meets.specs.Meets1.{all-good, meets_1_run}
use Rattle.meets.specs.WholeLife.{job_in, HoldsLife, LifeRun, good_split, script_whole_life}

-- ---- tests that compute

-- whether a record is this verdict
abbrev pub verdict_is : ℕ → Record → Bool
verdict_is v Nothing = false
verdict_is v Floating = false
verdict_is v (Driven b) = false
verdict_is v (Verdict u) = eqb u v
verdict_is v (InTheWay first last) = false

-- whether an event spares the job, and whether each of a row does
abbrev pub sparing : Setting → Event → World → Bool
sparing T e w = not (eqb e.kind POWER) && not (verdict_is 1 (does T e w).said && eqb w.chip.frame.opcode reset) && not (verdict_is 2 (does T e w).said)

unfoldable pub all_sparing : Setting → List Event → World → Bool
all_sparing T [] w = true
all_sparing T (e ∷ es) w = sparing T e w && all_sparing T es (onward T e w)

-- a test whose negation holds does not hold
refuted : {A : Type 0} (b : Bool) → not b ≡ true → b ≡ true → A
refuted true h e = absurd (false≢true h)
refuted false h e = absurd (false≢true e)

-- an event, and a row of them, that pass the test spare the job by what ours says
spares_by_test : (area : List ℕ) (e : Event) (w : World) → Fit w.chip w.memory area → Good e → sparing (setting_of (length w.memory) area) e w ≡ true → Spares ours area e w
spares_by_test area e w fit good t =
    record {
      no_power_cut = λ is. refuted power (and_left (not power) (not resets) first) (eq-eqb _ _ is);
      no_reset = λ says is. refuted resets (and_right (not power) (not resets) first) (and_both (verdict_is 1 said) (eqb w.chip.frame.opcode reset) (said_is 1 says) (eq-eqb _ _ is));
      begins_none = λ says. refuted (verdict_is 2 said) (and_right (not power && not resets) (not (verdict_is 2 said)) t) (said_is 2 says);
    }
  where
    said : Record
    said = (does (setting_of (length w.memory) area) e w).said

    power : Bool
    power = eqb e.kind POWER

    resets : Bool
    resets = verdict_is 1 said && eqb w.chip.frame.opcode reset

    first : (not power && not resets) ≡ true
    first = and_left (not power && not resets) (not (verdict_is 2 said)) t

    said_is : (v : ℕ) → (does_by ours area e w).says ≡ 0x82 ∷ v ∷ [] → verdict_is v said ≡ true
    said_is v says = ap (verdict_is v) (told-verdict said v (sym (says-ours area e w fit good) ∙ says)) ∙ eq-eqb v v refl

all-spare_by_test : (area : List ℕ) (es : List Event) (w : World) → Fit w.chip w.memory area → AllGood es → all_sparing (setting_of (length w.memory) area) es w ≡ true → AllSpare ours area es w
unfolding AllSpare AllGood all_sparing
all-spare_by_test area [] w fit good t = tt
all-spare_by_test area (e ∷ es) w fit good t =
    let T : Setting = setting_of (length w.memory) area in
    let next : World = onward T e w in (
      spares_by_test area e w fit good.0 (and_left (sparing T e w) _ t),
      subst (AllSpare ours area es) (sym (onward-ours area e w fit good.0))
          (all-spare_by_test area es next (fit_onward area e w fit good.0) good.1 (subst (λ (U : Setting). all_sparing U es next ≡ true) (sym (setting_same area e w)) (and_right (sparing T e w) _ t))),
    )

-- whether a row holds a whole life, by the definitions
abbrev pub whole_life : Setting → World → List Event → Event → List Event → Bool
whole_life T w before begins life =
    let w₀ : World = runs T before w in
    let w₁ : World = onward T begins w₀ in
    w₀.chip.frame.selected
    && verdict_is 2 (does T begins w₀).said
    && all_sparing T life w₁
    && eqb (Stepwise.worked_by T life w₁) (total (job_in w₁).kind T.sectors)

-- a record that is this verdict has its bytes
is_verdict_lem : (v : ℕ) (r : Record) → verdict_is v r ≡ true → record_bytes r ≡ 0x82 ∷ v ∷ []
is_verdict_lem v Nothing h = absurd (false≢true h)
is_verdict_lem v Floating h = absurd (false≢true h)
is_verdict_lem v (Driven b) h = absurd (false≢true h)
is_verdict_lem v (Verdict u) h = ap (λ (n : ℕ). 0x82 ∷ n ∷ []) (eqb-true u v h)
is_verdict_lem v (InTheWay first last) h = absurd (false≢true h)

-- the world that the job finds and the world that it begins in, as the definitions have them
module _ (area : List ℕ) (w : World) (before : List Event) (begins : Event) (fit : Fit w.chip w.memory area) (good_before : AllGood before) (good_begins : Good begins) where
  abbrev T : Setting
  T = setting_of (length w.memory) area

  abbrev w₀ : World
  w₀ = runs T before w

  abbrev w₁ : World
  w₁ = onward T begins w₀

  pub found : runs_by ours area before w ≡ w₀
  found = runs-ours area before w fit good_before

  part₀ : setting_of (length w₀.memory) area ≡ T
  part₀ = ap (λ (n : ℕ). setting_of n area) (length_runs T before w)

  part₁ : setting_of (length w₁.memory) area ≡ T
  part₁ = ap (λ (n : ℕ). setting_of n area) (length-applied T w₀.chip w₀.memory begins.kind begins.body) ∙ part₀

  fit_found : Fit w₀.chip w₀.memory area
  fit_found = subst (λ (v : World). Fit v.chip v.memory area) found (fit_runs area before w fit good_before)

  pub begun_as : onward_by ours area begins (runs_by ours area before w) ≡ w₁
  begun_as = ap (onward_by ours area begins) found ∙ onward-ours area begins w₀ fit_found good_begins ∙ ap (λ (U : Setting). onward U begins w₀) part₀

  fit_begun : Fit w₁.chip w₁.memory area
  fit_begun = subst (λ (v : World). Fit v.chip v.memory area) (ap (λ (U : Setting). onward U begins w₀) part₀) (fit_onward area begins w₀ fit_found good_begins)

  -- A row that passes the test holds a whole life of ours.
  pub holds_by_test : (life : List Event) → AllGood life → begins.kind ≡ 0x03 → whole_life T w before begins life ≡ true → HoldsLife ours area w before begins life
  holds_by_test life good-life is-deselect test =
      let t = and_four w₀.chip.frame.selected (verdict_is 2 (does T begins w₀).said) (all_sparing T life w₁) (eqb (Stepwise.worked_by T life w₁) (total (job_in w₁).kind T.sectors)) test in
      record {
        deselect = is-deselect;
        selected = ap (λ (v : World). v.chip.frame.selected) found ∙ t.0;
        says_two =
            ap (λ (v : World). (does_by ours area begins v).says) found
            ∙ says-ours area begins w₀ fit_found good_begins
            ∙ ap (λ (U : Setting). record_bytes (does U begins w₀).said) part₀
            ∙ is_verdict_lem 2 (does T begins w₀).said t.1;
        spared = subst (AllSpare ours area life) (sym begun_as) (all-spare_by_test area life w₁ fit_begun good-life (subst (λ (U : Setting). all_sparing U life w₁ ≡ true) (sym part₁) t.2));
        all_ticks =
            subst (λ (v : World). worked_by ours area life v ≡ steps_of (job_in v).kind v) (sym begun_as)
            (worked-ours area life w₁ fit_begun good-life
            ∙ ap (λ (U : Setting). Stepwise.worked_by U life w₁) part₁
            ∙ eqb-true _ _ t.3
            ∙ ap (λ (U : Setting). total (job_in w₁).kind U.sectors) (sym part₁));
      }

-- ---- the script

-- five ticks; B0h; three ticks, of which the first works and the others find it suspended; a status read; 30h; ten ticks
abbrev pub cutting : List ℕ
cutting = (TICKS ∷ 0 ∷ 5 ∷ []) ++ (frame (0xB0 ∷ []) ++ ((TICKS ∷ 0 ∷ 3 ∷ []) ++ (frame (0x05 ∷ 0 ∷ []) ++ (frame (0x30 ∷ []) ++ (TICKS ∷ 0 ∷ 10 ∷ [])))))

-- a write enable; a small sector erase; and those
abbrev pub erases_cut : List ℕ
erases_cut = frame (0x06 ∷ []) ++ (frame (0x20 ∷ 0 ∷ 0 ∷ 0 ∷ []) ++ cutting)

-- the events before the deselect that begins the erase, that deselect, and the life
abbrev pub before : List Event
before = take 8 (played erases_cut)

abbrev pub begins : Event
begins = event_at erases_cut 14

abbrev pub life : List Event
life = drop 9 (played erases_cut)

-- these are its events, and they are sound
in_order : played erases_cut ≡ before ++ (begins ∷ life)
unfolding timed events_from walk fault_at known_kind known_in_script kind_row kind_row_in
in_order = refl

all_sound : AllSound erases_cut unset (events erases_cut)
unfolding first_bad events_from walk fault_at known_in_script kind_row kind_row_in
all_sound = sound_script erases_cut refl

-- it passes the test on the smallest part, with any memory
passes : (m : List ℕ) → whole_life one (world (fresh 0x00) m [] 0) before begins life ≡ true
unfolding all_sparing runs Stepwise.worked_by timed events_from walk fault_at known_kind known_in_script kind_row kind_row_in applied exchanged taken judge fresh row_of row_in is_program verdict record_of listed is_read command_verdict job_verdict job_of fits_rule settled acted held_after instantly ticks_core tick_core worked protected_count protected_sectors
passes m = refl

module _ (m out : List ℕ) (smallest : length m ≡ 65536) (roomy : 33 ≤ length out) where
  abbrev start : World
  start = world (fresh 0x00) m [] 0

  abbrev answer : RunReply
  answer = our_run (fresh 0x00) m [] erases_cut out

  -- what is looked at before the events is in order
  heard : Heard (fresh 0x00) (length m) 0 erases_cut
  unfolding permitted
  heard =
      record {
        length_permitted = ap permitted smallest;
        area_short = omega arith;
        state_legal = ap (legal (fresh 0x00)) smallest ∙ legal-met.0;
        script_short = leb-true _ _ refl;
      }

  -- nothing refuses the run
  done : answer.refusal ≡ 0
  unfolding room_needed events_from walk fault_at known_kind known_in_script kind_row kind_row_in
  done = (meets_1_run.numbers (fresh 0x00) m [] erases_cut out).none.1 (heard, all_sound, roomy)

  -- the hypotheses: a legal chip, good events, a whole life
  fit : Fit (fresh 0x00) m []
  fit = record { state_legal = heard.state_legal; area_short = heard.area_short }

  good : AllGood before × (Good begins × AllGood life)
  unfolding AllGood
  good = good_split before (begins ∷ life) (subst AllGood in_order (all-good erases_cut unset (events erases_cut) all_sound))

  holds : HoldsLife ours [] start before begins life
  holds =
      holds_by_test [] start before begins fit good.0 good.1.0 life good.1.1 refl
      (subst (λ (n : ℕ). whole_life (setting_of n []) start before begins life ≡ true) (sym smallest) (passes m))

  -- the answer, from the worlds as the definitions have them on the smallest part
  lived : LifeRun answer (runs one before start) (onward one begins (runs one before start))
  lived =
      subst (λ (n : ℕ). LifeRun answer (runs (setting_of n []) before start) (onward (setting_of n []) begins (runs (setting_of n []) before start))) smallest
      (subst (λ (v : World). LifeRun answer v (onward (setting_of (length m) []) begins (runs (setting_of (length m) []) before start))) (found [] start before begins fit good.0 good.1.0)
      (subst (λ (v : World). LifeRun answer (runs_by ours [] before start) v) (begun_as [] start before begins fit good.0 good.1.0)
      (script_whole_life (fresh 0x00) m [] erases_cut out _ _ _ (refl, refl, refl) done before begins life in_order holds)))

  -- Sixteen of its eighteen ticks work, and the run's own memory is the whole image: a sector of 4,096 cells FFh, every other cell as it was.
  pub cut_and_ended : (answer.refusal ≡ 0) × (answer.memory ≡ whole_image SmallErase 1 0 blank_load m) × (answer.chip.core.job ≡ no_job) × (answer.ticks ≡ 16)
  unfolding runs timed events_from walk fault_at known_kind known_in_script kind_row kind_row_in applied exchanged taken judge fresh row_of row_in is_program verdict record_of listed is_read command_verdict job_verdict job_of fits_rule settled acted held_after instantly protected_count protected_sectors
  cut_and_ended = (done, lived.memory_is ∙ ap (λ (n : ℕ). whole_image SmallErase (sectors_in n) 0 blank_load m) smallest, lived.job_gone, lived.ticks_are)
