-- A script that holds a job's whole life: the run's own memory is the job's whole image on the memory that the job found, its chip has no job, and its working ticks
-- are those before and the job's steps. Of any runner over any model that meet the demands (`whole-life`), and of `script::run` (`script_whole_life`).
use Rattle.std.specs.Prelude.{ℕ, ◌+◌, ◌≤◌, true, ◌≡◌, refl, length}
use mathlib.Core.List.{List, [], ◌∷◌, ◌++◌}
use Rattle.std.proofs.Math.Path.{sym, ap}
use Rattle.std.proofs.Common.{subst, ◌∙◌, add-zero, zero-add, leb-true}
use Rattle.std.proofs.Math.Nat.{add_assoc}
use Rattle.part.specs.Part.{sectors_in}
use Rattle.chip.specs.declared.Chip.{Chip}
use Rattle.chip.specs.declared.Job.{Job}
use Rattle.chip.specs.Job.{total, whole_image, no_job}
use Rattle.chip.specs.Chip.{bits_of}
use Rattle.legal.proofs.Legality.{chip-facts}
use Rattle.kinds.specs.Kinds.{in_range}
use Rattle.kinds.proofs.Laws.{deselect-range}
use Rattle.clock.specs.Clock.{unset}
use Rattle.script.specs.Script.{Event, events, played}
use Rattle.script.specs.Run.{Ran, World, world}
use Rattle.script.specs.Run as Run
use Rattle.demands.specs.Model.{Reply, Model, ours, event, Good, AllGood, Fit, does_by, onward_by, runs_by, working_ticks, worked_by}
use Rattle.demands.specs.Demand1.{Demand1, RunReply, Runner, Demand1Run, ran, our_run, runner_is_ours}
use Rattle.demands.specs.Demand3.{Started, UnderWay, AllSpare, bits_after, steps_of, Outlook, Demand3}
use Rattle.meets.specs.Ours.{finds-none}
use Rattle.meets.specs.OursFrames.{runs_by-add}
use Rattle.meets.specs.Meets1.{all-good, meets_1, meets_1_run}
use Rattle.meets.specs.Meets3.{meets_3}

-- ---- the words

-- the job that stands in a world
abbrev pub job_in : World → Job
job_in w = w.chip.core.job

-- from a world on: some events, then a deselect that begins a job, then events that spare it, with as many working ticks as it has steps
pub record HoldsLife (M : Model) (area : List ℕ) (w : World) (before : List Event) (begins : Event) (life : List Event) : Type 0 where
  pub deselect : begins.kind ≡ 0x03
  pub selected : (runs_by M area before w).chip.frame.selected ≡ true
  pub says_two : (does_by M area begins (runs_by M area before w)).says ≡ 0x82 ∷ 2 ∷ []
  pub spared : AllSpare M area life (onward_by M area begins (runs_by M area before w))
  pub all_ticks : worked_by M area life (onward_by M area begins (runs_by M area before w)) ≡ steps_of (job_in (onward_by M area begins (runs_by M area before w))).kind (onward_by M area begins (runs_by M area before w))

-- what a run answers after it, if the job found the world w₀ and began in w₁
pub record LifeRun (r : RunReply) (w₀ w₁ : World) : Type 0 where
  pub memory_is : r.memory ≡ whole_image (job_in w₁).kind (sectors_in (length w₀.memory)) (job_in w₁).start w₁.chip.held w₀.memory
  pub job_gone : r.chip.core.job ≡ no_job
  pub bits_are : bits_of r.chip.core ≡ bits_after (job_in w₁).kind (bits_of w₁.chip.core)
  pub ticks_are : r.ticks ≡ w₀.ticks + steps_of (job_in w₁).kind w₀

-- a good event leaves a legal chip
abbrev pub LegalityKept : Model → Type 0
LegalityKept M = (area : List ℕ) (e : Event) (w : World) → Fit w.chip w.memory area → Good e → Fit (onward_by M area e w).chip (onward_by M area e w).memory area

pub legality_kept : (M : Model) → Demand1 M → LegalityKept M
legality_kept M D area e w fit good =
    (D.stays_legal w.chip w.memory area e.kind e.body
    ((D.numbers w.chip w.memory area e.kind e.body).none.1 ((chip-facts w.chip (length w.memory) fit.state_legal).length_permitted, fit.area_short, fit.state_legal, good.0, good.1))).0

-- ---- rows of events

-- both parts of a good row are good
pub good_split : (es fs : List Event) → AllGood (es ++ fs) → AllGood es × AllGood fs
unfolding AllGood
good_split [] fs g = (tt, g)
good_split (e ∷ es) fs g = let rest = good_split es fs g.1 in ((g.0, rest.0), rest.1)

module _ (M : Model) (kept : LegalityKept M) (D : Demand3 M) (area : List ℕ) where
  -- legality is kept, and the working ticks are counted, over a row of events
  pub row_kept : (es : List Event) (w : World) → Fit w.chip w.memory area → AllGood es
      → Fit (runs_by M area es w).chip (runs_by M area es w).memory area × ((runs_by M area es w).ticks ≡ w.ticks + worked_by M area es w)
  unfolding runs_by worked_by AllGood
  row_kept [] w fit good = (fit, sym (add-zero w.ticks))
  row_kept (e ∷ es) w fit good =
      let next : World = onward_by M area e w in
      let rest = row_kept es next (kept area e w fit good.0) good.1 in
      (rest.0, rest.1 ∙ ap (λ (n : ℕ). w.ticks + n + worked_by M area es next) (D.counts area e w fit good.0) ∙ add_assoc w.ticks _ _)

  -- a deselect has no working tick
  deselect_rests : (e : Event) (w : World) → e.kind ≡ 0x03 → working_ticks w e ≡ 0
  deselect_rests e w is = ap (λ (kind : ℕ). working_ticks w (event kind e.body)) is ∙ finds-none (sectors_in (length w.memory)) w.chip.core

  module _ (w : World) (fit : Fit w.chip w.memory area) (before : List Event) (begins : Event) (life : List Event) (good : AllGood (before ++ (begins ∷ life)))
      (h : HoldsLife M area w before begins life) where
    -- the world that the job found, the world that it began in, and the world after its life
    abbrev w₀ : World
    w₀ = runs_by M area before w

    abbrev w₁ : World
    w₁ = onward_by M area begins w₀

    abbrev w₂ : World
    w₂ = runs_by M area life w₁

    -- each part of the row is good, and those worlds' chips are legal
    good_before : AllGood before
    good_before = (good_split before (begins ∷ life) good).0

    good_begins : Good begins × AllGood life
    unfolding AllGood
    good_begins = (good_split before (begins ∷ life) good).1

    fit_found : Fit w₀.chip w₀.memory area
    fit_found = (row_kept before w fit good_before).0

    fit_begun : Fit w₁.chip w₁.memory area
    fit_begun = kept area begins w₀ fit_found good_begins.0

    -- the job starts, stands at its step 0, and lives
    started : Started w₀.chip w₀.memory (does_by M area begins w₀)
    started =
        let does : ℕ → Reply = λ kind. M w₀.chip w₀.memory area kind begins.body in
        let few : begins.body ≤ 7 = leb-true _ _ (sym (deselect-range begins.body) ∙ ap (λ (kind : ℕ). in_range kind begins.body) (sym h.deselect) ∙ good_begins.0.1) in
        subst (λ (kind : ℕ). Started w₀.chip w₀.memory (does kind)) (sym h.deselect)
        (D.starts w₀.chip w₀.memory area begins.body (record { fit = fit_found; selected = h.selected; few = few }) (ap (λ (kind : ℕ). (does kind).says) (sym h.deselect) ∙ h.says_two))

    under_way : UnderWay area (job_in w₁).kind (job_in w₁).start w₁.chip.held 0 w₁
    under_way =
        record {
          fit = fit_begun;
          a_job = started.a_job;
          job_is = λ i. record { kind = (job_in w₁).kind; start = (job_in w₁).start; done = started.at_step_0 i };
          load_is = refl;
        }

    lived : Outlook (job_in w₁).kind (job_in w₁).start w₁.chip.held 0 (worked_by M area life w₁) w₁ w₂
    lived = D.lives area (job_in w₁).kind (job_in w₁).start w₁.chip.held 0 w₁ life (record { under_way = under_way; good = good_begins.1; spared = h.spared })

    -- what the life leaves: the whole image on the memory that the job found, no job, and its steps counted
    life_memory : w₂.memory ≡ whole_image (job_in w₁).kind (sectors_in (length w₀.memory)) (job_in w₁).start w₁.chip.held w₀.memory
    life_memory = lived.whole_image_lem refl h.all_ticks ∙ ap (λ (m : List ℕ). whole_image (job_in w₁).kind (sectors_in (length m)) (job_in w₁).start w₁.chip.held m) started.cells_same

    life_gone : w₂.chip.core.job ≡ no_job
    life_gone = lived.gone_when.1 (zero-add _ ∙ h.all_ticks)

    life_bits : bits_of w₂.chip.core ≡ bits_after (job_in w₁).kind (bits_of w₁.chip.core)
    life_bits = (lived.bits_set (zero-add _ ∙ h.all_ticks)).0

    life_ticks : w₂.ticks ≡ w₀.ticks + steps_of (job_in w₁).kind w₀
    life_ticks =
        (row_kept life w₁ fit_begun good_begins.1).1
        ∙ ap (λ (n : ℕ). w₀.ticks + n + worked_by M area life w₁) (D.counts area begins w₀ fit_found good_begins.0 ∙ deselect_rests begins w₀ h.deselect)
        ∙ ap (λ (n : ℕ). n + worked_by M area life w₁) (add-zero w₀.ticks)
        ∙ ap (λ (n : ℕ). w₀.ticks + n) (h.all_ticks ∙ ap (λ (m : List ℕ). total (job_in w₁).kind (sectors_in (length m))) started.cells_same)

-- ---- the run

-- A done run of a script that holds a job's whole life: its own memory, chip and count of working ticks.
pub whole-life : (M : Model) (R : Runner) → Demand1 M → Demand1Run M R → Demand3 M
    → (c : Chip) (m area s out : List ℕ) → (R c m area s out).refusal ≡ 0
    → (before : List Event) (begins : Event) (life : List Event) → played s ≡ before ++ (begins ∷ life) → HoldsLife M area (world c m [] 0) before begins life
    → LifeRun (R c m area s out) (runs_by M area before (world c m [] 0)) (onward_by M area begins (runs_by M area before (world c m [] 0)))
unfolding runs_by
whole-life M R D D1 D3 c m area s out done before begins life in_order holds =
    let w : World = world c m [] 0 in
    let kept : LegalityKept M = legality_kept M D in
    let ok = (D1.numbers c m area s out).none.0 done in
    let fit : Fit c m area = record { state_legal = ok.0.state_legal; area_short = ok.0.area_short } in
    let good : AllGood (before ++ (begins ∷ life)) = subst AllGood in_order (all-good s unset (events s) ok.1) in
    let after : runs_by M area (played s) w ≡ runs_by M area life (onward_by M area begins (runs_by M area before w)) = ap (λ (es : List Event). runs_by M area es w) in_order ∙ runs_by-add M area before (begins ∷ life) w in
    let answer = D1.done_runs c m area s out done in
    record {
      memory_is = ap (λ (r : RunReply). r.memory) answer ∙ ap (λ (v : World). v.memory) after ∙ life_memory M kept D3 area w fit before begins life good holds;
      job_gone = ap (λ (r : RunReply). r.chip.core.job) answer ∙ ap (λ (v : World). v.chip.core.job) after ∙ life_gone M kept D3 area w fit before begins life good holds;
      bits_are = ap (λ (r : RunReply). bits_of r.chip.core) answer ∙ ap (λ (v : World). bits_of v.chip.core) after ∙ life_bits M kept D3 area w fit before begins life good holds;
      ticks_are = ap (λ (r : RunReply). r.ticks) answer ∙ ap (λ (v : World). v.ticks) after ∙ life_ticks M kept D3 area w fit before begins life good holds;
    }

-- A script that `script::run` has done, and that holds a job's whole life: what it answers, and the memory that it leaves.
pub script_whole_life : (c : Chip) (m area s out : List ℕ) (r : Ran) (m' out' : List ℕ)
    → (r ≡ Run.answer_of c m area s out) × (m' ≡ Run.memory_of c m area s out) × (out' ≡ Run.output_of c m area s out) → r.refusal ≡ 0
    → (before : List Event) (begins : Event) (life : List Event) → played s ≡ before ++ (begins ∷ life) → HoldsLife ours area (world c m [] 0) before begins life
    → LifeRun (ran r m' out') (runs_by ours area before (world c m [] 0)) (onward_by ours area begins (runs_by ours area before (world c m [] 0)))
script_whole_life c m area s out r m' out' contract done before begins life in_order holds =
    let same : ran r m' out' ≡ our_run c m area s out = runner_is_ours c m area s out r m' out' contract in
    subst (λ (q : RunReply). LifeRun q (runs_by ours area before (world c m [] 0)) (onward_by ours area begins (runs_by ours area before (world c m [] 0)))) (sym same)
    (whole-life ours our_run meets_1 meets_1_run meets_3 c m area s out (ap (λ (q : RunReply). q.refusal) (sym same) ∙ done) before begins life in_order holds)
