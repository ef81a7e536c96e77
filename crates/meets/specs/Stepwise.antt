-- The argument for Demand 3, over the definitions: however a job is cut up by suspends, resumes and reads, memory is exactly the steps of the ticks that found it
-- running, and at its end the whole image. `Demand3` is the statement, of any model; `Meets3` draws it for `ours` from what is proved here.
use Rattle.std.specs.Prelude.{ℕ, ◌+◌, ◌*◌, ◌<◌, ◌≤◌, ◌≡◌, ◌⊎◌, get_or}
use mathlib.Core.List.{List, [], ◌∷◌}
use Rattle.std.proofs.Math.Path.{refl, ap, fun_ext}
use Rattle.std.proofs.Common.{subst, ◌∙◌, inl, inr, ⊎_elim, add-zero, zero-add, zero-mul, add-mul, mul-le-mul_right, arith}
use Rattle.cells.specs.Cells.{Rule, sweep, later}
use Rattle.cells.proofs.Laws.{sweep-image, sweep-outside}
use Rattle.cells.specs.Stepping.{Stands, stands}
use Rattle.cells.specs.Stepping as Stepping
use Rattle.part.specs.Part.{Setting}
use Rattle.chip.specs.declared.JobKind.{JobKind}
use Rattle.chip.specs.declared.JobKind.TheVariants.{Idle, WriteStatus, Program, SmallErase, SectorErase, ChipErase}
use Rattle.chip.specs.Chip.{Bits, bits_of}
use Rattle.chip.specs.Job.{total, unit, span, rule, steps, whole_image}
use Rattle.script.specs.Script.{Event}
use Rattle.script.specs.Run.{World, does, onward, runs}
use Rattle.meets.specs.JobSteps.{Spares, AtStep, JobOver, laid_steps, machine}

-- ---- the words, as the definitions have them (`Demand3` has its own, by what a model says)

-- a job stands at step d: its kind, its start, its load, and steps left
pub record UnderWay (T : Setting) (kind : JobKind) (start : ℕ) (held : List ℕ) (d : ℕ) (w : World) : Type 0 where
  pub job_is : w.chip.core.job ≡ record { kind = kind; start = start; done = d }
  pub load_is : w.chip.held ≡ held
  pub steps_left_lem : d < total kind T.sectors

-- no event of the list is a reset, a power cut or begins another job, each judged in the world that it finds
unfoldable pub AllSpare : Setting → List Event → World → Type 0
AllSpare T [] w = Unit {0}
AllSpare T (e ∷ es) w = Spares T w.chip e.kind e.body × AllSpare T es (onward T e w)

-- the ticks among the events that found the job running: the working ticks of the run
unfoldable pub worked_by : Setting → List Event → World → ℕ
worked_by T [] w = 0
worked_by T (e ∷ es) w = (does T e w).ticks + worked_by T es (onward T e w)

-- ---- what is proved once, for any machine, read for this part

module _ (T : Setting) (kind : JobKind) (start : ℕ) (held : List ℕ) where
  module _ (bits : Bits) where
    as_after : (es : List Event) (w : World) → Stepping.after (machine T kind start held bits) es w ≡ runs T es w
    unfolding runs Stepping.after
    as_after [] w = refl
    as_after (e ∷ es) w = as_after es (onward T e w)

    as_count : (es : List Event) (w : World) → Stepping.count (machine T kind start held bits) es w ≡ worked_by T es w
    unfolding worked_by Stepping.count
    as_count [] w = refl
    as_count (e ∷ es) w = ap (λ (n : ℕ). (does T e w).ticks + n) (as_count es (onward T e w))

    as_spare : (es : List Event) (w : World) → AllSpare T es w → Stepping.AllSpare (machine T kind start held bits) es w
    unfolding AllSpare Stepping.AllSpare
    as_spare [] w s = tt
    as_spare (e ∷ es) w s = (s.0, as_spare es (onward T e w) s.1)

  -- ---- the conclusions

  -- what has become of the job, k working ticks after step d
  pub record Outlook (d k : ℕ) (w w' : World) : Type 0 where
    -- exactly its steps d to d + k are laid on the memory
    pub memory_is : w'.memory ≡ steps kind start held d k w.memory
    -- with steps left it stands there, its load and the bits as they were; with none left it is over, and only a write status has set bits
    pub where_it_is :
        ((d + k < total kind T.sectors) × AtStep kind start held (bits_of w.chip.core) (d + k) w'.chip)
        ⊎ ((d + k ≡ total kind T.sectors) × JobOver kind (bits_of w.chip.core) w'.chip)

  module _ (d : ℕ) (w : World) (job : UnderWay T kind start held d w) (es : List Event) (spared : AllSpare T es w) where
    abbrev k : ℕ
    k = worked_by T es w

    -- Over any list of events with no reset, power cut or other job begun: memory is exactly the steps of the k ticks that found the job running.
    pub k_steps : Outlook d k w (runs T es w)
    k_steps = read (as_after bits es w) (as_count bits es w) (stands (machine T kind start held bits) es d w (job.steps_left_lem, at) (as_spare bits es w spared) job.steps_left_lem)
      where
        bits : Bits
        bits = bits_of w.chip.core

        at : AtStep kind start held bits d w.chip
        at = record { job_is = job.job_is; held_is = job.load_is; bits_are = refl }

        read : {w' : World} {n : ℕ} → w' ≡ runs T es w → n ≡ k → Stands (machine T kind start held bits) d n w w' → Outlook d k w (runs T es w)
        read {w'} {n} ew en st =
            subst (λ (q : World). Outlook d k w q) ew
            (subst (λ (q : ℕ). Outlook d q w w') en
            (record {
              memory_is = st.laid_down ∙ laid_steps kind start held d n w.memory;
              where_it_is = ⊎_elim (λ on. inl (on.0, on.1.1)) (λ end. inr end) st.where_it_is;
            }))

  -- the steps together are the size of the job
  span_is : (kind : JobKind) → total kind T.sectors * unit kind ≡ span kind T.sectors
  span_is Idle = zero-mul 0
  span_is (WriteStatus value) = refl
  span_is Program = refl
  span_is SmallErase = refl
  span_is SectorErase = refl
  span_is ChipErase = omega arith

  -- all the steps are the whole image, which has no steps in its definition
  pub all_steps : (m : List ℕ) → steps kind start held 0 (total kind T.sectors) m ≡ whole_image kind T.sectors start held m
  all_steps m =
      let g : Rule = rule kind held in
      let u : ℕ = unit kind in
      ap (λ (q : ℕ). sweep (later g q) m (start + q) (total kind T.sectors * u)) (zero-mul u)
      ∙ ap (λ (h : Rule). sweep h m (start + 0) (total kind T.sectors * u)) (fun_ext (λ j. fun_ext (λ old. ap (λ (n : ℕ). g n old) (zero-add j))))
      ∙ ap (λ (q : ℕ). sweep g m q (total kind T.sectors * u)) (add-zero start)
      ∙ ap (sweep g m start) (span_is kind)
      ∙ sweep-image g m start (span kind T.sectors)

  -- Nothing outside the job's range differs, at any moment.
  pub outside_stays : (d k : ℕ) (m : List ℕ) (i : ℕ) → d + k ≤ total kind T.sectors → (i < start) ⊎ (start + span kind T.sectors ≤ i) → get_or (steps kind start held d k m) i 0 ≡ get_or m i 0
  outside_stays d k m i h o =
      let u : ℕ = unit kind in
      let a : (d + k) * u ≤ total kind T.sectors * u = mul-le-mul_right u h in
      let b : (d + k) * u ≡ d * u + k * u = add-mul d k u in
      let c : total kind T.sectors * u ≡ span kind T.sectors = span_is kind in
      sweep-outside (later (rule kind held) (d * u)) m (start + d * u) (k * u) i (⊎_elim (λ below. inl (omega arith)) (λ above. inr (omega arith)) o)
