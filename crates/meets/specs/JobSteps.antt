-- The part as a machine with a job under way: what spares the job, and that each event then does exactly the steps of its working ticks.
-- This is the argument over the definitions; `Demand3` is the statement, `Stepwise` draws the conclusions and `Meets3` reads them for the model `ours`.
use Prim.Native.Nat.{ℕ, zero, suc, ◌+◌, ◌<◌, ◌≤◌, max, ◌-◌}
use Rattle.std.specs.Prelude.{Bool, true, false, not, ◌&&◌, List, ◌≡◌, refl, ◌⊎◌, ltb}
use Rattle.std.proofs.Math.Path.{sym, ap, subst}
use Rattle.std.proofs.Common.{◌∙◌, inr, ⊎_elim, add-zero, add-one, arith}
use Rattle.std.proofs.Math.Logic.{inl}
use Rattle.std.proofs.Math.Decide.{dec_lt}
use Rattle.cells.specs.Choice.{cond_either}
use Rattle.cells.specs.Stepping.{Steps, laid, Machine}
use Rattle.part.specs.Part.{Setting}
use Rattle.commands.specs.Table.{reset}
use Rattle.kinds.specs.Kinds.{DESELECT, POWER}
use Rattle.chip.specs.declared.Chip.{Chip}
use Rattle.chip.specs.declared.Core.{Core}
use Rattle.chip.specs.declared.Job.{Job}
use Rattle.chip.specs.declared.JobKind.{JobKind}
use Rattle.chip.specs.declared.JobKind.TheVariants.{Idle, WriteStatus, Program, SmallErase, SectorErase, ChipErase}
use Rattle.chip.specs.Fields.{with_done}
use Rattle.chip.specs.Job.{is_job, total, steps, no_job}
use Rattle.chip.specs.Chip.{Bits, bits_of, running, blank_load}
use Rattle.job.specs.Tick.{steps_left, ticks_left, ticks_core, worked, ended_as, suspends, advanced}
use Rattle.job.proofs.Laws.{Stop, pauses, ends, stop-of, waits_one, left_most}
use Rattle.job.proofs.Laws.{steps-none, steps-add, ticks-rest, ticks_load-rest, ticks_memory-rest, worked-rest, ticks_go, ticks_load_go, ticks_memory_go, worked_go, ended-none, ticks_memory_over, worked_over, ticks_pause, ticks_load_pause, ticks_end, ticks_load_end}
use Rattle.verdict.specs.Verdict.{verdict}
use Rattle.verdict.proofs.Laws.{settled_same, held_stays}
use Rattle.event.specs.Event.{Outcome, closes, deselect, tick, applied}
use Rattle.event.proofs.Laws.{applied-each}
use Rattle.script.specs.Script.{Event}
use Rattle.script.specs.Run.{World, does, onward}
use Rattle.demands.specs.Demand3.{bits_after}

-- ---- the kept bits, after a job's last step

-- a write status has set them, every other job has left them
ended-bits : (kind : JobKind) (k : Core) → bits_of (ended_as kind k) ≡ bits_after kind (bits_of k)
ended-bits (WriteStatus value) k = refl
ended-bits Idle k = refl
ended-bits Program k = refl
ended-bits SmallErase k = refl
ended-bits SectorErase k = refl
ended-bits ChipErase k = refl

-- ---- what spares a job

-- a deselect of a frame that neither begins a job nor is a reset done at once: no verdict 2, and no verdict 1 of 99h (RULES, Verdicts)
abbrev pub LeavesJob : Setting → Chip → Bool → Type 0
LeavesJob T c loose =
    c.frame.selected ≡ true
    → (verdict T.sectors c.core c.frame loose ≡ 2 → ⊥) × (verdict T.sectors c.core c.frame loose ≡ 1 → c.frame.opcode ≡ reset → ⊥)

-- an event that is no power cut, no reset and begins no job; suspends, resumes, reads, ticks, frames turned away and frames left open all spare it
pub record Spares (T : Setting) (c : Chip) (kind body : ℕ) : Type 0 where
  pub no_power_cut : kind ≡ POWER → ⊥
  pub deselect_spares : kind ≡ DESELECT → LeavesJob T c (ltb 0 body)

-- ---- an event that spares the job, and finds none running if it is ticks, changes neither cells nor job

-- cells, job, its load and the kept bits as they were, and no tick worked
pub record Unchanged (c : Chip) (m : List ℕ) (o : Outcome) : Type 0 where
  pub memory_same : o.memory ≡ m
  pub works_none : o.ticks ≡ 0
  pub job_same : o.chip.core.job ≡ c.core.job
  pub held_same : o.chip.held ≡ c.held
  pub bits_same : bits_of o.chip.core ≡ bits_of c.core

module _ (T : Setting) (c : Chip) (m : List ℕ) where
  -- a frame closed so, a deselect that leaves the job, and ticks that find none running
  closes_unchanged : (v : ℕ) → (v ≡ 2 → ⊥) → (v ≡ 1 → c.frame.opcode ≡ reset → ⊥) → Unchanged c m (closes T c m v)
  closes_unchanged v not-begun not-reset =
      let same = settled_same T.sectors c.core c.frame v not-begun not-reset in
      record { memory_same = refl; works_none = refl; job_same = same.0; held_same = held_stays c.frame v c.load c.held not-begun not-reset; bits_same = same.1 }

  deselect_unchanged : (loose : Bool) → LeavesJob T c loose → Unchanged c m (deselect T c m loose)
  deselect_unchanged loose leaves =
      cond_either (Unchanged c m) c.frame.selected _ _ (λ s. closes_unchanged (verdict T.sectors c.core c.frame loose) (leaves s).0 (leaves s).1)
      (λ _. record { memory_same = refl; works_none = refl; job_same = refl; held_same = refl; bits_same = refl })

  ticks_unchanged : (n : ℕ) → running c.core ≡ false → Unchanged c m (tick T c m n)
  ticks_unchanged n r =
      let core : ticks_core T.sectors n c.core ≡ c.core = ticks-rest T.sectors n c.core r in
      record {
        memory_same = ticks_memory-rest T.sectors n c.core c.held m r;
        works_none = worked-rest T.sectors n c.core r;
        job_same = ap (λ (q : Core). q.job) core;
        held_same = ticks_load-rest T.sectors n c.core c.held r;
        bits_same = ap bits_of core;
      }

  -- what holds of an event that changes neither, and of ticks, holds of every event that spares the job
  pub sparing_each : (kind body : ℕ) (P : Outcome → Type 0) → Spares T c kind body → ((o : Outcome) → Unchanged c m o → P o) → ((n : ℕ) → P (tick T c m n)) → P (applied T c m kind body)
  sparing_each kind body P s still ticks =
      applied-each T c m kind body P
      (λ _. still _ (record { memory_same = refl; works_none = refl; job_same = refl; held_same = refl; bits_same = refl }))
      (λ _. still _ (record { memory_same = refl; works_none = refl; job_same = refl; held_same = refl; bits_same = refl }))
      (λ e. still _ (deselect_unchanged (ltb 0 body) (s.deselect_spares e)))
      (λ _. ticks 1)
      (λ _. ticks body)
      (λ _. still _ (record { memory_same = refl; works_none = refl; job_same = refl; held_same = refl; bits_same = refl }))
      (λ e. absurd (s.no_power_cut e))
      (λ _. still _ (record { memory_same = refl; works_none = refl; job_same = refl; held_same = refl; bits_same = refl }))

  -- With no job running, an event that is no power cut, no reset and begins no job leaves cells, job and load as they were, whatever a bench has lent.
  pub resting_unchanged : (kind body : ℕ) → Spares T c kind body → running c.core ≡ false → Unchanged c m (applied T c m kind body)
  resting_unchanged kind body s r = sparing_each kind body (Unchanged c m) s (λ o u. u) (λ n. ticks_unchanged n r)

-- ---- where the job stands

module _ (kind : JobKind) (start : ℕ) (held : List ℕ) where
  -- step i of the job
  abbrev pub step_of : Steps
  step_of i m = steps kind start held i 1 m

  -- k steps at once are the k steps one by one
  pub laid_steps : (d k : ℕ) (m : List ℕ) → laid step_of d k m ≡ steps kind start held d k m
  unfolding laid
  laid_steps d zero m = sym (steps-none kind start held d m)
  laid_steps d (suc k) m =
      ap (steps kind start held (d + k) 1) (laid_steps d k m)
      ∙ sym (steps-add kind start held d k 1 m)
      ∙ ap (λ (q : ℕ). steps kind start held d q m) (add-one k)

-- the job stands at step i, with its load and these bits
pub record AtStep (kind : JobKind) (start : ℕ) (held : List ℕ) (bits : Bits) (i : ℕ) (c : Chip) : Type 0 where
  pub job_is : c.core.job ≡ record { kind = kind; start = start; done = i }
  pub held_is : c.held ≡ held
  pub bits_are : bits_of c.core ≡ bits

-- the job is over: nothing is left of it but the bits of a write status
pub record JobOver (kind : JobKind) (bits : Bits) (c : Chip) : Type 0 where
  pub job_none : c.core.job ≡ no_job
  pub load_blank : c.held ≡ blank_load
  pub bits_are : bits_of c.core ≡ bits_after kind bits

-- ---- one event

module _ (T : Setting) (kind : JobKind) (start : ℕ) (held : List ℕ) (bits : Bits) where
  abbrev S : ℕ
  S = T.sectors

  abbrev step : Steps
  step = step_of kind start held

  abbrev At : ℕ → Chip → Type 0
  At = AtStep kind start held bits

  abbrev Over : Chip → Type 0
  Over = JobOver kind bits

  -- what an event from step i leaves: its working ticks' steps are done, and the job goes on or is over
  abbrev pub Goes : ℕ → List ℕ → Outcome → Type 0
  Goes i m o =
      (o.memory ≡ laid step i o.ticks m)
      × (((i + o.ticks < total kind S) × At (i + o.ticks) o.chip) ⊎ ((i + o.ticks ≡ total kind S) × Over o.chip))

  module _ (i : ℕ) (c : Chip) (m : List ℕ) (at : At i c) (left : i < total kind S) where
    -- an event that changes neither cells nor job
    unchanged_goes : (o : Outcome) → Unchanged c m o → Goes i m o
    unfolding laid
    unchanged_goes o u = (
      u.memory_same ∙ ap (λ (q : ℕ). laid step i q m) (sym u.works_none),
      inl (
        omega (arith, u.works_none),
        subst (λ (q : ℕ). At q o.chip) (sym (add-zero i) ∙ ap (λ (q : ℕ). i + q) (sym u.works_none))
            (record { job_is = u.job_same ∙ at.job_is; held_is = u.held_same ∙ at.held_is; bits_are = u.bits_same ∙ at.bits_are }),
      ),
    )

    -- ---- ticks: none of them works, or as many as find the job running

    -- a job as the core has it, and as it is known
    job_as : {A : Type 0} (g : Job → A) → g c.core.job ≡ g (record { kind = kind; start = start; done = i })
    job_as g = ap g at.job_is

    left_is : steps_left S c.core ≡ total kind S - i
    left_is = job_as (λ (j : Job). max (total j.kind S - j.done) 1) ∙ omega arith

    -- no more ticks find the job running than it has steps left
    left_within : ticks_left S c.core ≤ total kind S - i
    left_within = omega (arith, left_is, left_most c.core.waiting (steps_left S c.core) (omega arith))

    steps_as : (n : ℕ) → steps c.core.job.kind c.core.job.start c.held c.core.job.done n m ≡ laid step i n m
    steps_as n = job_as (λ (j : Job). steps j.kind j.start c.held j.done n m) ∙ ap (λ (p : List ℕ). steps kind start p i n m) at.held_is ∙ sym (laid_steps kind start held i n m)

    -- where the core has moved on by d steps, with the load and the bits that it had
    moved_on_lem : (d : ℕ) (o : Outcome) → o.chip.core.job ≡ (advanced d c.core).job → o.chip.held ≡ c.held → bits_of o.chip.core ≡ bits_of c.core → At (i + d) o.chip
    moved_on_lem d o job load kept =
        record { job_is = job ∙ job_as (λ (j : Job). with_done (j.done + d) j); held_is = load ∙ at.held_is; bits_are = kept ∙ at.bits_are }

    -- some ticks, all of which found it running, and all that did
    ticks_some_go : (n : ℕ) → running c.core ≡ true → n < ticks_left S c.core → Goes i m (tick T c m n)
    ticks_some_go n r less =
        let w : worked S n c.core ≡ n = worked_go S c.core r n (omega arith) in
        let core_is : ticks_core S n c.core ≡ advanced n c.core = ticks_go S c.core r n less in (
          ticks_memory_go S c.core r c.held m n (omega arith) ∙ steps_as n ∙ ap (λ (q : ℕ). laid step i q m) (sym w),
          inl (
            omega (arith, w, left_within),
            subst (λ (q : ℕ). At (i + q) (tick T c m n).chip) (sym w) (moved_on_lem n (tick T c m n) (ap (λ (q : Core). q.job) core_is) (ticks_load_go S c.core r c.held n less) (ap bits_of core_is)),
          ),
        )

    module _ (n : ℕ) (r : running c.core ≡ true) (enough : ticks_left S c.core ≤ n) where
      all_worked : worked S n c.core ≡ ticks_left S c.core
      all_worked = worked_over S c.core r n enough

      all_laid : (tick T c m n).memory ≡ laid step i (worked S n c.core) m
      all_laid = ticks_memory_over S c.core r n enough c.held m ∙ steps_as (ticks_left S c.core) ∙ ap (λ (q : ℕ). laid step i q m) (sym all_worked)

      -- it waited, has steps left, and is suspended at the next
      ticks_pause_go : c.core.waiting ≡ true → c.core.job.done + 1 < total c.core.job.kind S → Goes i m (tick T c m n)
      ticks_pause_go waits more =
          let w : worked S n c.core ≡ 1 = all_worked ∙ waits_one S c.core waits in
          let core_is : ticks_core S n c.core ≡ suspends (advanced 1 c.core) = ticks_pause S c.core r n enough waits more in
          let left_one : i + 1 < total kind S = subst (λ (j : Job). j.done + 1 < total j.kind S) at.job_is more in (
            all_laid,
            inl (
              omega (arith, w, left_one),
              subst (λ (q : ℕ). At (i + q) (tick T c m n).chip) (sym w)
                  (moved_on_lem 1 (tick T c m n) (ap (λ (q : Core). q.job) core_is) (ticks_load_pause S c.core r n enough c.held waits more) (ap bits_of core_is)),
            ),
          )

      -- all its steps are done
      ticks_all_go : ticks_left S c.core ≡ steps_left S c.core → Goes i m (tick T c m n)
      ticks_all_go all =
          let core_is : ticks_core S n c.core ≡ ended_as kind c.core = ticks_end S c.core r n enough all ∙ job_as (λ (j : Job). ended_as j.kind c.core) in (
            all_laid,
            inr (
              omega (arith, all_worked, all, left_is),
              record {
                job_none = ap (λ (q : Core). q.job) core_is ∙ ended-none kind c.core;
                load_blank = ticks_load_end S c.core r n enough c.held all;
                bits_are = ap bits_of core_is ∙ ended-bits kind c.core ∙ ap (bits_after kind) at.bits_are;
              },
            ),
          )

    tick_goes : (n : ℕ) → Goes i m (tick T c m n)
    tick_goes n = go (running c.core) refl (dec_lt n (ticks_left S c.core)) (stop-of S c.core)
      where
        go : (b : Bool) → running c.core ≡ b → Dec (n < ticks_left S c.core) → Stop S c.core → Goes i m (tick T c m n)
        go false r d s = unchanged_goes _ (ticks_unchanged T c m n r)
        go true r (yes less) s = ticks_some_go n r less
        go true r (no done) (pauses waits more) = ticks_pause_go n r (omega arith) waits more
        go true r (no done) (ends all) = ticks_all_go n r (omega arith) all

    -- every event that spares the job
    pub event_goes : (kind' body : ℕ) → Spares T c kind' body → Goes i m (applied T c m kind' body)
    event_goes kind' body s = sparing_each T c m kind' body (Goes i m) s unchanged_goes tick_goes

  -- ---- once the job is over

  module _ (c : Chip) (m : List ℕ) (over : Over c) where
    -- no job runs
    over_rests : running c.core ≡ false
    over_rests = ap (λ (j : Job). is_job j.kind && not c.core.suspended) over.job_none

    -- an event that begins none leaves it so
    abbrev pub Rests : Outcome → Type 0
    Rests o = (o.memory ≡ m) × (o.ticks ≡ 0) × Over o.chip

    unchanged_rests : (o : Outcome) → Unchanged c m o → Rests o
    unchanged_rests o u = (
      u.memory_same,
      u.works_none,
      record { job_none = u.job_same ∙ over.job_none; load_blank = u.held_same ∙ over.load_blank; bits_are = u.bits_same ∙ over.bits_are },
    )

    tick-rests : (n : ℕ) → Rests (tick T c m n)
    tick-rests n = unchanged_rests (tick T c m n) (ticks_unchanged T c m n over_rests)

    pub event_rests : (kind' body : ℕ) → Spares T c kind' body → Rests (applied T c m kind' body)
    event_rests kind' body s = sparing_each T c m kind' body Rests s unchanged_rests tick-rests

  -- ---- the machine

  pub went : (i : ℕ) (o : Outcome) (m : List ℕ) → Goes i m o
      → (o.memory ≡ laid step i o.ticks m)
      × (((i + o.ticks < total kind S) × ((i + o.ticks < total kind S) × At (i + o.ticks) o.chip)) ⊎ ((i + o.ticks ≡ total kind S) × Over o.chip))
  went i o m g = (g.0, ⊎_elim (λ on. inl (on.0, (on.0, on.1))) (λ end. inr end) g.1)

  abbrev pub machine : Machine World Event step (total kind S)
  machine =
      record {
        next = onward T;
        memory = λ w. w.memory;
        worked = λ e w. (does T e w).ticks;
        At = λ i w. (i < total kind S) × At i w.chip;
        Over = λ w. Over w.chip;
        Spares = λ e w. Spares T w.chip e.kind e.body;
        goes = λ i e w a s. went i (does T e w) w.memory (event_goes i w.chip w.memory a.1 a.0 e.kind e.body s);
        rests = λ e w o s. event_rests w.chip w.memory o e.kind e.body s;
      }
