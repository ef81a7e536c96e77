-- What is true of ticks: n of them in closed form, n + m of them in two parts, and what they leave alone.
use Prim.Native.Nat.{ℕ, zero, suc, ◌+◌, ◌*◌, ◌<◌, ◌≤◌, ◌-◌}
use Rattle.std.specs.Prelude.{Bool, true, false, cond, not, ◌&&◌, ◌≡◌, ltb, length}
use mathlib.Core.List.{List}
use Rattle.std.proofs.Math.Path.{refl, sym, ap}
use Rattle.std.proofs.Common.{◌∙◌, add-zero, add-suc, add_assoc, zero-mul, mul-zero, add-mul, add-one, lt-ltb, le-ltb}
use native.Mathlib.Omega.{arith}
use Rattle.std.proofs.Math.Decide.{dec_lt}
use Rattle.cells.specs.Choice.{cond_yes, cond_no, cond_either}
use Rattle.cells.specs.Cells.{Rule, sweep, later}
use Rattle.cells.proofs.Laws.{sweep-none, sweep-add, later-later, length-sweep}
use Rattle.chip.specs.declared.Core.{Core}
use Rattle.chip.specs.declared.Job.{Job}
use Rattle.chip.specs.declared.JobKind.{JobKind}
use Rattle.chip.specs.declared.JobKind.TheVariants.{Idle, WriteStatus, Program, SmallErase, SectorErase, ChipErase}
use Rattle.chip.specs.Job.{is_job, steps, total, unit, rule, no_job}
use Rattle.chip.specs.Chip.{with_bits, running, blank_load}
use Rattle.job.specs.Tick.{at_step, advanced, suspends, moved_on, gone, ended, ended_as, tick_core, tick_load, tick_memory, ticks_core, ticks_load, ticks_memory, worked, steps_left, ticks_left, TicksAnswer}

-- ---- steps

-- no step changes nothing
pub steps-none : (kind : JobKind) (start : ℕ) (held : List ℕ) (d : ℕ) (m : List ℕ) → steps kind start held d 0 m ≡ m
steps-none kind start held d m = rw (zero-mul (unit kind)) (sweep-none _ m _)

-- a job without cells changes none
pub steps_no_cells : (kind : JobKind) (start : ℕ) (held : List ℕ) (d k : ℕ) (m : List ℕ) → unit kind ≡ 0 → steps kind start held d k m ≡ m
steps_no_cells kind start held d k m h =
    let e : k * unit kind ≡ 0 = ap (λ (u : ℕ). k * u) h ∙ mul-zero k in
    ap (sweep (later (rule kind held) (d * unit kind)) m (start + d * unit kind)) e ∙ sweep-none _ m _

-- k steps and then j are k + j
pub steps-add : (kind : JobKind) (start : ℕ) (held : List ℕ) (d k j : ℕ) (m : List ℕ) → steps kind start held d (k + j) m ≡ steps kind start held (d + k) j (steps kind start held d k m)
steps-add kind start held d k j m =
    let u : ℕ = unit kind in
    let g : Rule = later (rule kind held) (d * u) in
    let p : ℕ = start + d * u in
    ap (sweep g m p) (add-mul k j u)
    ∙ sweep-add g m p (k * u) (j * u)
    ∙ ap (λ (h : Rule). sweep h (sweep g m p (k * u)) (p + k * u) (j * u)) (later-later (rule kind held) (d * u) (k * u) ∙ ap (later (rule kind held)) (sym (add-mul d k u)))
    ∙ ap (λ (q : ℕ). sweep (later (rule kind held) ((d + k) * u)) (sweep g m p (k * u)) q (j * u)) (add_assoc start (d * u) (k * u) ∙ ap (λ (q : ℕ). start + q) (sym (add-mul d k u)))

pub length-steps : (kind : JobKind) (start : ℕ) (held : List ℕ) (d k : ℕ) (m : List ℕ) → length (steps kind start held d k m) ≡ length m
length-steps kind start held d k m = length-sweep _ m _ _

-- ---- one tick, and one more

pub ticks_core-more : (S n : ℕ) (k : Core) → ticks_core S (n + 1) k ≡ tick_core S (ticks_core S n k)
unfolding ticks_core
ticks_core-more S n k = rw add-one

pub ticks_load-more : (S n : ℕ) (k : Core) (held : List ℕ) → ticks_load S (n + 1) k held ≡ tick_load S (ticks_core S n k) (ticks_load S n k held)
unfolding ticks_load
ticks_load-more S n k held = rw add-one

-- a tick that finds no job running does nothing
pub tick-rests : (S : ℕ) (k : Core) → running k ≡ false → tick_core S k ≡ k
unfolding tick_core
tick-rests S k h = cond_no (running k) _ _ h

pub tick_load-rests : (S : ℕ) (k : Core) (held : List ℕ) → running k ≡ false → tick_load S k held ≡ held
unfolding tick_load
tick_load-rests S k held h = cond_no (running k) _ _ h

pub tick_memory-rests : (k : Core) (held m : List ℕ) → running k ≡ false → tick_memory k held m ≡ m
unfolding tick_memory
tick_memory-rests k held m h = cond_no (running k) _ _ h

-- a tick that finds a job running does its next step
pub tick-moves : (S : ℕ) (k : Core) → running k ≡ true → k.job.done + 1 < total k.job.kind S → tick_core S k ≡ moved_on k
unfolding tick_core
tick-moves S k h l = cond_yes (running k) _ _ h ∙ cond_yes (ltb (k.job.done + 1) (total k.job.kind S)) _ _ (lt-ltb _ _ l)

pub tick_goes : (S : ℕ) (k : Core) → running k ≡ true → k.waiting ≡ false → k.job.done + 1 < total k.job.kind S → tick_core S k ≡ advanced 1 k
tick_goes S k h w l = tick-moves S k h l ∙ cond_no k.waiting _ _ w

pub tick-ends : (S : ℕ) (k : Core) → running k ≡ true → total k.job.kind S ≤ k.job.done + 1 → tick_core S k ≡ ended k
unfolding tick_core
tick-ends S k h l = cond_yes (running k) _ _ h ∙ cond_no (ltb (k.job.done + 1) (total k.job.kind S)) _ _ (le-ltb _ _ l)

pub tick_load-goes : (S : ℕ) (k : Core) (held : List ℕ) → running k ≡ true → k.job.done + 1 < total k.job.kind S → tick_load S k held ≡ held
unfolding tick_load
tick_load-goes S k held h l = cond_yes (running k) _ _ h ∙ cond_yes (ltb (k.job.done + 1) (total k.job.kind S)) _ _ (lt-ltb _ _ l)

pub tick_load-ends : (S : ℕ) (k : Core) (held : List ℕ) → running k ≡ true → total k.job.kind S ≤ k.job.done + 1 → tick_load S k held ≡ blank_load
unfolding tick_load
tick_load-ends S k held h l = cond_yes (running k) _ _ h ∙ cond_no (ltb (k.job.done + 1) (total k.job.kind S)) _ _ (le-ltb _ _ l)

pub tick_memory-works : (k : Core) (held m : List ℕ) → running k ≡ true → tick_memory k held m ≡ steps k.job.kind k.job.start held k.job.done 1 m
unfolding tick_memory
tick_memory-works k held m h = cond_yes (running k) _ _ h

-- ---- n ticks with no job running

pub ticks-rest : (S n : ℕ) (k : Core) → running k ≡ false → ticks_core S n k ≡ k
unfolding ticks_core
ticks-rest S zero k h = refl
ticks-rest S (suc n) k h = ap (tick_core S) (ticks-rest S n k h) ∙ tick-rests S k h

pub ticks_load-rest : (S n : ℕ) (k : Core) (held : List ℕ) → running k ≡ false → ticks_load S n k held ≡ held
unfolding ticks_load
ticks_load-rest S zero k held h = refl
ticks_load-rest S (suc n) k held h = tick_load-rests S (ticks_core S n k) _ (ap running (ticks-rest S n k h) ∙ h) ∙ ticks_load-rest S n k held h

pub ticks_memory-rest : (S n : ℕ) (k : Core) (held m : List ℕ) → running k ≡ false → ticks_memory S n k held m ≡ m
unfolding ticks_memory
ticks_memory-rest S zero k held m h = refl
ticks_memory-rest S (suc n) k held m h =
    tick_memory-rests (ticks_core S n k) (ticks_load S n k held) _ (ap running (ticks-rest S n k h) ∙ h) ∙ ticks_memory-rest S n k held m h

pub worked-rest : (S n : ℕ) (k : Core) → running k ≡ false → worked S n k ≡ 0
unfolding worked
worked-rest S zero k h = refl
worked-rest S (suc n) k h = rw (worked-rest S n k h, cond_no {A = ℕ} (running (ticks_core S n k)) 1 0 (ap running (ticks-rest S n k h) ∙ h))

-- ---- n + m ticks are n ticks and then m

pub ticks-add : (S n m : ℕ) (k : Core) → ticks_core S (n + m) k ≡ ticks_core S m (ticks_core S n k)
unfolding ticks_core
ticks-add S n zero k = rw add-zero
ticks-add S n (suc m) k = rw (add-suc, ticks_core) (ap (tick_core S) (ticks-add S n m k))

pub ticks_load-add : (S n m : ℕ) (k : Core) (held : List ℕ) → ticks_load S (n + m) k held ≡ ticks_load S m (ticks_core S n k) (ticks_load S n k held)
unfolding ticks_load
ticks_load-add S n zero k held = rw add-zero
ticks_load-add S n (suc m) k held =
    rw (add-suc, ticks_load)
    (ap (λ (q : Core). tick_load S q (ticks_load S (n + m) k held)) (ticks-add S n m k)
    ∙ ap (tick_load S (ticks_core S m (ticks_core S n k))) (ticks_load-add S n m k held))

pub ticks_memory-add : (S n m : ℕ) (k : Core) (held mem : List ℕ) → ticks_memory S (n + m) k held mem ≡ ticks_memory S m (ticks_core S n k) (ticks_load S n k held) (ticks_memory S n k held mem)
unfolding ticks_memory
ticks_memory-add S n zero k held mem = rw add-zero
ticks_memory-add S n (suc m) k held mem =
    rw (add-suc, ticks_memory)
    (ap (λ (q : Core). tick_memory q (ticks_load S (n + m) k held) (ticks_memory S (n + m) k held mem)) (ticks-add S n m k)
    ∙ ap (λ (l : List ℕ). tick_memory (ticks_core S m (ticks_core S n k)) l (ticks_memory S (n + m) k held mem)) (ticks_load-add S n m k held)
    ∙ ap (tick_memory (ticks_core S m (ticks_core S n k)) (ticks_load S m (ticks_core S n k) (ticks_load S n k held))) (ticks_memory-add S n m k held mem))

pub worked-add : (S n m : ℕ) (k : Core) → worked S (n + m) k ≡ worked S n k + worked S m (ticks_core S n k)
unfolding worked
worked-add S n zero k = rw (add-zero, add-zero)
worked-add S n (suc m) k =
    rw (add-suc, worked)
    (ap (λ (w : ℕ). w + cond (running (ticks_core S (n + m) k)) 1 0) (worked-add S n m k)
    ∙ add_assoc _ _ _
    ∙ ap (λ (q : Core). worked S n k + (worked S m (ticks_core S n k) + cond (running q) 1 0)) (ticks-add S n m k))

-- ---- a job's end

-- what holds of a core whose job is gone, with its bits or those of a write status, holds of what a job's end leaves
pub ended-each : (kind : JobKind) (k : Core) (P : Core → Type 0) → P (gone k) → ((value : ℕ) → P (with_bits value (gone k))) → P (ended_as kind k)
ended-each Idle k P plain status = plain
ended-each (WriteStatus value) k P plain status = status value
ended-each Program k P plain status = plain
ended-each SmallErase k P plain status = plain
ended-each SectorErase k P plain status = plain
ended-each ChipErase k P plain status = plain

-- what a job's end leaves does not depend on its steps done
pub ended_same : (kind : JobKind) (d : ℕ) (k : Core) → ended_as kind (at_step d k) ≡ ended_as kind k
ended_same Idle d k = refl
ended_same (WriteStatus value) d k = refl
ended_same Program d k = refl
ended_same SmallErase d k = refl
ended_same SectorErase d k = refl
ended_same ChipErase d k = refl

-- after it there is no job, so none runs
pub ended-none : (kind : JobKind) (k : Core) → (ended_as kind k).job ≡ no_job
ended-none kind k = ended-each kind k (λ (q : Core). q.job ≡ no_job) refl (λ _. refl)

pub ended-rests : (kind : JobKind) (k : Core) → running (ended_as kind k) ≡ false
ended-rests kind k = ap (λ (j : Job). is_job j.kind && not (ended_as kind k).suspended) (ended-none kind k)

-- no step further is as far
advanced-none : (k : Core) → advanced 0 k ≡ k
advanced-none k = ap (λ (d : ℕ). at_step d k) (add-zero k.job.done)

-- a suspended job does not run
suspends-rests : (k : Core) → running (suspends k) ≡ false
suspends-rests k = go (is_job k.job.kind)
  where
    go : (b : Bool) → (b && false) ≡ false
    go true = refl
    go false = refl

-- ---- n ticks of a running job: its next n steps, as long as more than n of them find it running

-- no more ticks find it running than it has steps left
pub left_most : (waiting : Bool) (steps : ℕ) → 1 ≤ steps → cond waiting 1 steps ≤ steps
left_most true steps some = some
left_most false steps some = omega arith

-- and at least one does
pub left_some : (S : ℕ) (k : Core) → 1 ≤ ticks_left S k
left_some S k = cond_either (λ (left : ℕ). 1 ≤ left) k.waiting 1 (steps_left S k) (λ _. omega arith) (λ _. omega arith)

-- how a job that runs stops: it waited and has steps left after the next; or its steps left are all done
pub data Stop (S : ℕ) (k : Core) : Type 0 where
  pauses : k.waiting ≡ true → k.job.done + 1 < total k.job.kind S → Stop S k
  ends : ticks_left S k ≡ steps_left S k → Stop S k

pub waits_one : (S : ℕ) (k : Core) → k.waiting ≡ true → ticks_left S k ≡ 1
waits_one S k w = cond_yes k.waiting _ _ w

pub stop-of : (S : ℕ) (k : Core) → Stop S k
stop-of S k = go k.waiting refl (dec_lt (k.job.done + 1) (total k.job.kind S))
  where
    go : (b : Bool) → k.waiting ≡ b → Dec (k.job.done + 1 < total k.job.kind S) → Stop S k
    go true w (yes more) = pauses w more
    go true w (no last) = ends (waits_one S k w ∙ omega arith)
    go false w d = ends (cond_no k.waiting _ _ w)

module _ (S : ℕ) (k : Core) (runs : running k ≡ true) where
  -- a job with more than one tick left does not wait, and has as many steps left
  runs_on : (n : ℕ) → suc n < ticks_left S k → (k.waiting ≡ false) × (k.job.done + suc n < total k.job.kind S)
  runs_on n = go k.waiting refl
    where
      go : (b : Bool) → k.waiting ≡ b → suc n < cond b 1 (steps_left S k) → (k.waiting ≡ false) × (k.job.done + suc n < total k.job.kind S)
      go true w l = absurd (omega arith)
      go false w l = (w, omega arith)

  pub ticks_go : (n : ℕ) → n < ticks_left S k → ticks_core S n k ≡ advanced n k
  unfolding ticks_core
  ticks_go zero l = sym (advanced-none k)
  ticks_go (suc n) l =
      let on = runs_on n l in
      let e : k.job.done + n + 1 ≡ k.job.done + suc n = omega arith in
      ap (tick_core S) (ticks_go n (omega arith)) ∙ tick_goes S (advanced n k) runs on.0 (omega (arith, on.1)) ∙ ap (λ (d : ℕ). at_step d k) e

  -- a tick after n of them still finds it running
  pub ticks_running : (n : ℕ) → n < ticks_left S k → running (ticks_core S n k) ≡ true
  ticks_running n l = ap running (ticks_go n l) ∙ runs

  -- so n + 1 of them do n + 1 steps, the last one included
  pub worked_go : (n : ℕ) → n ≤ ticks_left S k → worked S n k ≡ n
  unfolding worked
  worked_go zero l = refl
  worked_go (suc n) l = rw (worked_go n (omega arith), cond_yes {A = ℕ} (running (ticks_core S n k)) 1 0 (ticks_running n (omega arith))) (add-one n)

  -- the job's load is still there
  pub ticks_load_go : (held : List ℕ) (n : ℕ) → n < ticks_left S k → ticks_load S n k held ≡ held
  unfolding ticks_load
  ticks_load_go held zero l = refl
  ticks_load_go held (suc n) l =
      ap (λ (q : Core). tick_load S q (ticks_load S n k held)) (ticks_go n (omega arith))
      ∙ tick_load-goes S (advanced n k) _ runs (omega (arith, (runs_on n l).1))
      ∙ ticks_load_go held n (omega arith)

  pub ticks_memory_go : (held m : List ℕ) (n : ℕ) → n ≤ ticks_left S k → ticks_memory S n k held m ≡ steps k.job.kind k.job.start held k.job.done n m
  unfolding ticks_memory
  ticks_memory_go held m zero l = sym (steps-none k.job.kind k.job.start held k.job.done m)
  ticks_memory_go held m (suc n) l =
      ap (λ (q : Core). tick_memory q (ticks_load S n k held) (ticks_memory S n k held m)) (ticks_go n (omega arith))
      ∙ ap (λ (l : List ℕ). tick_memory (advanced n k) l (ticks_memory S n k held m)) (ticks_load_go held n (omega arith))
      ∙ tick_memory-works (advanced n k) held _ runs
      ∙ ap (steps k.job.kind k.job.start held (k.job.done + n) 1) (ticks_memory_go held m n (omega arith))
      ∙ sym (steps-add k.job.kind k.job.start held k.job.done n 1 m)
      ∙ ap (λ (q : ℕ). steps k.job.kind k.job.start held k.job.done q m) (add-one n)

  -- the last of those ticks, which comes after n others
  last_tick : (n : ℕ) → ticks_left S k ≡ n + 1 → ticks_core S (ticks_left S k) k ≡ tick_core S (advanced n k)
  last_tick n e = ap (λ (q : ℕ). ticks_core S q k) e ∙ ticks_core-more S n k ∙ ap (tick_core S) (ticks_go n (omega arith))

  last_load : (held : List ℕ) (n : ℕ) → ticks_left S k ≡ n + 1 → ticks_load S (ticks_left S k) k held ≡ tick_load S (advanced n k) held
  last_load held n e =
      ap (λ (q : ℕ). ticks_load S q k held) e
      ∙ ticks_load-more S n k held
      ∙ ap (λ (q : Core). tick_load S q (ticks_load S n k held)) (ticks_go n (omega arith))
      ∙ ap (tick_load S (advanced n k)) (ticks_load_go held n (omega arith))

  -- a job that waited is suspended by it, and keeps its load
  module _ (waits : k.waiting ≡ true) (more : k.job.done + 1 < total k.job.kind S) where
    pause_core : ticks_core S (ticks_left S k) k ≡ suspends (advanced 1 k)
    pause_core = last_tick 0 (waits_one S k waits) ∙ ap (tick_core S) (advanced-none k) ∙ tick-moves S k runs more ∙ cond_yes k.waiting _ _ waits

    pause_load : (held : List ℕ) → ticks_load S (ticks_left S k) k held ≡ held
    pause_load held = last_load held 0 (waits_one S k waits) ∙ ap (λ (q : Core). tick_load S q held) (advanced-none k) ∙ tick_load-goes S k held runs more

  -- every other job is ended by it, and its load goes with it
  module _ (all : ticks_left S k ≡ steps_left S k) where
    abbrev before : ℕ
    before = ticks_left S k - 1

    end_core : ticks_core S (ticks_left S k) k ≡ ended k
    end_core = last_tick before (omega (arith, all)) ∙ tick-ends S (advanced before k) runs (omega (arith, all)) ∙ ended_same k.job.kind (k.job.done + before) k

    end_load : (held : List ℕ) → ticks_load S (ticks_left S k) k held ≡ blank_load
    end_load held = last_load held before (omega (arith, all)) ∙ tick_load-ends S (advanced before k) _ runs (omega (arith, all))

  -- either way it runs no more
  stopped_rests : running (ticks_core S (ticks_left S k) k) ≡ false
  stopped_rests = go (stop-of S k)
    where
      go : Stop S k → running (ticks_core S (ticks_left S k) k) ≡ false
      go (pauses waits more) = ap running (pause_core waits more) ∙ suspends-rests (advanced 1 k)
      go (ends all) = ap running (end_core all) ∙ ended-rests k.job.kind k

  -- and later ticks find nothing to do
  module _ (n : ℕ) (enough : ticks_left S k ≤ n) where
    abbrev rest : ℕ
    rest = n - ticks_left S k

    whole : n ≡ ticks_left S k + rest
    whole = omega arith

    core_over : ticks_core S n k ≡ ticks_core S (ticks_left S k) k
    core_over = ap (λ (q : ℕ). ticks_core S q k) whole ∙ ticks-add S (ticks_left S k) rest k ∙ ticks-rest S rest _ stopped_rests

    load_over : (held : List ℕ) → ticks_load S n k held ≡ ticks_load S (ticks_left S k) k held
    load_over held = ap (λ (q : ℕ). ticks_load S q k held) whole ∙ ticks_load-add S (ticks_left S k) rest k held ∙ ticks_load-rest S rest _ _ stopped_rests

    pub worked_over : worked S n k ≡ ticks_left S k
    worked_over =
        ap (λ (q : ℕ). worked S q k) whole
        ∙ worked-add S (ticks_left S k) rest k
        ∙ ap (λ (w : ℕ). worked S (ticks_left S k) k + w) (worked-rest S rest _ stopped_rests)
        ∙ add-zero _
        ∙ worked_go (ticks_left S k) (omega arith)

    pub ticks_memory_over : (held m : List ℕ) → ticks_memory S n k held m ≡ steps k.job.kind k.job.start held k.job.done (ticks_left S k) m
    ticks_memory_over held m =
        ap (λ (q : ℕ). ticks_memory S q k held m) whole
        ∙ ticks_memory-add S (ticks_left S k) rest k held m
        ∙ ticks_memory-rest S rest _ _ _ stopped_rests
        ∙ ticks_memory_go held m (ticks_left S k) (omega arith)

    -- suspended, with its load
    pub ticks_pause : k.waiting ≡ true → k.job.done + 1 < total k.job.kind S → ticks_core S n k ≡ suspends (advanced 1 k)
    ticks_pause waits more = core_over ∙ pause_core waits more

    pub ticks_load_pause : (held : List ℕ) → k.waiting ≡ true → k.job.done + 1 < total k.job.kind S → ticks_load S n k held ≡ held
    ticks_load_pause held waits more = load_over held ∙ pause_load waits more held

    -- or ended, without one
    pub ticks_end : ticks_left S k ≡ steps_left S k → ticks_core S n k ≡ ended k
    ticks_end all = core_over ∙ end_core all

    pub ticks_load_end : (held : List ℕ) → ticks_left S k ≡ steps_left S k → ticks_load S n k held ≡ blank_load
    ticks_load_end held all = load_over held ∙ end_load all held

-- ---- the answer to n ticks: none works; fewer than find it running; all of those, and the job is suspended; all of them, and it is ended

pub answer_rests : (S n : ℕ) (k : Core) (held m : List ℕ) → running k ≡ false → TicksAnswer S n k held m k 0 held m
answer_rests S n k held m rests =
    record {
      core = sym (ticks-rest S n k rests);
      working = sym (worked-rest S n k rests);
      load = sym (ticks_load-rest S n k held rests);
      memory = sym (ticks_memory-rest S n k held m rests);
    }

module _ (S n : ℕ) (k : Core) (held m : List ℕ) (runs : running k ≡ true) (left : ℕ) (is-left : left ≡ ticks_left S k) where
  -- memory with that many steps more
  abbrev stepped : ℕ → List ℕ
  stepped d = steps k.job.kind k.job.start held k.job.done d m

  pub answer_goes : n < left → TicksAnswer S n k held m (advanced n k) n held (stepped n)
  answer_goes l =
      record {
        core = sym (ticks_go S k runs n (omega (arith, is-left)));
        working = sym (worked_go S k runs n (omega (arith, is-left)));
        load = sym (ticks_load_go S k runs held n (omega (arith, is-left)));
        memory = sym (ticks_memory_go S k runs held m n (omega (arith, is-left)));
      }

  module _ (enough : left ≤ n) where
    enough_left : ticks_left S k ≤ n
    enough_left = omega (arith, is-left)

    memory_over : stepped left ≡ ticks_memory S n k held m
    memory_over = ap stepped is-left ∙ sym (ticks_memory_over S k runs n enough_left held m)

    pub answer_pauses : left < steps_left S k → TicksAnswer S n k held m (suspends (advanced left k)) left held (stepped left)
    answer_pauses more = go (stop-of S k)
      where
        go : Stop S k → TicksAnswer S n k held m (suspends (advanced left k)) left held (stepped left)
        go (pauses waits after) =
            record {
              core = ap (λ (d : ℕ). suspends (advanced d k)) (is-left ∙ waits_one S k waits) ∙ sym (ticks_pause S k runs n enough_left waits after);
              working = is-left ∙ sym (worked_over S k runs n enough_left);
              load = sym (ticks_load_pause S k runs n enough_left held waits after);
              memory = memory_over;
            }
        go (ends all) = absurd (omega (arith, is-left, all))

    pub answer_ends : steps_left S k ≤ left → TicksAnswer S n k held m (ended k) left blank_load (stepped left)
    answer_ends all_done = go (stop-of S k)
      where
        go : Stop S k → TicksAnswer S n k held m (ended k) left blank_load (stepped left)
        go (pauses waits after) = absurd (omega (arith, is-left, waits_one S k waits))
        go (ends all) =
            record {
              core = sym (ticks_end S k runs n enough_left all);
              working = is-left ∙ sym (worked_over S k runs n enough_left);
              load = sym (ticks_load_end S k runs n enough_left held all);
              memory = memory_over;
            }

-- ---- lengths

pub length-tick : (k : Core) (held m : List ℕ) → length (tick_memory k held m) ≡ length m
unfolding tick_memory
length-tick k held m =
    cond_either (λ (q : List ℕ). length q ≡ length m) (running k) _ _ (λ _. length-steps k.job.kind k.job.start held k.job.done 1 m) (λ _. refl)

pub length-ticks : (S n : ℕ) (k : Core) (held m : List ℕ) → length (ticks_memory S n k held m) ≡ length m
unfolding ticks_memory
length-ticks S zero k held m = refl
length-ticks S (suc n) k held m = length-tick (ticks_core S n k) (ticks_load S n k held) (ticks_memory S n k held m) ∙ length-ticks S n k held m
