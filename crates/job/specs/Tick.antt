-- A tick, n ticks, and the working ticks among them (RULES, Jobs).
use Rattle.std.specs.Prelude.{ℕ, zero, suc, ◌+◌, max, ◌-◌, true, false, cond, List, ◌≡◌, ltb}
use Rattle.chip.specs.declared.Core.{Core}
use Rattle.chip.specs.declared.JobKind.{JobKind}
use Rattle.chip.specs.declared.JobKind.TheVariants.{Idle, WriteStatus, Program, SmallErase, SectorErase, ChipErase}
use Rattle.chip.specs.Fields.{with_wen, with_suspended, with_waiting, with_job, with_done}
use Rattle.chip.specs.Job.{steps, total, no_job}
use Rattle.chip.specs.Chip.{with_bits, blank_load, running}

-- ---- what a step leaves of the core

-- the core with that many steps of its job done; and with d more of them
abbrev pub at_step : ℕ → Core → Core
at_step d k = with_job (with_done d k.job) k

abbrev pub advanced : ℕ → Core → Core
advanced d k = at_step (k.job.done + d) k

-- the job suspended: SUS is set, and it waits no longer
abbrev pub suspends : Core → Core
suspends k = with_suspended true (with_waiting false k)

-- one step further; a job that waited is suspended after this step
abbrev pub moved_on : Core → Core
moved_on k = cond k.waiting (suspends (advanced 1 k)) (advanced 1 k)

-- the job gone, and WEN and the waiting mark with it
abbrev pub gone : Core → Core
gone k = with_wen false (with_waiting false (with_job no_job k))

-- after the last step the job is gone; that of a write status has set its bits
abbrev pub ended_as : JobKind → Core → Core
ended_as (WriteStatus value) k = with_bits value (gone k)
ended_as Idle k = gone k
ended_as Program k = gone k
ended_as SmallErase k = gone k
ended_as SectorErase k = gone k
ended_as ChipErase k = gone k

abbrev pub ended : Core → Core
ended k = ended_as k.job.kind k

-- ---- one tick: a working one finds a job running and does its next step, on a part of S sectors

unfoldable pub tick_core : ℕ → Core → Core
tick_core S k = cond (running k) (cond (ltb (k.job.done + 1) (total k.job.kind S)) (moved_on k) (ended k)) k

-- the job's load stays as long as the job does
unfoldable pub tick_load : ℕ → Core → List ℕ → List ℕ
tick_load S k held = cond (running k) (cond (ltb (k.job.done + 1) (total k.job.kind S)) held blank_load) held

-- the cells of that step
unfoldable pub tick_memory : Core → List ℕ → List ℕ → List ℕ
tick_memory k held m = cond (running k) (steps k.job.kind k.job.start held k.job.done 1 m) m

-- ---- n ticks one after the other: the core, the job's load, the memory, and how many of them worked

unfoldable pub ticks_core : ℕ → ℕ → Core → Core
ticks_core S zero k = k
ticks_core S (suc n) k = tick_core S (ticks_core S n k)

unfoldable pub ticks_load : ℕ → ℕ → Core → List ℕ → List ℕ
ticks_load S zero k held = held
ticks_load S (suc n) k held = tick_load S (ticks_core S n k) (ticks_load S n k held)

unfoldable pub ticks_memory : ℕ → ℕ → Core → List ℕ → List ℕ → List ℕ
ticks_memory S zero k held m = m
ticks_memory S (suc n) k held m = tick_memory (ticks_core S n k) (ticks_load S n k held) (ticks_memory S n k held m)

unfoldable pub worked : ℕ → ℕ → Core → ℕ
worked S zero k = 0
worked S (suc n) k = worked S n k + cond (running (ticks_core S n k)) 1 0

-- how many steps a job that runs has left, and at least one
abbrev pub steps_left : ℕ → Core → ℕ
steps_left S k = max (total k.job.kind S - k.job.done) 1

-- how many ticks find it running: one if it waits to be suspended, otherwise one for each step left
abbrev pub ticks_left : ℕ → Core → ℕ
ticks_left S k = cond k.waiting 1 (steps_left S k)

-- n ticks together: what they leave, and how many of them worked
pub record TicksAnswer (S n : ℕ) (k : Core) (held m : List ℕ) (k' : Core) (w : ℕ) (held' m' : List ℕ) : Type 0 where
  pub core : k' ≡ ticks_core S n k
  pub working : w ≡ worked S n k
  pub load : held' ≡ ticks_load S n k held
  pub memory : m' ≡ ticks_memory S n k held m
