-- The jobs that a run begins and ends, with the ticks that each used: read off its events one by one, tick by tick (RULES, The margin report).
use Rattle.std.specs.Prelude.{ℕ, ◌+◌, Bool, true, false, cond, not, ◌&&◌, List, [], ◌∷◌, ◌++◌, eqb, replicate}
use Rattle.part.specs.Part.{Setting}
use Rattle.kinds.specs.Kinds.{TICK, TICKS}
use Rattle.chip.specs.declared.Chip.{Chip}
use Rattle.chip.specs.declared.Core.{Core}
use Rattle.chip.specs.declared.JobKind.{JobKind}
use Rattle.chip.specs.declared.Record.{Record}
use Rattle.chip.specs.declared.Record.TheVariants.{Nothing, Floating, Driven, Verdict, InTheWay}
use Rattle.chip.specs.Job.{is_job}
use Rattle.chip.specs.Chip.{running}
use Rattle.event.specs.Event.{Outcome, applied}
use Rattle.script.specs.Script.{Event, played}

-- ---- tick by tick

-- one tick, at an event's offset
abbrev pub one_tick : ℕ → Event
one_tick offset = record { offset = offset; kind = TICK; body = 0; fault = 0 }

-- n ticks are n events of one tick
abbrev pub singly : Event → List Event
singly e = cond (eqb e.kind TICKS) (replicate e.body (one_tick e.offset)) (e ∷ [])

unfoldable pub tick_by_tick : List Event → List Event
tick_by_tick [] = []
tick_by_tick (e ∷ es) = singly e ++ tick_by_tick es

-- ---- a job that is followed

-- a job that began and did its last step in the run: its kind, the offsets of the deselect that began it and of the event whose tick ended it, and its ticks: all
-- that came after the one up to and with the other, those of them that found it running, and those that found it suspended
pub record Finished : Type 0 where
  pub kind : JobKind
  pub begin : ℕ
  pub end : ℕ
  pub used : ℕ
  pub working : ℕ
  pub suspended : ℕ

-- what is followed: no job, or one that began in this run, with its ticks so far
pub data Followed : Type 0 where
  nothing : Followed
  follows : (begin used working suspended : ℕ) → Followed

-- whether there is one
abbrev pub is_on : Followed → Bool
is_on nothing = false
is_on (follows begin used working suspended) = true

-- one tick more, which finds this core
abbrev pub tick_more : Core → Followed → Followed
tick_more k nothing = nothing
tick_more k (follows begin used working suspended) = follows begin (used + 1) (working + cond (running k) 1 0) (suspended + cond k.suspended 1 0)

-- whether a job begins: the verdict is 2
abbrev pub is_two : Record → Bool
is_two Nothing = false
is_two Floating = false
is_two (Driven b) = false
is_two (Verdict v) = eqb v 2
is_two (InTheWay first last) = false

-- whether a job stands, running or suspended
abbrev pub stands : Core → Bool
stands k = is_job k.job.kind

-- what is followed after an event that found this core: nothing where no job stands, a job that begins from its own begin on, and otherwise the same job, with a tick more
abbrev pub followed_after : Event → Core → Outcome → Followed → Followed
followed_after e k o f =
    cond (not (stands o.chip.core)) nothing
    (cond (is_two o.said) (follows e.offset 0 0 0)
    (cond (eqb e.kind TICK) (tick_more k f) f))

-- ---- the list

-- a job that is followed, ended by a tick at an offset
abbrev pub finished : ℕ → JobKind → Followed → List Finished
finished end kind nothing = []
finished end kind (follows begin used working suspended) = record { kind = kind; begin = begin; end = end; used = used; working = working; suspended = suspended } ∷ []

-- the job that an event ends: a tick after which the job stands no more has done its last step
abbrev pub ended_by : Event → Core → Outcome → Followed → List Finished
ended_by e k o f = cond (eqb e.kind TICK && not (stands o.chip.core)) (finished e.offset k.job.kind (tick_more k f)) []

-- the jobs that some events end, from a chip and a memory on
unfoldable pub jobs : Setting → Followed → List Event → Chip → List ℕ → List Finished
jobs T f [] c m = []
jobs T f (e ∷ es) c m =
    let o : Outcome = applied T c m e.kind e.body in
    ended_by e c.core o f ++ jobs T (followed_after e c.core o f) es o.chip o.memory

-- those of a script: a job that stood in the state at the start is not followed
abbrev pub jobs_of : Setting → List ℕ → Chip → List ℕ → List Finished
jobs_of T s c m = jobs T nothing (tick_by_tick (played s)) c m
