-- A model of the part: what it does at one event. A demand is a property of models (`Demand1`, `Demand2`, `Demand3`); `ours` is the model that the engine's
-- contract describes, and `Refuted` has wrong ones.
use Rattle.std.specs.Prelude.{ℕ, ◌+◌, ◌/◌, ◌%◌, ◌≤◌, ◌-◌, min, true, cond, List, [], ◌∷◌, ◌++◌, ◌≡◌, eqb, length}
use Rattle.part.specs.Part.{sectors_in}
use Rattle.chip.specs.declared.Chip.{Chip}
use Rattle.chip.specs.declared.Core.{Core}
use Rattle.chip.specs.Chip.{running}
use Rattle.chip.specs.Job.{total}
use Rattle.chip.specs.Record.{record_bytes}
use Rattle.legal.specs.Legal.{legal}
use Rattle.kinds.specs.Kinds.{known_kind, in_range}
use Rattle.event.specs.Alone.{Answer}
use Rattle.event.specs.Alone.{answer_of, memory_of, said_of}
use Rattle.script.specs.Script.{Event}
use Rattle.script.specs.Run.{World, world}

-- ---- models

-- what a model answers to an event: the chip and the memory that it leaves, the bytes of its record, its working ticks, and the number that refuses it (RULES, Records; Refusals)
pub record Reply : Type 0 where
  pub chip : Chip
  pub memory : List ℕ
  pub says : List ℕ
  pub ticks : ℕ
  pub refusal : ℕ

-- a model answers every event: chip, memory, SFDP area, kind and body are any
abbrev pub Model : Type 0
Model = Chip → List ℕ → List ℕ → ℕ → ℕ → Reply

-- an event that is done
abbrev pub reply : Chip → List ℕ → List ℕ → ℕ → Reply
reply c m says ticks = record { chip = c; memory = m; says = says; ticks = ticks; refusal = 0 }

-- what a caller of `event::event` holds afterwards: the answer, the memory, and the answer's record by its bytes
abbrev pub replied : Answer → List ℕ → List ℕ → Reply
replied a m says = record { chip = a.chip; memory = m; says = says; ticks = a.ticks; refusal = a.refusal }

-- the model that its contract describes
abbrev pub ours : Model
ours c m area kind body = replied (answer_of c m area kind body) (memory_of c m area kind body) (said_of c m area kind body)

-- Whatever meets the contract of `event::event` answers as ours.
pub engine_is_ours : (c : Chip) (m area : List ℕ) (kind body : ℕ) (r : Answer) (m' : List ℕ)
    → (r ≡ answer_of c m area kind body) × (m' ≡ memory_of c m area kind body) × (record_bytes r.said ≡ said_of c m area kind body)
    → replied r m' (record_bytes r.said) ≡ ours c m area kind body
engine_is_ours c m area kind body r m' p = λ i. replied (p.0 i) (p.1 i) (p.2 i)

-- ---- events

-- an event as a bench writes it, and exchanges of these bytes
abbrev pub event : ℕ → ℕ → Event
event kind body = record { offset = 0; kind = kind; body = body; fault = 0 }

abbrev pub sends : List ℕ → List Event
sends [] = []
sends (b ∷ bs) = event 0x02 b ∷ sends bs

-- an address below 2^24 as three bytes, the high one first
abbrev pub address : ℕ → List ℕ
address A = A / 65536 ∷ A / 256 % 256 ∷ A % 256 ∷ []

-- an event that nothing is wrong with: of a known kind, its body in that kind's range
abbrev pub Good : Event → Type 0
Good e = (known_kind e.kind ≡ true) × (in_range e.kind e.body ≡ true)

unfoldable pub AllGood : List Event → Type 0
AllGood [] = Unit {0}
AllGood (e ∷ es) = Good e × AllGood es

-- ---- where a good event is done

-- a legal chip for this memory, and an area that is not too long
pub record Fit (c : Chip) (m area : List ℕ) : Type 0 where
  pub state_legal : legal c (length m) ≡ true
  pub area_short : length area ≤ 256

-- ---- a row of events

-- what a model does at an event of a world, the world after it, and the world after some events
abbrev pub does_by : Model → List ℕ → Event → World → Reply
does_by M area e w = M w.chip w.memory area e.kind e.body

abbrev pub onward_by : Model → List ℕ → Event → World → World
onward_by M area e w =
    let r : Reply = does_by M area e w in
    world r.chip r.memory (w.written ++ r.says) (w.ticks + r.ticks)

unfoldable pub runs_by : Model → List ℕ → List Event → World → World
runs_by M area [] w = w
runs_by M area (e ∷ es) w = runs_by M area es (onward_by M area e w)

-- ---- ticks

-- the ticks of an event
abbrev pub ticks_in : Event → ℕ
ticks_in e = cond (eqb e.kind 0x04) 1 (cond (eqb e.kind 0x05) e.body 0)

-- how many of n ticks find a job running: none of them if none runs; one, if it waits to be suspended; and no more than the job has steps left, on a part of S sectors
-- (RULES, Jobs)
abbrev pub finds : ℕ → Core → ℕ → ℕ
finds S k n = cond (running k) (min n (cond k.waiting 1 (total k.job.kind S - k.job.done))) 0

-- the ticks of an event that find the world's job running
abbrev pub working_ticks : World → Event → ℕ
working_ticks w e = finds (sectors_in (length w.memory)) w.chip.core (ticks_in e)

-- over a row of events: each of them in the world that it finds
unfoldable pub worked_by : Model → List ℕ → List Event → World → ℕ
worked_by M area [] w = 0
worked_by M area (e ∷ es) w = working_ticks w e + worked_by M area es (onward_by M area e w)
