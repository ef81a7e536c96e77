-- A run: the events of a script one after the other, and the whole answer with its refusals (RULES, Events; Refusals).
use Rattle.std.specs.Prelude.{Result, Ok, Err, ℕ, ◌+◌, ◌≤◌, cond, not, List, [], ◌∷◌, ◌++◌, ◌≡◌, eqb, ltb, length, take, drop}
use Rattle.part.specs.Part.{permitted, Setting, setting_of}
use Rattle.part.specs.Area.{longest_area}
use Rattle.chip.specs.declared.Chip.{Chip}
use Rattle.chip.specs.declared.Record.{Record}
use Rattle.chip.specs.Record.{record_bytes}
use Rattle.legal.specs.Legal.{legal}
use Rattle.event.specs.Event.{Outcome, applied}
use Rattle.refusal.specs.Table.{number_of}
use Rattle.script.specs.declared.Done.{Done}
use Rattle.script.specs.declared.Refused.{Refused}
use Rattle.clock.specs.Clock.{unset}
use Rattle.script.specs.Script.{Event, Refusal, refusal_of, events, played, first_bad, room}

-- what a run has come to: the chip, the memory, the bytes written and the working ticks so far
pub record World : Type 0 where
  pub chip : Chip
  pub memory : List ℕ
  pub written : List ℕ
  pub ticks : ℕ

abbrev pub world : Chip → List ℕ → List ℕ → ℕ → World
world c m written ticks = record { chip = c; memory = m; written = written; ticks = ticks }

-- what an event does in a world, and the world after it
abbrev pub does : Setting → Event → World → Outcome
does T e w = applied T w.chip w.memory e.kind e.body

abbrev pub after : World → Outcome → World
after w o = world o.chip o.memory (w.written ++ record_bytes o.said) (w.ticks + o.ticks)

abbrev pub onward : Setting → Event → World → World
onward T e w = after w (does T e w)

-- the events one after the other
unfoldable pub runs : Setting → List Event → World → World
runs T [] w = w
runs T (e ∷ es) w = runs T es (onward T e w)

-- what a look through a script finds where no event is bad: the room for the records
pub record Sound (s : List ℕ) (space : ℕ) : Type 0 where
  pub clean : first_bad unset (events s) ≡ refusal_of 0 0
  pub rooms : space ≡ room (events s)

-- a record stored in the output at a place: the bytes before the next place, and what stands from there on
pub record Stored (o : List ℕ) (p : ℕ) (said : Record) (p' : ℕ) (o' : List ℕ) : Type 0 where
  pub end : p' ≡ p + length (record_bytes said)
  pub before : take p' o' ≡ take p o ++ record_bytes said
  pub beyond : drop p' o' ≡ drop p' o

-- what refuses a run: the length, the area, the state, the script's length, its first bad event by a clock that is not set yet, the room; n is the memory's length, extent the area's, space the output's
unfoldable pub refusal : Chip → ℕ → ℕ → List ℕ → ℕ → Refusal
refusal c n extent s space =
    cond (not (permitted n)) (refusal_of 1 0)
    (cond (ltb longest_area extent) (refusal_of 13 0)
    (cond (not (legal c n)) (refusal_of 2 0)
    (cond (ltb 65536 (length s)) (refusal_of 3 0)
    (cond (not (eqb (first_bad unset (events s)).number 0)) (first_bad unset (events s))
    (cond (ltb space (room (events s))) (refusal_of 7 0) (refusal_of 0 0))))))

-- the world after a script run to its end, from a chip and a memory, with an area
unfoldable pub world_after : Chip → List ℕ → List ℕ → List ℕ → World
world_after c m area s = runs (setting_of (length m) area) (played s) (world c m [] 0)

-- the answer to a run: the chip, the refusal's number, 0 for none, and its offset, and the numbers of bytes written and of working ticks
pub record Ran : Type 0 where
  pub chip : Chip
  pub refusal : ℕ
  pub offset : ℕ
  pub written : ℕ
  pub ticks : ℕ

-- refused, the chip comes back as it was given, nothing is written and no tick works
abbrev pub refused : Chip → Refusal → Ran
refused c r = record { chip = c; refusal = r.number; offset = r.offset; written = 0; ticks = 0 }

-- done, the new chip comes with the number of bytes written and of working ticks
abbrev pub finished : Chip → ℕ → ℕ → Ran
finished c written ticks = record { chip = c; refusal = 0; offset = 0; written = written; ticks = ticks }

-- what refuses a run, by its number
abbrev pub told : Refused → Refusal
told e = refusal_of (number_of e.refusal) e.offset

-- what a run on a chip gives back, as such an answer
abbrev pub ran_as : Chip → Result Done Refused → Ran
ran_as c (Ok d) = finished d.chip d.written d.ticks
ran_as c (Err e) = refused c (told e)

abbrev pub done : World → Ran
done w = finished w.chip (length w.written) w.ticks

-- the whole answer, and the memory and the output afterwards, of which only the bytes written are new
unfoldable pub answer_of : Chip → List ℕ → List ℕ → List ℕ → List ℕ → Ran
answer_of c m area s out =
    cond (eqb (refusal c (length m) (length area) s (length out)).number 0) (done (world_after c m area s))
    (refused c (refusal c (length m) (length area) s (length out)))

unfoldable pub memory_of : Chip → List ℕ → List ℕ → List ℕ → List ℕ → List ℕ
memory_of c m area s out = cond (eqb (refusal c (length m) (length area) s (length out)).number 0) (world_after c m area s).memory m

unfoldable pub output_of : Chip → List ℕ → List ℕ → List ℕ → List ℕ → List ℕ
output_of c m area s out =
    cond (eqb (refusal c (length m) (length area) s (length out)).number 0)
    ((world_after c m area s).written ++ drop (length (world_after c m area s).written) out) out

-- a script that nothing refuses, for an output of that length
pub record Playable (s : List ℕ) (space : ℕ) : Type 0 where
  pub short : length s ≤ 65536
  pub clean : (first_bad unset (events s)).number ≡ 0
  pub roomy : room (events s) ≤ space

-- what playing it leaves
pub record Played (T : Setting) (c : Chip) (m s out : List ℕ) (r : Ran) (m' out' : List ℕ) : Type 0 where
  pub answer : r ≡ done (runs T (played s) (world c m [] 0))
  pub memory : m' ≡ (runs T (played s) (world c m [] 0)).memory
  pub output : out' ≡ (runs T (played s) (world c m [] 0)).written ++ drop (length (runs T (played s) (world c m [] 0)).written) out
