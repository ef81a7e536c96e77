-- A script: its events with their offsets, the first bad one and why, the room that its records need, and what its stamps stand for (RULES, Events; Stamps; Refusals).
use Rattle.std.specs.Prelude.{Option, Some, None, ℕ, zero, suc, ◌+◌, ◌≤◌, ◌≡◌, Bool, true, cond, not, ◌&&◌, List, [], ◌∷◌, ◌++◌, eqb, ltb, leb, length, get_or}
use Rattle.refusal.specs.declared.Refusal.{Refusal as Fault}
use Rattle.refusal.specs.Table.{number_of}
use Rattle.kinds.specs.Kinds.{TICKS, STAMP, known_in_script, in_range, room_of}
use Rattle.kinds.specs.Body.{body_at, next_at}
use Rattle.clock.specs.declared.Clock.{Clock}
use Rattle.clock.specs.Clock.{unset, shows, moved_on, went_back}

-- ---- the events as they are written

-- an event of a script: the offset of its kind byte, its kind, its body, and its fault, which is 0 or what refuses it
pub record Event : Type 0 where
  pub offset : ℕ
  pub kind : ℕ
  pub body : ℕ
  pub fault : ℕ

-- what is wrong with the event at an offset as it is written: 5 no such kind, 4 the script ends in it, 6 its body is out of range
unfoldable pub fault_at : List ℕ → ℕ → ℕ
fault_at s at =
    cond (not (known_in_script (get_or s at 0))) 5
    (cond (ltb (length s) (next_at s at)) 4
    (cond (not (in_range (get_or s at 0) (body_at s at))) 6 0))

-- what no fault as it is written says: a kind that a script has, all of the body, and in its range
pub record Good (s : List ℕ) (at : ℕ) : Type 0 where
  pub known : known_in_script (get_or s at 0) ≡ true
  pub inside : next_at s at ≤ length s
  pub ranged : in_range (get_or s at 0) (body_at s at) ≡ true

-- the event at an offset, with what is wrong with it
abbrev pub event_at : List ℕ → ℕ → Event
event_at s at = record { offset = at; kind = get_or s at 0; body = body_at s at; fault = fault_at s at }

-- the events from an offset on, as many as the fuel allows
unfoldable pub walk : ℕ → List ℕ → ℕ → List Event
walk zero s at = []
walk (suc fuel) s at = cond (leb (length s) at) [] (event_at s at ∷ walk fuel s (next_at s at))

-- the events from an offset on: a script has no more events than bytes
unfoldable pub events_from : List ℕ → ℕ → List Event
events_from s at = walk (length s) s at

-- all of them
abbrev pub events : List ℕ → List Event
events s = events_from s 0

-- ---- the clock

-- a stamp sets the clock, no other event touches it
abbrev pub is_stamp : Event → Bool
is_stamp e = eqb e.kind STAMP

abbrev pub clock_after : Clock → Event → Clock
clock_after k e = cond (is_stamp e) (shows e.body) k

-- the clock after some events
unfoldable pub clock_over : Clock → List Event → Clock
clock_over k [] = k
clock_over k (e ∷ es) = clock_over (clock_after k e) es

-- an event of n ticks at an event's offset; no event where there are none
abbrev pub ticks_given : Event → ℕ → List Event
ticks_given e zero = []
ticks_given e (suc n) = record { offset = e.offset; kind = TICKS; body = suc n; fault = 0 } ∷ []

-- what a run applies for an event: for a stamp the ticks that it gives, for any other the event itself
abbrev pub given : Clock → Event → List Event
given k e = cond (is_stamp e) (ticks_given e (moved_on k e.body)) (e ∷ [])

-- the events that a run applies, from a clock on: each stamp replaced by its ticks
unfoldable pub timed : Clock → List Event → List Event
timed k [] = []
timed k (e ∷ es) = given k e ++ timed (clock_after k e) es

-- those of a whole script: the clock belongs to the run, which starts without one
abbrev pub played : List ℕ → List Event
played s = timed unset (events s)

-- ---- refusals

-- a refusal's number, 0 for none, and its offset
pub record Refusal : Type 0 where
  pub number : ℕ
  pub offset : ℕ

abbrev pub refusal_of : ℕ → ℕ → Refusal
refusal_of number offset = record { number = number; offset = offset }

-- what refuses an event where the clock stands so: what is wrong with it as it is written, or 8 for a stamp that went back
abbrev pub fault_by : Clock → Event → ℕ
fault_by k e = cond (eqb e.fault 0) (cond (is_stamp e && went_back k e.body) 8 0) e.fault

-- a fault's number, 0 for none
abbrev pub fault_number : Option Fault → ℕ
fault_number None = 0
fault_number (Some why) = number_of why

-- the first event with a fault refuses the script, with its number and offset
unfoldable pub first_bad : Clock → List Event → Refusal
first_bad k [] = refusal_of 0 0
first_bad k (e ∷ es) = cond (eqb (fault_by k e) 0) (first_bad (clock_after k e) es) (refusal_of (fault_by k e) e.offset)

-- the room that the records of some events are given
unfoldable pub room : List Event → ℕ
room [] = 0
room (e ∷ es) = room_of e.kind + room es
