-- One event alone: its answer for every kind, body, state, area and memory length (RULES, Events; Refusals).
use Rattle.std.specs.Prelude.{ℕ, cond, not, List, [], eqb, ltb, length, Result, Ok, Err}
use Rattle.refusal.specs.declared.Refusal.{Refusal}
use Rattle.refusal.specs.Table.{number_of}
use Rattle.part.specs.Part.{permitted, setting_of}
use Rattle.part.specs.Area.{longest_area}
use Rattle.kinds.specs.Kinds.{known_kind, body_length, in_range}
use Rattle.chip.specs.declared.Chip.{Chip}
use Rattle.chip.specs.declared.Record.{Record}
use Rattle.chip.specs.declared.Record.TheVariants.{Nothing}
use Rattle.chip.specs.Record.{record_bytes}
use Rattle.legal.specs.Legal.{legal}
use Rattle.event.specs.declared.Done.{Done}
use Rattle.event.specs.Event.{Outcome, applied}

-- a kind without a body does not look at what is given for one
unfoldable pub body_used : ℕ → ℕ → ℕ
body_used kind body = cond (eqb (body_length kind) 0) 0 body

-- the number that refuses an event, 0 for none; n is the memory's length, extent the area's
unfoldable pub refusal : Chip → ℕ → ℕ → ℕ → ℕ → ℕ
refusal c n extent kind body =
    cond (not (permitted n)) 1
    (cond (ltb longest_area extent) 13
    (cond (not (legal c n)) 2
    (cond (not (known_kind kind)) 5
    (cond (not (in_range kind body)) 6 0))))

-- an answer: the chip, what the event said, the number that refused it, 0 for none, and its working ticks
pub record Answer : Type 0 where
  pub chip : Chip
  pub said : Record
  pub refusal : ℕ
  pub ticks : ℕ

-- refused, the chip comes back as it was given, with no record and no ticks
abbrev pub refused : Chip → ℕ → Answer
refused c number = record { chip = c; said = Nothing; refusal = number; ticks = 0 }

-- done, the new chip comes with the record and the working ticks
abbrev pub done : Outcome → Answer
done o = record { chip = o.chip; said = o.said; refusal = 0; ticks = o.ticks }

-- the answer that a result tells, whose chip was lent: an event that is done has no number, and one that is refused leaves all as it was
abbrev pub answered : Chip → Result Done Refusal → Answer
answered c (Ok d) = record { chip = d.chip; said = d.said; refusal = 0; ticks = d.ticks }
answered c (Err why) = refused c (number_of why)

-- what the event does, if it is done
unfoldable pub happens : Chip → List ℕ → List ℕ → ℕ → ℕ → Outcome
happens c m area kind body = applied (setting_of (length m) area) c m kind (body_used kind body)

-- the whole answer, and the memory afterwards
unfoldable pub answer_of : Chip → List ℕ → List ℕ → ℕ → ℕ → Answer
answer_of c m area kind body =
    cond (eqb (refusal c (length m) (length area) kind body) 0) (done (happens c m area kind body))
    (refused c (refusal c (length m) (length area) kind body))

unfoldable pub memory_of : Chip → List ℕ → List ℕ → ℕ → ℕ → List ℕ
memory_of c m area kind body = cond (eqb (refusal c (length m) (length area) kind body) 0) (happens c m area kind body).memory m

-- the bytes of its record, none if it is refused (RULES, Records)
unfoldable pub said_of : Chip → List ℕ → List ℕ → ℕ → ℕ → List ℕ
said_of c m area kind body = cond (eqb (refusal c (length m) (length area) kind body) 0) (record_bytes (happens c m area kind body).said) []
