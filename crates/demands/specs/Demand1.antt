-- Demand 1, of any model: whatever comes in gets an answer, and what is wrong is turned away by its number in the table of refusals, with everything as it was
-- (RULES, Refusals). That every event and every script gets an answer, and only one, is in the types: a model and a runner are functions.
use Rattle.std.specs.Prelude.{ℕ, ◌+◌, ◌<◌, ◌≤◌, true, false, cond, List, [], ◌∷◌, ◌++◌, ◌≡◌, ◌↔◌, eqb, length, get_or, drop}
use Rattle.part.specs.Part.{permitted}
use Rattle.chip.specs.declared.Chip.{Chip}
use Rattle.legal.specs.Legal.{legal}
use Rattle.kinds.specs.Kinds.{known_kind, known_in_script, body_length, in_range}
use Rattle.kinds.specs.Body.{body_at}
use Rattle.clock.specs.declared.Clock.{Clock}
use Rattle.clock.specs.Clock.{unset, went_back}
use Rattle.script.specs.Script.{Event, event_at, events, clock_after, clock_over, played}
use Rattle.script.specs.Run.{Ran, World, world}
use Rattle.script.specs.Run as Run
use Rattle.demands.specs.Model.{Model, Fit, runs_by}

-- ---- one event alone

-- Which number refuses an event: 1, 13, 2, 5, 6 or none, each exactly when the table of refusals has it, in that table's order.
pub record RefusedWhen (number : ℕ) (c : Chip) (n extent kind body : ℕ) : Type 0 where
  pub one : (number ≡ 1) ↔ (permitted n ≡ false)
  pub thirteen : (number ≡ 13) ↔ ((permitted n ≡ true) × (256 < extent))
  pub two : (number ≡ 2) ↔ ((permitted n ≡ true) × (extent ≤ 256) × (legal c n ≡ false))
  pub five : (number ≡ 5) ↔ ((permitted n ≡ true) × (extent ≤ 256) × (legal c n ≡ true) × (known_kind kind ≡ false))
  pub six : (number ≡ 6) ↔ ((permitted n ≡ true) × (extent ≤ 256) × (legal c n ≡ true) × (known_kind kind ≡ true) × (in_range kind body ≡ false))
  pub none : (number ≡ 0) ↔ ((permitted n ≡ true) × (extent ≤ 256) × (legal c n ≡ true) × (known_kind kind ≡ true) × (in_range kind body ≡ true))

pub record Demand1 (M : Model) : Type 0 where
  pub numbers : (c : Chip) (m area : List ℕ) (kind body : ℕ) → RefusedWhen (M c m area kind body).refusal c (length m) (length area) kind body
  -- refused, the chip and the memory are as they were, nothing is said and no tick works
  pub refused_keeps : (c : Chip) (m area : List ℕ) (kind body : ℕ) → ((M c m area kind body).refusal ≡ 0 → ⊥)
      → M c m area kind body ≡ record { chip = c; memory = m; says = []; ticks = 0; refusal = (M c m area kind body).refusal }
  -- done, an event leaves a legal chip on a memory as long as before: the next one gets its answer too
  pub stays_legal : (c : Chip) (m area : List ℕ) (kind body : ℕ) → (M c m area kind body).refusal ≡ 0
      → Fit (M c m area kind body).chip (M c m area kind body).memory area × (length (M c m area kind body).memory ≡ length m)

-- ---- a script run

-- what a run answers: the chip, the memory and the output that it leaves, the number and the offset that refuse it, the bytes written and the working ticks
pub record RunReply : Type 0 where
  pub chip : Chip
  pub memory : List ℕ
  pub output : List ℕ
  pub refusal : ℕ
  pub offset : ℕ
  pub written : ℕ
  pub ticks : ℕ

-- a runner answers every script: chip, memory, SFDP area, script and output are any
abbrev pub Runner : Type 0
Runner = Chip → List ℕ → List ℕ → List ℕ → List ℕ → RunReply

-- what a caller of `script::run` holds afterwards: the answer, the memory and the output
abbrev pub ran : Ran → List ℕ → List ℕ → RunReply
ran r m out = record { chip = r.chip; memory = m; output = out; refusal = r.refusal; offset = r.offset; written = r.written; ticks = r.ticks }

-- the runner that its contract describes
abbrev pub our_run : Runner
our_run c m area s out = ran (Run.answer_of c m area s out) (Run.memory_of c m area s out) (Run.output_of c m area s out)

-- Whatever meets the contract of `script::run` answers as ours.
pub runner_is_ours : (c : Chip) (m area s out : List ℕ) (r : Ran) (m' out' : List ℕ)
    → (r ≡ Run.answer_of c m area s out) × (m' ≡ Run.memory_of c m area s out) × (out' ≡ Run.output_of c m area s out) → ran r m' out' ≡ our_run c m area s out
runner_is_ours c m area s out r m' out' p = λ i. ran (p.0 i) (p.1 i) (p.2 i)

-- an event of a script with nothing wrong where the clock stands so: of a kind that a script has, whole, its body in its range, and no stamp that went back
pub record Sound (s : List ℕ) (k : Clock) (e : Event) : Type 0 where
  pub known : known_in_script e.kind ≡ true
  pub whole : e.offset + 1 + body_length e.kind ≤ length s
  pub ranged : in_range e.kind e.body ≡ true
  pub forward : e.kind ≡ 0x09 → went_back k e.body ≡ false

-- each event by the clock that those before it leave
unfoldable pub AllSound : List ℕ → Clock → List Event → Type 0
AllSound s k [] = Unit {0}
AllSound s k (e ∷ es) = Sound s k e × AllSound s (clock_after k e) es

-- the event at this offset is the first that can be bad: those before it are sound; and the clock that they leave
pub record FirstAt (s : List ℕ) (at : ℕ) : Type 0 where
  pub before : List Event
  pub behind : List Event
  pub in_order : events s ≡ before ++ (event_at s at ∷ behind)
  pub before_sound : AllSound s unset before

abbrev pub clock_at : {s : List ℕ} {at : ℕ} → FirstAt s at → Clock
clock_at f = clock_over unset f.before

-- the first event that can be bad is a whole stamp in its range, and went back
pub record BackAt (s : List ℕ) (at : ℕ) : Type 0 where
  pub first : FirstAt s at
  pub stamp : get_or s at 0 ≡ 0x09
  pub whole : at + 3 ≤ length s
  pub ranged : body_at s at ≤ 65535
  pub back : went_back (clock_at first) (body_at s at) ≡ true

-- the room that the records of some events are given: two bytes for each exchange, three for each deselect, whatever its body is and its verdict turns out to be
unfoldable pub room_needed : List Event → ℕ
room_needed [] = 0
room_needed (e ∷ es) = cond (eqb e.kind 0x02) 2 (cond (eqb e.kind 0x03) 3 0) + room_needed es

-- what is looked at before the script's events is in order
pub record Heard (c : Chip) (n extent : ℕ) (s : List ℕ) : Type 0 where
  pub length_permitted : permitted n ≡ true
  pub area_short : extent ≤ 256
  pub state_legal : legal c n ≡ true
  pub script_short : length s ≤ 65536

-- Which number and which offset refuse a run, each exactly when the table of refusals has it, in that table's order; `space` is the output's length.
pub record RunRefusedWhen (number offset : ℕ) (c : Chip) (n extent : ℕ) (s : List ℕ) (space : ℕ) : Type 0 where
  pub one : (number ≡ 1) ↔ (permitted n ≡ false)
  pub thirteen : (number ≡ 13) ↔ ((permitted n ≡ true) × (256 < extent))
  pub two : (number ≡ 2) ↔ ((permitted n ≡ true) × (extent ≤ 256) × (legal c n ≡ false))
  pub three : (number ≡ 3) ↔ ((permitted n ≡ true) × (extent ≤ 256) × (legal c n ≡ true) × (65536 < length s))
  -- the first bad event decides, with its offset: 5 where its kind is unknown, then 4 where the script ends in it, then 6 where its body is out of range, or 8 for a stamp that
  -- went back
  pub five : (at : ℕ) → ((number ≡ 5) × (offset ≡ at)) ↔ (Heard c n extent s × FirstAt s at × (known_in_script (get_or s at 0) ≡ false))
  pub four : (at : ℕ)
      → ((number ≡ 4) × (offset ≡ at)) ↔ (Heard c n extent s × FirstAt s at × (known_in_script (get_or s at 0) ≡ true) × (length s < at + 1 + body_length (get_or s at 0)))
  pub six : (at : ℕ)
      → ((number ≡ 6) × (offset ≡ at))
      ↔ (Heard c n extent s × FirstAt s at × (known_in_script (get_or s at 0) ≡ true) × (at + 1 + body_length (get_or s at 0) ≤ length s) × (in_range (get_or s at 0) (body_at s at) ≡ false))
  pub eight : (at : ℕ) → ((number ≡ 8) × (offset ≡ at)) ↔ (Heard c n extent s × BackAt s at)
  pub seven : (number ≡ 7) ↔ (Heard c n extent s × AllSound s unset (events s) × (space < room_needed (events s)))
  pub none : (number ≡ 0) ↔ (Heard c n extent s × AllSound s unset (events s) × (room_needed (events s) ≤ space))
  -- only 4 to 6 and 8 have an offset
  pub no_offset : (number ≡ 4 → ⊥) → (number ≡ 5 → ⊥) → (number ≡ 6 → ⊥) → (number ≡ 8 → ⊥) → offset ≡ 0

-- a runner over a model
pub record Demand1Run (M : Model) (R : Runner) : Type 0 where
  pub numbers : (c : Chip) (m area s out : List ℕ) → RunRefusedWhen (R c m area s out).refusal (R c m area s out).offset c (length m) (length area) s (length out)
  -- refused, chip, memory and output are as they were, and both numbers are 0
  pub refused_keeps : (c : Chip) (m area s out : List ℕ) → ((R c m area s out).refusal ≡ 0 → ⊥)
      → R c m area s out ≡ record { chip = c; memory = m; output = out; refusal = (R c m area s out).refusal; offset = (R c m area s out).offset; written = 0; ticks = 0 }
  -- done, the events have been applied one after the other, each stamp as the ticks that it gives; output beyond the written bytes keeps its content
  pub done_runs : (c : Chip) (m area s out : List ℕ) → (R c m area s out).refusal ≡ 0
      → let w : World = runs_by M area (played s) (world c m [] 0) in
      R c m area s out
      ≡ record { chip = w.chip; memory = w.memory; output = w.written ++ drop (length w.written) out; refusal = 0; offset = 0; written = length w.written; ticks = w.ticks }
