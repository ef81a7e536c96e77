-- Scripts in numbers, of the definitions themselves: the kinds, their bodies and ranges, and how the events follow one another. The demands use these words
-- (`Demand1`); here a wrong definition of one is noticed (RULES, Events).
use Rattle.std.specs.Prelude.{ℕ, ◌+◌, ◌*◌, ◌%◌, ◌<◌, ◌≤◌, true, false, List, [], ◌∷◌, ◌≡◌, ◌↔◌, length, get_or, None, Some}
use Rattle.kinds.specs.Kinds.{known_kind, known_in_script, body_length, in_range}
use Rattle.kinds.specs.Body.{body_at}
use Rattle.clock.specs.declared.Clock.{Clock}
use Rattle.clock.specs.Clock.{unset, shows, went_back}
use Rattle.script.specs.Script.{Event, event_at, events_from, events, clock_after, clock_over, timed}
use Rattle.demands.specs.Demand2.{among}

-- ---- the kinds

-- Which numbers are kinds, how many bytes the body of each has, and which bodies are in its range (RULES, Events).
pub record KindsInNumbers : Type 0 where
  -- seven kinds of events, 01h to 07h; a script has 09h too
  pub known : (kind : ℕ) → known_kind kind ≡ among (1 ∷ 2 ∷ 3 ∷ 4 ∷ 5 ∷ 6 ∷ 7 ∷ []) kind
  pub known_in_script_lem : (kind : ℕ) → known_in_script kind ≡ among (1 ∷ 2 ∷ 3 ∷ 4 ∷ 5 ∷ 6 ∷ 7 ∷ 9 ∷ []) kind
  -- the bytes of their bodies
  pub length_01 : body_length 0x01 ≡ 0
  pub length_02 : body_length 0x02 ≡ 1
  pub length_03 : body_length 0x03 ≡ 1
  pub length_04 : body_length 0x04 ≡ 0
  pub length_05 : body_length 0x05 ≡ 2
  pub length_06 : body_length 0x06 ≡ 1
  pub length_07 : body_length 0x07 ≡ 0
  pub length_09 : body_length 0x09 ≡ 2
  -- an exchange has any byte, a deselect 0 to 7 bits, ticks 1 to 65,535, WP low or high, a stamp any two bytes
  pub range_02 : (body : ℕ) → (in_range 0x02 body ≡ true) ↔ (body ≤ 255)
  pub range_03 : (body : ℕ) → (in_range 0x03 body ≡ true) ↔ (body ≤ 7)
  pub range_05 : (body : ℕ) → (in_range 0x05 body ≡ true) ↔ ((1 ≤ body) × (body ≤ 65535))
  pub range_06 : (body : ℕ) → (in_range 0x06 body ≡ true) ↔ (body ≤ 1)
  pub range_09 : (body : ℕ) → (in_range 0x09 body ≡ true) ↔ (body ≤ 65535)
  -- a kind without a body takes any number
  pub any_01 : (body : ℕ) → in_range 0x01 body ≡ true
  pub any_04 : (body : ℕ) → in_range 0x04 body ≡ true
  pub any_07 : (body : ℕ) → in_range 0x07 body ≡ true

-- ---- the events of a script

-- Which bytes of a script are an event, and which event comes after it (RULES, Events).
pub record EventsInNumbers : Type 0 where
  -- a body of no byte counts 0, one of one byte is that byte, and one of two has the high byte first
  pub body_none : (s : List ℕ) (at : ℕ) → body_length (get_or s at 0) ≡ 0 → body_at s at ≡ 0
  pub body_one : (s : List ℕ) (at : ℕ) → body_length (get_or s at 0) ≡ 1 → body_at s at ≡ get_or s (at + 1) 0
  pub body_two : (s : List ℕ) (at : ℕ) → body_length (get_or s at 0) ≡ 2 → body_at s at ≡ get_or s (at + 1) 0 * 256 + get_or s (at + 2) 0
  -- the event at an offset has that offset, the byte there as its kind, and the body behind it
  pub its_offset : (s : List ℕ) (at : ℕ) → (event_at s at).offset ≡ at
  pub its_kind : (s : List ℕ) (at : ℕ) → (event_at s at).kind ≡ get_or s at 0
  pub its_body : (s : List ℕ) (at : ℕ) → (event_at s at).body ≡ body_at s at
  -- the first event is at offset 0, the next one behind its body, and at the script's end there is none
  pub first : (s : List ℕ) → events s ≡ events_from s 0
  pub next : (s : List ℕ) (at : ℕ) → at < length s → events_from s at ≡ event_at s at ∷ events_from s (at + 1 + body_length (get_or s at 0))
  pub none : (s : List ℕ) (at : ℕ) → length s ≤ at → events_from s at ≡ []

-- ---- stamps

-- What a stamp does to the clock, which stamps went back, and what a run applies for them (RULES, Stamps).
pub record StampsInNumbers : Type 0 where
  -- a run starts with no stamp; then the clock shows the last one, and no other event touches it, a power cut neither
  pub unset_is : unset ≡ record { last = None }
  pub shows_is : (stamp : ℕ) → shows stamp ≡ record { last = Some stamp }
  pub stamp_sets : (k : Clock) (e : Event) → e.kind ≡ 0x09 → clock_after k e ≡ shows e.body
  pub others_leave : (k : Clock) (e : Event) → (e.kind ≡ 0x09 → ⊥) → clock_after k e ≡ k
  pub over_none : (k : Clock) → clock_over k [] ≡ k
  pub over_more : (k : Clock) (e : Event) (es : List Event) → clock_over k (e ∷ es) ≡ clock_over (clock_after k e) es
  -- the first stamp did not go back; a later one, n ticks after the last with the roll-over, did so from 32,768 on
  pub first_good : (body : ℕ) → went_back unset body ≡ false
  pub later_good : (last n : ℕ) → last ≤ 65535 → n ≤ 32767 → went_back (shows last) ((last + n) % 65536) ≡ false
  pub later_back : (last n : ℕ) → last ≤ 65535 → 32768 ≤ n → n ≤ 65535 → went_back (shows last) ((last + n) % 65536) ≡ true
  -- the first stamp gives no tick, an equal one neither; a later one gives those n, as 05h would
  pub first_gives : (e : Event) (es : List Event) → e.kind ≡ 0x09 → timed unset (e ∷ es) ≡ timed (shows e.body) es
  pub equal_gives : (last : ℕ) (e : Event) (es : List Event) → last ≤ 65535 → e.kind ≡ 0x09 → e.body ≡ last → timed (shows last) (e ∷ es) ≡ timed (shows last) es
  pub later_gives : (last n : ℕ) (e : Event) (es : List Event) → last ≤ 65535 → 1 ≤ n → n ≤ 65535 → e.kind ≡ 0x09 → e.body ≡ (last + n) % 65536
      → timed (shows last) (e ∷ es) ≡ record { offset = e.offset; kind = 0x05; body = n; fault = 0 } ∷ timed (shows e.body) es
  -- every other event is applied as it is
  pub others_same : (k : Clock) (e : Event) (es : List Event) → (e.kind ≡ 0x09 → ⊥) → timed k (e ∷ es) ≡ e ∷ timed k es
  pub none : (k : Clock) → timed k [] ≡ []
