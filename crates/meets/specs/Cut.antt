-- A script cut at an event boundary: what the whole does, its first bad event and the room that it needs, by those of its two pieces. The second piece goes on with
-- the clock that the first leaves; run on its own it starts without one, which is the same unless there are stamps on both sides of the cut. The whole can still be
-- refused where the pieces are not: by 3, for it is longer than either, by 7, for one output has to have the room of both, and by 8, for a stamp that went back over the cut.
use Rattle.std.specs.Prelude.{ℕ, zero, suc, ◌+◌, ◌*◌, ◌<◌, ◌≤◌, Bool, ◌&&◌, ◌⊎◌, eqb, ltb, get_or}
use Rattle.std.proofs.Math.Bool.{true, false, cond, not}
use mathlib.Core.List.{List, [], ◌∷◌, ◌++◌, append_assoc, append-nil}
use Rattle.std.proofs.Math.Path.{◌≡◌, refl, sym, ap, subst}
use Rattle.std.proofs.Common.{◌∙◌, inl, inr, add-zero, zero-add, add_assoc, arith, get_or-append-add, ne_eqb, lt-ltb, le-ltb}
use Rattle.std.proofs.Math.Decide.{dec_lt, ℕ_discrete}
use Rattle.std.proofs.Math.ListN.{length, length-append, get_or-append}
use Rattle.cells.specs.Choice.{cond_yes, cond_no}
use Rattle.part.specs.Part.{permitted, sectors_in, Setting, setting_of}
use Rattle.kinds.specs.Kinds.{kind_row, kind_row_in, known_in_script, body_length, in_range, room_of}
use Rattle.kinds.specs.Body.{number_at, body_at, next_at}
use Rattle.clock.specs.declared.Clock.{Clock}
use Rattle.clock.specs.Clock.{unset, moved_on, went_back}
use Rattle.chip.specs.declared.Chip.{Chip}
use Rattle.chip.specs.Chip.{NoLeftovers}
use Rattle.chip.specs.Record.{record_bytes}
use Rattle.legal.specs.Legal.{legal}
use Rattle.event.specs.Event.{Outcome, applied}
use Rattle.event.specs.Alone.{body_used}
use Rattle.event.specs.Alone as Alone
use Rattle.event.proofs.Laws.{answer_done, memory_done, happens-as}
use Rattle.event.proofs.Legality.{legal-applied}
use Rattle.event.proofs.Keeps.{length-applied}
use Rattle.event.proofs.Leftovers.{no_leftovers_applied}
use Rattle.script.specs.Script.{Event, fault_at, event_at, walk, events_from, events, is_stamp, clock_after, clock_over, ticks_given, given, timed, played, Refusal, refusal_of, fault_by, first_bad, room}
use Rattle.script.specs.Run.{World, world, does, onward, runs, world_after}
use Rattle.script.proofs.Laws.{events-none, events-more, no_fault, clean-later, clean-event, good_event, first_bad-none, first_bad-here, first_bad-later, NoStamp, timed-unstamped, clock_unstamped, timed-add, runs-add}
use Rattle.meets.specs.Refusals.{known_event, event-refused_when, bad_behind}

-- ---- events further on

-- an event d bytes further on
abbrev pub moved : ℕ → Event → Event
moved d e = record { offset = d + e.offset; kind = e.kind; body = e.body; fault = e.fault }

unfoldable pub moved_all : ℕ → List Event → List Event
moved_all d [] = []
moved_all d (e ∷ es) = moved d e ∷ moved_all d es

-- moved events run the same, need the same room, move the clock the same, and the first bad one is the same, d further on
pub runs_moved : (T : Setting) (d : ℕ) (es : List Event) (w : World) → runs T (moved_all d es) w ≡ runs T es w
unfolding runs moved_all
runs_moved T d [] w = refl
runs_moved T d (e ∷ es) w = runs_moved T d es (onward T e w)

pub room_moved : (d : ℕ) (es : List Event) → room (moved_all d es) ≡ room es
unfolding room moved_all
room_moved d [] = refl
room_moved d (e ∷ es) = ap (λ (n : ℕ). room_of e.kind + n) (room_moved d es)

pub room-append : (es fs : List Event) → room (es ++ fs) ≡ room es + room fs
unfolding room
room-append [] fs = sym (zero-add (room fs))
room-append (e ∷ es) fs = ap (λ (n : ℕ). room_of e.kind + n) (room-append es fs) ∙ sym (add_assoc _ (room es) (room fs))

-- a refusal by an event d bytes further on; none stays none
abbrev pub moved_bad : ℕ → Refusal → Refusal
moved_bad d r = cond (eqb r.number 0) (refusal_of 0 0) (refusal_of r.number (d + r.offset))

bad_moved : (k : Clock) (d : ℕ) (es : List Event) → first_bad k (moved_all d es) ≡ moved_bad d (first_bad k es)
unfolding first_bad moved_all
bad_moved k d [] = refl
bad_moved k d (e ∷ es) = go (eqb (fault_by k e) 0) refl (bad_moved (clock_after k e) d es)
  where
    go : (b : Bool) → eqb (fault_by k e) 0 ≡ b → first_bad (clock_after k e) (moved_all d es) ≡ moved_bad d (first_bad (clock_after k e) es)
        → cond b (first_bad (clock_after k e) (moved_all d es)) (refusal_of (fault_by k e) (d + e.offset)) ≡ moved_bad d (cond b (first_bad (clock_after k e) es) (refusal_of (fault_by k e) e.offset))
    go true p rest = rest
    go false p rest = sym (cond_no (eqb (fault_by k e) 0) _ _ p)

clock_moved : (k : Clock) (d : ℕ) (es : List Event) → clock_over k (moved_all d es) ≡ clock_over k es
unfolding clock_over moved_all
clock_moved k d [] = refl
clock_moved k d (e ∷ es) = clock_moved (clock_after k e) d es

-- what a run applies for moved events is moved
given-moved : (k : Clock) (d : ℕ) (e : Event) (es : List Event) → given k (moved d e) ++ moved_all d es ≡ moved_all d (given k e ++ es)
unfolding moved_all
given-moved k d e es = go (is_stamp e) (moved_on k e.body)
  where
    go : (b : Bool) (n : ℕ) → cond b (ticks_given (moved d e) n) (moved d e ∷ []) ++ moved_all d es ≡ moved_all d (cond b (ticks_given e n) (e ∷ []) ++ es)
    go true zero = refl
    go true (suc n) = refl
    go false n = refl

timed-moved : (k : Clock) (d : ℕ) (es : List Event) → timed k (moved_all d es) ≡ moved_all d (timed k es)
unfolding timed moved_all
timed-moved k d [] = refl
timed-moved k d (e ∷ es) = ap (λ (fs : List Event). given k (moved d e) ++ fs) (timed-moved (clock_after k e) d es) ∙ given-moved k d e (timed (clock_after k e) es)

clock_append : (k : Clock) (es fs : List Event) → clock_over k (es ++ fs) ≡ clock_over (clock_over k es) fs
unfolding clock_over
clock_append k [] fs = refl
clock_append k (e ∷ es) fs = clock_append (clock_after k e) es fs

-- ---- the events of a script that goes on

module _ (s t : List ℕ) where
  abbrev d : ℕ
  d = length s

  -- a byte of the first piece, and of the second
  byte_first : (i : ℕ) → i < length s → get_or (s ++ t) i 0 ≡ get_or s i 0
  byte_first i h = get_or-append s t 0 i h

  byte_second : (i : ℕ) → get_or (s ++ t) (d + i) 0 ≡ get_or t i 0
  byte_second i = get_or-append-add s t i 0

  -- an event that lies in the first piece is the same in the whole
  number_first : (from n : ℕ) → from + n ≤ length s → number_at (s ++ t) from n ≡ number_at s from n
  number_first from zero q = refl
  number_first from (suc n) q =
      ap (λ (high : ℕ). high * 256 + get_or (s ++ t) (from + n) 0) (number_first from n (omega arith))
      ∙ ap (λ (low : ℕ). number_at s from n * 256 + low) (byte_first (from + n) (omega arith))

  body_first : (at : ℕ) → at < length s → next_at s at ≤ length s → body_at (s ++ t) at ≡ body_at s at
  body_first at h n = ap (λ (k : ℕ). number_at (s ++ t) (at + 1) (body_length k)) (byte_first at h) ∙ number_first (at + 1) (body_length (get_or s at 0)) n

  next_first : (at : ℕ) → at < length s → next_at (s ++ t) at ≡ next_at s at
  next_first at h = ap (λ (k : ℕ). at + 1 + body_length k) (byte_first at h)

  -- an event of the first piece that the piece does not end in has the same fault in the whole
  fault_first : (at : ℕ) → at < length s → (fault_at s at ≡ 4 → ⊥) → fault_at (s ++ t) at ≡ fault_at s at
  unfolding fault_at
  fault_first at h whole =
      ap (λ (k : ℕ). cond (not (known_in_script k)) 5 (cond (ltb (length (s ++ t)) (next_at (s ++ t) at)) 4 (cond (not (in_range k (body_at (s ++ t) at))) 6 0))) (byte_first at h)
      ∙ go (known_in_script (get_or s at 0)) refl (dec_lt (length s) (next_at s at))
    where
      go : (k : Bool) → known_in_script (get_or s at 0) ≡ k → Dec (length s < next_at s at)
          → ◌≡◌ {A = ℕ} (cond (not k) 5 (cond (ltb (length (s ++ t)) (next_at (s ++ t) at)) 4 (cond (not (in_range (get_or s at 0) (body_at (s ++ t) at))) 6 0)))
          (cond (not k) 5 (cond (ltb (length s) (next_at s at)) 4 (cond (not (in_range (get_or s at 0) (body_at s at))) 6 0)))
      go false e l = refl
      go true e (yes l) = absurd (whole (cond_no (not (known_in_script (get_or s at 0))) _ _ (ap not e) ∙ cond_yes (ltb (length s) (next_at s at)) _ _ (lt-ltb _ _ l)))
      go true e (no l) =
          cond_no (ltb (length (s ++ t)) (next_at (s ++ t) at)) _ _ (le-ltb (length (s ++ t)) (next_at (s ++ t) at) (omega (arith, next_first at h, length-append s t)))
          ∙ ap (λ (b : ℕ). cond (not (in_range (get_or s at 0) b)) 6 0) (body_first at h (omega arith))
          ∙ sym (cond_no (ltb (length s) (next_at s at)) _ _ (le-ltb (length s) (next_at s at) (omega arith)))

  -- a good event of the first piece is the same event of the whole
  event_first : (at : ℕ) → at < length s → fault_at s at ≡ 0 → event_at (s ++ t) at ≡ event_at s at
  event_first at h z =
      let e : fault_at (s ++ t) at ≡ fault_at s at = fault_first at h (λ four. omega (arith, z, four)) in
      λ i. record { offset = at; kind = byte_first at h i; body = body_first at h (good_event s at z).inside i; fault = e i }

  -- an event of the second piece is the same event of the whole, further on
  byte_beyond : (at i : ℕ) → get_or (s ++ t) (d + at + i) 0 ≡ get_or t (at + i) 0
  byte_beyond at i = ap (λ (q : ℕ). get_or (s ++ t) q 0) (add_assoc d at i) ∙ byte_second (at + i)

  number_second : (from n : ℕ) → number_at (s ++ t) (d + from) n ≡ number_at t from n
  number_second from zero = refl
  number_second from (suc n) =
      ap (λ (high : ℕ). high * 256 + get_or (s ++ t) (d + from + n) 0) (number_second from n)
      ∙ ap (λ (low : ℕ). number_at t from n * 256 + low) (byte_beyond from n)

  body_second : (at : ℕ) → body_at (s ++ t) (d + at) ≡ body_at t at
  body_second at =
      ap (λ (k : ℕ). number_at (s ++ t) (d + at + 1) (body_length k)) (byte_second at)
      ∙ ap (λ (from : ℕ). number_at (s ++ t) from (body_length (get_or t at 0))) (add_assoc d at 1)
      ∙ number_second (at + 1) (body_length (get_or t at 0))

  next_second : (at : ℕ) → next_at (s ++ t) (d + at) ≡ d + next_at t at
  next_second at = ap (λ (k : ℕ). d + at + 1 + body_length k) (byte_second at) ∙ omega arith

  further : (a b : ℕ) → ltb (d + a) (d + b) ≡ ltb a b
  further a b = go (dec_lt a b)
    where
      go : Dec (a < b) → ltb (d + a) (d + b) ≡ ltb a b
      go (yes h) = lt-ltb (d + a) (d + b) (omega arith) ∙ sym (lt-ltb a b h)
      go (no h) = le-ltb (d + a) (d + b) (omega arith) ∙ sym (le-ltb a b (omega arith))

  ends_second : (at : ℕ) → ltb (length (s ++ t)) (next_at (s ++ t) (d + at)) ≡ ltb (length t) (next_at t at)
  ends_second at = ap (λ (q : ℕ). ltb q (next_at (s ++ t) (d + at))) (length-append s t) ∙ ap (ltb (d + length t)) (next_second at) ∙ further (length t) (next_at t at)

  fault_second : (at : ℕ) → fault_at (s ++ t) (d + at) ≡ fault_at t at
  unfolding fault_at
  fault_second at =
      ap (λ (k : ℕ). cond (not (known_in_script k)) 5 (cond (ltb (length (s ++ t)) (next_at (s ++ t) (d + at))) 4 (cond (not (in_range k (body_at (s ++ t) (d + at)))) 6 0))) (byte_second at)
      ∙ ap (λ (b : Bool). cond (not (known_in_script (get_or t at 0))) 5 (cond b 4 (cond (not (in_range (get_or t at 0) (body_at (s ++ t) (d + at)))) 6 0))) (ends_second at)
      ∙ ap (λ (b : ℕ). cond (not (known_in_script (get_or t at 0))) 5 (cond (ltb (length t) (next_at t at)) 4 (cond (not (in_range (get_or t at 0) b)) 6 0))) (body_second at)

  event_second : (at : ℕ) → event_at (s ++ t) (d + at) ≡ moved d (event_at t at)
  event_second at = λ i. record { offset = d + at; kind = byte_second at i; body = body_second at i; fault = fault_second at i }

  over_second : (at : ℕ) → length t ≤ at → events_from (s ++ t) (d + at) ≡ moved_all d (events_from t at)
  unfolding moved_all
  over_second at h = events-none (s ++ t) (d + at) (omega (arith, length-append s t)) ∙ sym (ap (moved_all d) (events-none t at h))

  more_second : (at : ℕ) → at < length t → events_from (s ++ t) (d + next_at t at) ≡ moved_all d (events_from t (next_at t at)) → events_from (s ++ t) (d + at) ≡ moved_all d (events_from t at)
  unfolding moved_all
  more_second at h rest =
      events-more (s ++ t) (d + at) (omega (arith, length-append s t))
      ∙ ap (λ (e : Event). e ∷ events_from (s ++ t) (next_at (s ++ t) (d + at))) (event_second at)
      ∙ ap (λ (q : ℕ). moved d (event_at t at) ∷ events_from (s ++ t) q) (next_second at)
      ∙ ap (λ (es : List Event). moved d (event_at t at) ∷ es) rest
      ∙ sym (ap (moved_all d) (events-more t at h))

  events_second : (fuel at : ℕ) → length t ≤ at + fuel → events_from (s ++ t) (d + at) ≡ moved_all d (events_from t at)
  events_second zero at h = over_second at (omega arith)
  events_second (suc fuel) at h = go (λ l. events_second fuel (next_at t at) (omega arith)) (dec_lt at (length t))
    where
      go : (at < length t → events_from (s ++ t) (d + next_at t at) ≡ moved_all d (events_from t (next_at t at))) → Dec (at < length t) → events_from (s ++ t) (d + at) ≡ moved_all d (events_from t at)
      go rest (yes l) = more_second at l (rest l)
      go rest (no l) = over_second at (omega arith)

  over_first : (at : ℕ) → at ≡ length s → events_from (s ++ t) at ≡ events_from s at ++ moved_all d (events t)
  over_first at e =
      ap (events_from (s ++ t)) (e ∙ sym (add-zero d))
      ∙ events_second (length t) 0 (omega arith)
      ∙ ap (λ (es : List Event). es ++ moved_all d (events t)) (sym (events-none s at (omega arith)))

  more_first : (at : ℕ) → at < length s → fault_at s at ≡ 0 → events_from (s ++ t) (next_at s at) ≡ events_from s (next_at s at) ++ moved_all d (events t)
      → events_from (s ++ t) at ≡ events_from s at ++ moved_all d (events t)
  more_first at h z rest =
      events-more (s ++ t) at (omega (arith, length-append s t))
      ∙ ap (λ (e : Event). e ∷ events_from (s ++ t) (next_at (s ++ t) at)) (event_first at h z)
      ∙ ap (λ (q : ℕ). event_at s at ∷ events_from (s ++ t) q) (next_first at h)
      ∙ ap (λ (es : List Event). event_at s at ∷ es) rest
      ∙ ap (λ (es : List Event). es ++ moved_all d (events t)) (sym (events-more s at h))

  -- The events of the whole are those of the first piece, if it has no bad one, and then those of the second, further on.
  events_whole : (fuel : ℕ) (k : Clock) (at : ℕ) → length s ≤ at + fuel → at ≤ length s → (first_bad k (events_from s at)).number ≡ 0 → events_from (s ++ t) at ≡ events_from s at ++ moved_all d (events t)
  events_whole zero k at h i c = over_first at (omega arith)
  events_whole (suc fuel) k at h i c =
      go (λ l. events_whole fuel (clock_after k (event_at s at)) (next_at s at) (omega arith) (good_event s at (written l)).inside (clean-later k s at l c)) (dec_lt at (length s))
    where
      written : at < length s → fault_at s at ≡ 0
      written l = (clean-event k (event_at s at) (no_fault k s at l c)).as_written

      go : (at < length s → events_from (s ++ t) (next_at s at) ≡ events_from s (next_at s at) ++ moved_all d (events t)) → Dec (at < length s) → events_from (s ++ t) at ≡ events_from s at ++ moved_all d (events t)
      go rest (yes l) = more_first at l (written l) (rest l)
      go rest (no l) = over_first at (omega arith)

  -- the clock that the first piece leaves
  abbrev between : Clock
  between = clock_over unset (events s)

  module _ (clean : (first_bad unset (events s)).number ≡ 0) where
    pub events_cut : events (s ++ t) ≡ events s ++ moved_all d (events t)
    events_cut = events_whole (length s) unset 0 (omega arith) (omega arith) clean

    -- Running the pieces one after the other, the second with the clock that the first leaves, is running the whole.
    pub run_cut : (T : Setting) (w : World) → runs T (played (s ++ t)) w ≡ runs T (timed (clock_over unset (events s)) (events t)) (runs T (played s) w)
    run_cut T w =
        ap (λ (es : List Event). runs T (timed unset es) w) events_cut
        ∙ ap (λ (es : List Event). runs T es w) (timed-add unset (events s) (moved_all d (events t)))
        ∙ runs-add T (played s) (timed between (moved_all d (events t))) w
        ∙ ap (λ (es : List Event). runs T es (runs T (played s) w)) (timed-moved between d (events t))
        ∙ runs_moved T d (timed between (events t)) (runs T (played s) w)

    -- The clock after the whole is the one after the second piece.
    pub clock_cut : clock_over unset (events (s ++ t)) ≡ clock_over (clock_over unset (events s)) (events t)
    clock_cut = ap (clock_over unset) events_cut ∙ clock_append unset (events s) (moved_all d (events t)) ∙ clock_moved between d (events t)

    -- The first bad event of the whole is that of the second piece, by the clock that the first leaves, its offset further on by the first piece's length.
    pub bad_cut : first_bad unset (events (s ++ t)) ≡ moved_bad d (first_bad (clock_over unset (events s)) (events t))
    bad_cut = ap (first_bad unset) events_cut ∙ bad_behind unset (events s) (moved_all d (events t)) clean ∙ bad_moved between d (events t)

    -- The whole needs the room of both pieces: an output with room for each of them alone may be too small for it.
    pub room_cut : room (events (s ++ t)) ≡ room (events s) + room (events t)
    room_cut = ap room events_cut ∙ room-append (events s) (moved_all d (events t)) ∙ ap (λ (n : ℕ). room (events s) + n) (room_moved d (events t))

  -- what refuses an event of the first piece refuses it in the whole, unless the piece ends in it
  fault_same : (k : Clock) (at : ℕ) → at < length s → (fault_by k (event_at s at) ≡ 4 → ⊥) → fault_by k (event_at (s ++ t) at) ≡ fault_by k (event_at s at)
  fault_same k at h whole = go (ℕ_discrete (fault_at s at) 0)
    where
      go : Dec (fault_at s at ≡ 0) → fault_by k (event_at (s ++ t) at) ≡ fault_by k (event_at s at)
      go (yes z) = ap (fault_by k) (event_first at h z)
      go (no b) =
          let here : fault_by k (event_at s at) ≡ fault_at s at = cond_no (eqb (fault_at s at) 0) _ _ (ne_eqb _ _ b) in
          let same : fault_at (s ++ t) at ≡ fault_at s at = fault_first at h (λ four. whole (here ∙ four)) in
          cond_no (eqb (fault_at (s ++ t) at) 0) _ _ (ne_eqb _ _ (λ e. b (sym same ∙ e))) ∙ same ∙ sym here

  bad_from : (fuel : ℕ) (k : Clock) (at : ℕ) → length s ≤ at + fuel → ((first_bad k (events_from s at)).number ≡ 0 → ⊥) → ((first_bad k (events_from s at)).number ≡ 4 → ⊥)
      → first_bad k (events_from (s ++ t) at) ≡ first_bad k (events_from s at)
  bad_from zero k at l some whole = absurd (some (ap (λ (r : Refusal). r.number) (first_bad-none k s at (omega arith))))
  bad_from (suc fuel) k at l some whole = go (bad_from fuel (clock_after k (event_at s at)) (next_at s at) (omega arith)) (dec_lt at (length s)) (ℕ_discrete (fault_by k (event_at s at)) 0)
    where
      number : Refusal → ℕ
      number r = r.number

      within : at < length s → at < length (s ++ t)
      within h = omega (arith, length-append s t)

      -- the refusal from the next event on, of the first piece and of the whole
      rest : List ℕ → Refusal
      rest u = first_bad (clock_after k (event_at s at)) (events_from u (next_at s at))

      go : (((rest s).number ≡ 0 → ⊥) → ((rest s).number ≡ 4 → ⊥) → rest (s ++ t) ≡ rest s) → Dec (at < length s) → Dec (fault_by k (event_at s at) ≡ 0) → first_bad k (events_from (s ++ t) at) ≡ first_bad k (events_from s at)
      go later (no h) f = absurd (some (ap number (first_bad-none k s at (omega arith))))
      go later (yes h) (yes z) =
          let skips : first_bad k (events_from s at) ≡ rest s = first_bad-later k s at h z in
          let same : event_at (s ++ t) at ≡ event_at s at = event_first at h (clean-event k (event_at s at) z).as_written in
          first_bad-later k (s ++ t) at (within h) (ap (fault_by k) same ∙ z)
          ∙ (λ i. first_bad (clock_after k (same i)) (events_from (s ++ t) (next_first at h i)))
          ∙ later (λ e. some (ap number skips ∙ e)) (λ e. whole (ap number skips ∙ e))
          ∙ sym skips
      go later (yes h) (no b) =
          let here : first_bad k (events_from s at) ≡ refusal_of (fault_by k (event_at s at)) at = first_bad-here k s at h b in
          let same : fault_by k (event_at (s ++ t) at) ≡ fault_by k (event_at s at) = fault_same k at h (λ e. whole (ap number here ∙ e)) in
          first_bad-here k (s ++ t) at (within h) (λ e. b (sym same ∙ e)) ∙ ap (λ (v : ℕ). refusal_of v at) same ∙ sym here

  -- A bad event of the first piece makes the whole bad, with the same number and offset; unless the number is 4: then the piece ends in the event, and the second may go on with it.
  pub bad_first : ((first_bad unset (events s)).number ≡ 0 → ⊥) → ((first_bad unset (events s)).number ≡ 4 → ⊥) → first_bad unset (events (s ++ t)) ≡ first_bad unset (events s)
  bad_first = bad_from (length s) unset 0 (omega arith)

-- ---- what a run keeps

-- Memory keeps its length over a run, and a legal state stays legal.
pub length_runs : (T : Setting) (es : List Event) (w : World) → length (runs T es w).memory ≡ length w.memory
unfolding runs
length_runs T [] w = refl
length_runs T (e ∷ es) w =
    length_runs T es (onward T e w) ∙ length-applied T w.chip w.memory e.kind e.body

module _ (T : Setting) (n : ℕ) (part : T.sectors ≡ sectors_in n) where
  pub legal_runs : (es : List Event) (w : World) → length w.memory ≡ n → legal w.chip n ≡ true → legal (runs T es w).chip n ≡ true
  unfolding runs
  legal_runs [] w l h = h
  legal_runs (e ∷ es) w l h = legal_runs es (onward T e w) (length-applied T w.chip w.memory e.kind e.body ∙ l) (legal_on e w l h)
    where
      legal_on : (e : Event) (w : World) → length w.memory ≡ n → legal w.chip n ≡ true → legal (does T e w).chip n ≡ true
      legal_on e w l h =
          subst (λ (q : ℕ). legal (does T e w).chip q ≡ true) l
          (legal-applied T w.chip w.memory e.kind e.body (part ∙ ap sectors_in (sym l)) (subst (λ (q : ℕ). legal w.chip q ≡ true) (sym l) h))

  -- nor does a run leave anything of a gone job: from a legal state without leftovers
  pub no_leftovers_runs : (es : List Event) (w : World) → length w.memory ≡ n → legal w.chip n ≡ true → NoLeftovers w.chip.core w.chip.held
      → NoLeftovers (runs T es w).chip.core (runs T es w).chip.held
  unfolding runs
  no_leftovers_runs [] w l h none = none
  no_leftovers_runs (e ∷ es) w l h none =
      no_leftovers_runs es (onward T e w) (length-applied T w.chip w.memory e.kind e.body ∙ l)
      (legal_runs (e ∷ []) w l h)
      (no_leftovers_applied T w.chip w.memory n e.kind e.body h none)

-- what was written and worked before a run only stands before what the run writes and works
pub runs-from : (T : Setting) (es : List Event) (c : Chip) (m a : List ℕ) (k : ℕ)
    → runs T es (world c m a k) ≡ world (runs T es (world c m [] 0)).chip (runs T es (world c m [] 0)).memory (a ++ (runs T es (world c m [] 0)).written) (k + (runs T es (world c m [] 0)).ticks)
unfolding runs
runs-from T [] c m a k = λ i. world c m (sym (append-nil a) i) (sym (add-zero k) i)
runs-from T (e ∷ es) c m a k =
    let o : Outcome = applied T c m e.kind e.body in
    let b : List ℕ = record_bytes o.said in
    let r : World = runs T es (world o.chip o.memory [] 0) in
    let whole : runs T es (world o.chip o.memory (a ++ b) (k + o.ticks)) ≡ world r.chip r.memory ((a ++ b) ++ r.written) (k + o.ticks + r.ticks) =
    runs-from T es o.chip o.memory (a ++ b) (k + o.ticks) in
    let part : runs T es (world o.chip o.memory b (0 + o.ticks)) ≡ world r.chip r.memory (b ++ r.written) (0 + o.ticks + r.ticks) =
    runs-from T es o.chip o.memory b (0 + o.ticks) in
    let ticks : k + o.ticks + r.ticks ≡ k + (0 + o.ticks + r.ticks) = omega arith in
    whole
    ∙ (λ i. world r.chip r.memory (append_assoc a b r.written i) (ticks i))
    ∙ ap (λ (w : World). world w.chip w.memory (a ++ w.written) (k + w.ticks)) (sym part)

-- Where no stamp stands before the cut, or none after it, the second piece applies the same events with the clock that the first leaves and without one.
alone_same : (s t : List ℕ) → NoStamp (events s) ⊎ NoStamp (events t) → timed (clock_over unset (events s)) (events t) ≡ played t
alone_same s t (inl none) = ap (λ (k : Clock). timed k (events t)) (clock_unstamped unset (events s) none)
alone_same s t (inr none) = timed-unstamped (clock_over unset (events s)) (events t) none ∙ sym (timed-unstamped unset (events t) none)

-- events without a stamp have the same first bad one whatever the clock shows
bad_unstamped : (k k' : Clock) (es : List Event) → NoStamp es → first_bad k es ≡ first_bad k' es
unfolding first_bad NoStamp
bad_unstamped k k' [] none = refl
bad_unstamped k k' (e ∷ es) none =
    let fault : fault_by k e ≡ fault_by k' e = written k ∙ sym (written k') in
    let rest : first_bad (clock_after k e) es ≡ first_bad (clock_after k' e) es = bad_unstamped (clock_after k e) (clock_after k' e) es none.1 in
    λ i. cond (eqb (fault i) 0) (rest i) (refusal_of (fault i) e.offset)
  where
    written : (q : Clock) → fault_by q e ≡ cond (eqb e.fault 0) 0 e.fault
    written q = ap (λ (b : Bool). cond (eqb e.fault 0) (cond (b && went_back q e.body) 8 0) e.fault) none.0

-- So there the first bad event of the whole is that of the second piece on its own, its offset further on by the first piece's length.
pub bad_pieces : (s t : List ℕ) → (first_bad unset (events s)).number ≡ 0 → NoStamp (events s) ⊎ NoStamp (events t) → first_bad unset (events (s ++ t)) ≡ moved_bad (length s) (first_bad unset (events t))
bad_pieces s t clean (inl none) = bad_cut s t clean ∙ ap (λ (k : Clock). moved_bad (length s) (first_bad k (events t))) (clock_unstamped unset (events s) none)
bad_pieces s t clean (inr none) = bad_cut s t clean ∙ ap (moved_bad (length s)) (bad_unstamped (clock_over unset (events s)) unset (events t) none)

-- What a cut script comes to where no event of the first piece is bad, and no stamp stands before the cut or none after it: the second piece run on what the first left
-- gives the whole's chip and memory; what the two write, one behind the other, is what the whole writes, and their working ticks add up. Of refusals it says nothing:
-- see `bad_pieces` and `room_cut`.
pub pieces : (c : Chip) (m area s t : List ℕ) → (first_bad unset (events s)).number ≡ 0 → NoStamp (events s) ⊎ NoStamp (events t)
    → world_after c m area (s ++ t)
    ≡ world (world_after (world_after c m area s).chip (world_after c m area s).memory area t).chip (world_after (world_after c m area s).chip (world_after c m area s).memory area t).memory
    ((world_after c m area s).written ++ (world_after (world_after c m area s).chip (world_after c m area s).memory area t).written)
    ((world_after c m area s).ticks + (world_after (world_after c m area s).chip (world_after c m area s).memory area t).ticks)
unfolding world_after
pieces c m area s t clean none =
    let T : Setting = setting_of (length m) area in
    let w : World = runs T (played s) (world c m [] 0) in
    let same : setting_of (length m) area ≡ setting_of (length w.memory) area = ap (λ (n : ℕ). setting_of n area) (sym (length_runs T (played s) (world c m [] 0))) in
    run_cut s t clean T (world c m [] 0)
    ∙ ap (λ (es : List Event). runs T es w) (alone_same s t none)
    ∙ runs-from T (played t) w.chip w.memory w.written w.ticks
    ∙ ap (λ (q : Setting). world (runs q (played t) (world w.chip w.memory [] 0)).chip (runs q (played t) (world w.chip w.memory [] 0)).memory (w.written ++ (runs q (played t) (world w.chip w.memory [] 0)).written) (w.ticks + (runs q (played t) (world w.chip w.memory [] 0)).ticks)) same

-- With a stamp on each side the cut changes the ticks: 0000h and then 0005h in one script are five ticks, and each of the two alone is none.
pub cut-between_stamps : (played ((0x09 ∷ 0x00 ∷ 0x00 ∷ []) ++ (0x09 ∷ 0x00 ∷ 0x05 ∷ [])) ≡ record { offset = 3; kind = 0x05; body = 5; fault = 0 } ∷ [])
    × (played (0x09 ∷ 0x00 ∷ 0x00 ∷ []) ≡ [])
    × (played (0x09 ∷ 0x00 ∷ 0x05 ∷ []) ≡ [])
unfolding timed moved_on events_from walk fault_at known_in_script kind_row kind_row_in
cut-between_stamps = (refl, refl, refl)

-- ---- events applied one by one

-- the body of a script's event is the body that the event uses
used_at : (s : List ℕ) (at : ℕ) → body_used (get_or s at 0) (body_at s at) ≡ body_at s at
unfolding body_used
used_at s at = go (body_length (get_or s at 0))
  where
    go : (l : ℕ) → cond (eqb l 0) 0 (number_at s (at + 1) l) ≡ number_at s (at + 1) l
    go zero = refl
    go (suc l) = cond_no (eqb (suc l) 0) 0 (number_at s (at + 1) (suc l)) (ne_eqb (suc l) 0 (λ e. omega arith))

-- The event of a script applied alone, where nothing refuses it, gives what the definitions' run does at that event.
pub one_by_one : (c : Chip) (m area s : List ℕ) (at : ℕ) → Alone.refusal c (length m) (length area) (get_or s at 0) (body_at s at) ≡ 0
    → (Alone.answer_of c m area (get_or s at 0) (body_at s at) ≡ Alone.done (applied (setting_of (length m) area) c m (get_or s at 0) (body_at s at)))
    × (Alone.memory_of c m area (get_or s at 0) (body_at s at) ≡ (applied (setting_of (length m) area) c m (get_or s at 0) (body_at s at)).memory)
one_by_one c m area s at h =
    let same : applied (setting_of (length m) area) c m (get_or s at 0) (body_at s at) ≡ Alone.happens c m area (get_or s at 0) (body_at s at) =
    happens-as c m area (get_or s at 0) (body_at s at) (sectors_in (length m)) (body_at s at) refl (sym (used_at s at)) in (
      answer_done c m area (get_or s at 0) (body_at s at) h ∙ ap Alone.done (sym same),
      memory_done c m area (get_or s at 0) (body_at s at) h ∙ ap (λ (o : Outcome). o.memory) (sym same),
    )

-- and a good event of a script that is no stamp is refused by nothing on a legal state of a permitted length, with an area that is not too long
pub good_alone : (c : Chip) (n extent : ℕ) (s : List ℕ) (at : ℕ) → permitted n ≡ true → extent ≤ 256 → legal c n ≡ true → fault_at s at ≡ 0 → is_stamp (event_at s at) ≡ false
    → Alone.refusal c n extent (get_or s at 0) (body_at s at) ≡ 0
good_alone c n extent s at p a l z no-stamp =
    let g = good_event s at z in
    (event-refused_when c n extent (get_or s at 0) (body_at s at)).none.1 (p, a, l, known_event (get_or s at 0) g.known no-stamp, g.ranged)
