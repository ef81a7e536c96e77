-- What is true of scripts and runs: a script event by event, its faults, its stamps and its room, and a run in two parts.
use Rattle.std.specs.Prelude.{ℕ, zero, suc, ◌+◌, ◌<◌, ◌≤◌, Bool, true, false, cond, ◌&&◌, List, [], ◌∷◌, ◌++◌, ◌≡◌, eqb, ltb, leb, length, get_or, take, drop}
use Rattle.std.proofs.Math.Bool.{not}
use Rattle.std.proofs.lemmas.Bool.{false≢true, eqb-false, lt-leb}
use Rattle.std.proofs.Common.{append-nil, append_assoc, sym, ap, ◌∙◌, add-zero, arith, take-append-drop, eq-eqb, ne_eqb, eqb-true, lt-ltb, le-ltb, le-leb, ltb-false}
use Rattle.std.proofs.Math.Path.{refl}
use Rattle.std.proofs.Math.Decide.{ℕ_discrete}
use Rattle.std.proofs.lemmas.List.Edits.{sets-eq}
use Rattle.refusal.specs.declared.Refusal.{Refusal as Fault}
use Rattle.refusal.specs.Table.{number_of}
use Rattle.refusal.specs.Laws.{refused as is_told}
use Rattle.cells.specs.Choice.{cond_yes, cond_no, and_left, and_right, not_so, chosen_number}
use Rattle.cells.specs.Put.{Put}
use Rattle.cells.specs.PutLaws.{put_between}
use Rattle.part.specs.Part.{permitted, sectors_in, Setting, setting}
use Rattle.part.specs.Area.{longest_area}
use Rattle.kinds.specs.Kinds.{SELECT, EXCHANGE, DESELECT, STAMP, kind_row_in, kind_row, known_in_script, body_length, in_range, room_of}
use Rattle.kinds.specs.Body.{body_at, next_at}
use Rattle.kinds.proofs.Laws.{body_one, exchange-range, stamp-range}
use Rattle.clock.specs.declared.Clock.{Clock}
use Rattle.clock.specs.Clock.{unset, moved_on, went_back}
use Rattle.chip.specs.declared.Chip.{Chip}
use Rattle.legal.specs.Legal.{legal}
use Rattle.chip.specs.declared.Record.{Record}
use Rattle.chip.specs.Record.{record_bytes}
use Rattle.script.specs.declared.Refused.{Refused}
use Rattle.job.specs.Tick.{ticks_core, ticks_load, ticks_memory, worked}
use Rattle.event.specs.Event.{tick, applied}
use Rattle.script.specs.Script.{Event, Good, fault_at, event_at, walk, events_from, events, is_stamp, clock_after, clock_over, ticks_given, given, timed, played, Refusal, refusal_of, fault_by, first_bad, room}
use Rattle.script.specs.Run.{Ran, told, World, world, after, onward, Stored, runs, Playable, refusal, world_after, refused, done, answer_of, memory_of, output_of}

-- ---- a script, event by event

-- fuel beyond the script's end changes nothing
walk-enough : (s : List ℕ) (f g at : ℕ) → length s ≤ at + f → length s ≤ at + g → walk f s at ≡ walk g s at
unfolding walk
walk-enough s zero zero at p q = refl
walk-enough s zero (suc g) at p q = sym (cond_yes (leb (length s) at) _ _ (le-leb (length s) at (omega arith)))
walk-enough s (suc f) zero at p q = cond_yes (leb (length s) at) _ _ (le-leb (length s) at (omega arith))
walk-enough s (suc f) (suc g) at p q =
    ap (λ (es : List Event). cond (leb (length s) at) [] (event_at s at ∷ es)) (walk-enough s f g (next_at s at) (omega arith) (omega arith))

-- at the end there are no events
pub events-none : (s : List ℕ) (at : ℕ) → length s ≤ at → events_from s at ≡ []
unfolding events_from walk
events-none s at h = walk-enough s (length s) 0 at (omega arith) (omega arith)

-- before it there is the event at hand, and the rest
pub events-more : (s : List ℕ) (at : ℕ) → at < length s → events_from s at ≡ event_at s at ∷ events_from s (next_at s at)
unfolding events_from walk
events-more s at h = walk-enough s (length s) (suc (length s)) at (omega arith) (omega arith) ∙ cond_no (leb (length s) at) _ _ (lt-leb _ _ h)

-- ---- faults

pub first_bad-none : (k : Clock) (s : List ℕ) (at : ℕ) → length s ≤ at → first_bad k (events_from s at) ≡ refusal_of 0 0
unfolding first_bad
first_bad-none k s at h = ap (first_bad k) (events-none s at h)

pub first_bad-here : (k : Clock) (s : List ℕ) (at : ℕ) → at < length s → (fault_by k (event_at s at) ≡ 0 → ⊥) → first_bad k (events_from s at) ≡ refusal_of (fault_by k (event_at s at)) at
unfolding first_bad
first_bad-here k s at h e = ap (first_bad k) (events-more s at h) ∙ cond_no (eqb (fault_by k (event_at s at)) 0) _ _ (ne_eqb _ _ e)

pub first_bad-later : (k : Clock) (s : List ℕ) (at : ℕ) → at < length s → fault_by k (event_at s at) ≡ 0
    → first_bad k (events_from s at) ≡ first_bad (clock_after k (event_at s at)) (events_from s (next_at s at))
unfolding first_bad
first_bad-later k s at h e = ap (first_bad k) (events-more s at h) ∙ cond_yes (eqb (fault_by k (event_at s at)) 0) _ _ (eq-eqb _ _ e)

-- a script with no bad event from here on has none at hand
pub no_fault : (k : Clock) (s : List ℕ) (at : ℕ) → at < length s → (first_bad k (events_from s at)).number ≡ 0 → fault_by k (event_at s at) ≡ 0
no_fault k s at h e = go (ℕ_discrete (fault_by k (event_at s at)) 0)
  where
    go : Dec (fault_by k (event_at s at) ≡ 0) → fault_by k (event_at s at) ≡ 0
    go (yes p) = p
    go (no p) = ap (λ (r : Refusal). r.number) (sym (first_bad-here k s at h p)) ∙ e

-- and none behind it
pub clean-later : (k : Clock) (s : List ℕ) (at : ℕ) → at < length s → (first_bad k (events_from s at)).number ≡ 0
    → (first_bad (clock_after k (event_at s at)) (events_from s (next_at s at))).number ≡ 0
clean-later k s at h e = ap (λ (r : Refusal). r.number) (sym (first_bad-later k s at h (no_fault k s at h e))) ∙ e

-- no fault by the clock: none as it is written, and a stamp did not go back
pub record Clean (k : Clock) (e : Event) : Type 0 where
  pub as_written : e.fault ≡ 0
  pub forward : (is_stamp e && went_back k e.body) ≡ false

pub clean-event : (k : Clock) (e : Event) → fault_by k e ≡ 0 → Clean k e
clean-event k e = go (eqb e.fault 0) (is_stamp e && went_back k e.body) refl refl
  where
    go : (f b : Bool) → eqb e.fault 0 ≡ f → (is_stamp e && went_back k e.body) ≡ b → cond f (cond b 8 0) e.fault ≡ 0 → Clean k e
    go true true ef eb h = absurd (omega arith)
    go true false ef eb h = record { as_written = eqb-true _ _ ef; forward = eb }
    go false b ef eb h = absurd (eqb-false _ _ ef h)

pub clean-as : (k : Clock) (e : Event) → Clean k e → fault_by k e ≡ 0
clean-as k e c = cond_yes (eqb e.fault 0) _ _ (eq-eqb _ _ c.as_written) ∙ cond_no (is_stamp e && went_back k e.body) _ _ c.forward

pub good_event : (s : List ℕ) (at : ℕ) → fault_at s at ≡ 0 → Good s at
unfolding fault_at
good_event s at = go (known_in_script (get_or s at 0)) (ltb (length s) (next_at s at)) (in_range (get_or s at 0) (body_at s at)) refl refl refl
  where
    go : (k l r : Bool) → known_in_script (get_or s at 0) ≡ k → ltb (length s) (next_at s at) ≡ l → in_range (get_or s at 0) (body_at s at) ≡ r
        → ◌≡◌ {A = ℕ} (cond (not k) 5 (cond l 4 (cond (not r) 6 0))) 0
        → Good s at
    go true false true a b d h = record { known = a; inside = ltb-false _ _ b; ranged = d }
    go true false false a b d h = absurd (omega arith)
    go true true r a b d h = absurd (omega arith)
    go false l r a b d h = absurd (omega arith)

-- ---- what refuses an event, test by test

module _ (k : Clock) (s : List ℕ) (at : ℕ) where
  -- a fault as it is written is the fault
  pub as_written : (v : ℕ) → (v ≡ 0 → ⊥) → fault_at s at ≡ v → fault_by k (event_at s at) ≡ v
  as_written v some e = cond_no (eqb (fault_at s at) 0) _ _ (ne_eqb (fault_at s at) 0 (λ z. some (sym e ∙ z))) ∙ e

  pub fault_five : known_in_script (get_or s at 0) ≡ false → fault_by k (event_at s at) ≡ 5
  unfolding fault_at
  fault_five none = as_written 5 (λ z. omega arith) (cond_yes _ _ _ (ap not none))

  module _ (known : known_in_script (get_or s at 0) ≡ true) where
    pub fault_four : length s < next_at s at → fault_by k (event_at s at) ≡ 4
    unfolding fault_at
    fault_four short = as_written 4 (λ z. omega arith) (cond_no _ _ _ (ap not known) ∙ cond_yes _ _ _ (lt-ltb (length s) (next_at s at) short))

    module _ (whole : next_at s at ≤ length s) where
      pub fault_six : in_range (get_or s at 0) (body_at s at) ≡ false → fault_by k (event_at s at) ≡ 6
      unfolding fault_at
      fault_six beyond = as_written 6 (λ z. omega arith) (cond_no _ _ _ (ap not known) ∙ cond_no _ _ _ (le-ltb (length s) (next_at s at) whole) ∙ cond_yes _ _ _ (ap not beyond))

      module _ (ranged : in_range (get_or s at 0) (body_at s at) ≡ true) where
        written_well : fault_at s at ≡ 0
        unfolding fault_at
        written_well = cond_no _ _ _ (ap not known) ∙ cond_no _ _ _ (le-ltb (length s) (next_at s at) whole) ∙ cond_no _ _ _ (ap not ranged)

        by_the_clock : (b : Bool) → (is_stamp (event_at s at) && went_back k (body_at s at)) ≡ b → fault_by k (event_at s at) ≡ cond b 8 0
        by_the_clock b e = cond_yes (eqb (fault_at s at) 0) _ _ (eq-eqb _ _ written_well) ∙ ap (λ (back : Bool). cond back 8 0) e

        pub fault_eight : get_or s at 0 ≡ STAMP → went_back k (body_at s at) ≡ true → fault_by k (event_at s at) ≡ 8
        fault_eight stamp back = by_the_clock true (rw (eq-eqb _ _ stamp) back)

        pub fault_none_forward : went_back k (body_at s at) ≡ false → fault_by k (event_at s at) ≡ 0
        fault_none_forward forward = by_the_clock false (not_so _ (λ both. false≢true (sym forward ∙ and_right (is_stamp (event_at s at)) (went_back k (body_at s at)) both)))

        pub fault_none_other : (get_or s at 0 ≡ STAMP → ⊥) → fault_by k (event_at s at) ≡ 0
        fault_none_other other = by_the_clock false (rw (ne_eqb _ _ other))

-- ---- stamps

-- an event that is no stamp leaves the clock, and a run applies it as it is
pub clock_stays : (k : Clock) (e : Event) → is_stamp e ≡ false → clock_after k e ≡ k
clock_stays k e no-stamp = cond_no (is_stamp e) _ _ no-stamp

pub given-itself : (k : Clock) (e : Event) → is_stamp e ≡ false → given k e ≡ e ∷ []
given-itself k e no-stamp = cond_no (is_stamp e) _ _ no-stamp

-- events without a stamp are applied as they are, whatever the clock shows, and leave it
unfoldable pub NoStamp : List Event → Type 0
NoStamp [] = Unit {0}
NoStamp (e ∷ es) = (is_stamp e ≡ false) × NoStamp es

pub timed-unstamped : (k : Clock) (es : List Event) → NoStamp es → timed k es ≡ es
unfolding timed NoStamp
timed-unstamped k [] none = refl
timed-unstamped k (e ∷ es) none =
    ap (λ (fs : List Event). fs ++ timed (clock_after k e) es) (given-itself k e none.0) ∙ ap (λ (fs : List Event). e ∷ fs) (timed-unstamped (clock_after k e) es none.1)

pub clock_unstamped : (k : Clock) (es : List Event) → NoStamp es → clock_over k es ≡ k
unfolding clock_over NoStamp
clock_unstamped k [] none = refl
clock_unstamped k (e ∷ es) none = clock_unstamped (clock_after k e) es none.1 ∙ clock_stays k e none.0

-- the events of two rows, one behind the other: the second goes on with the clock that the first leaves
pub timed-add : (k : Clock) (es fs : List Event) → timed k (es ++ fs) ≡ timed k es ++ timed (clock_over k es) fs
unfolding timed clock_over
timed-add k [] fs = refl
timed-add k (e ∷ es) fs =
    ap (λ (gs : List Event). given k e ++ gs) (timed-add (clock_after k e) es fs) ∙ sym (append_assoc (given k e) (timed (clock_after k e) es) (timed (clock_over (clock_after k e) es) fs))

-- the events from an offset on, as a run applies them
pub timed-none : (k : Clock) (s : List ℕ) (at : ℕ) → length s ≤ at → timed k (events_from s at) ≡ []
unfolding timed
timed-none k s at h = ap (timed k) (events-none s at h)

pub timed-more : (k : Clock) (s : List ℕ) (at : ℕ) → at < length s
    → timed k (events_from s at) ≡ given k (event_at s at) ++ timed (clock_after k (event_at s at)) (events_from s (next_at s at))
unfolding timed
timed-more k s at h = ap (timed k) (events-more s at h)

-- ---- an exchange in a script: two bytes, the second of them its body

pub exchange-body : (s : List ℕ) (at : ℕ) → get_or s at 0 ≡ EXCHANGE → body_at s at ≡ get_or s (at + 1) 0
unfolding kind_row kind_row_in
exchange-body s at e = body_one s at (ap body_length e)

pub exchange-next : (s : List ℕ) (at : ℕ) → get_or s at 0 ≡ EXCHANGE → next_at s at ≡ at + 2
unfolding kind_row kind_row_in
exchange-next s at e = ap (λ (kind : ℕ). at + 1 + body_length kind) e ∙ omega arith

-- with a whole one nothing is wrong
exchange-written : (s : List ℕ) (at : ℕ) → get_or s at 0 ≡ EXCHANGE → at + 1 < length s → get_or s (at + 1) 0 < 256 → fault_at s at ≡ 0
unfolding fault_at known_in_script kind_row kind_row_in
exchange-written s at e more byte =
    let next : next_at s at ≡ at + 2 = exchange-next s at e in
    let body : body_at s at ≡ get_or s (at + 1) 0 = exchange-body s at e in
    cond_no (not (known_in_script (get_or s at 0))) _ _ (ap (λ (kind : ℕ). not (known_in_script kind)) e)
    ∙ cond_no (ltb (length s) (next_at s at)) _ _ (le-ltb (length s) (next_at s at) (omega (arith, next)))
    ∙ cond_no (not (in_range (get_or s at 0) (body_at s at))) _ _ (ap (λ (kind : ℕ). not (in_range kind (body_at s at))) e ∙ ap not (exchange-range (body_at s at) ∙ le-leb (body_at s at) 255 (omega (arith, body))))

exchange-unstamped : (s : List ℕ) (at : ℕ) → get_or s at 0 ≡ EXCHANGE → is_stamp (event_at s at) ≡ false
exchange-unstamped s at e = ap (λ (kind : ℕ). eqb kind STAMP) e

pub exchange-good : (k : Clock) (s : List ℕ) (at : ℕ) → get_or s at 0 ≡ EXCHANGE → at + 1 < length s → get_or s (at + 1) 0 < 256 → fault_by k (event_at s at) ≡ 0
exchange-good k s at e more byte =
    clean-as k (event_at s at)
    (record { as_written = exchange-written s at e more byte; forward = ap (λ (b : Bool). b && went_back k (body_at s at)) (exchange-unstamped s at e) })

pub exchange-clock : (k : Clock) (s : List ℕ) (at : ℕ) → get_or s at 0 ≡ EXCHANGE → clock_after k (event_at s at) ≡ k
exchange-clock k s at e = clock_stays k (event_at s at) (exchange-unstamped s at e)

-- ---- selects, deselects, ticks and stamps in a script

-- a select has no body, a deselect has one byte, a stamp has two
pub select-next : (s : List ℕ) (at : ℕ) → get_or s at 0 ≡ SELECT → next_at s at ≡ at + 1
unfolding kind_row kind_row_in
select-next s at e = ap (λ (kind : ℕ). at + 1 + body_length kind) e ∙ omega arith

pub deselect-next : (s : List ℕ) (at : ℕ) → get_or s at 0 ≡ DESELECT → next_at s at ≡ at + 2
unfolding kind_row kind_row_in
deselect-next s at e = ap (λ (kind : ℕ). at + 1 + body_length kind) e ∙ omega arith

pub stamp-next : (s : List ℕ) (at : ℕ) → get_or s at 0 ≡ STAMP → next_at s at ≡ at + 3
unfolding kind_row kind_row_in
stamp-next s at e = ap (λ (kind : ℕ). at + 1 + body_length kind) e ∙ omega arith

-- a whole event of a kind that is no stamp is good exactly if its body is in range
pub kind_good : (k : Clock) (s : List ℕ) (at kind : ℕ) → known_in_script kind ≡ true → eqb kind STAMP ≡ false → get_or s at 0 ≡ kind → next_at s at ≤ length s
    → eqb (fault_by k (event_at s at)) 0 ≡ in_range kind (body_at s at)
kind_good k s at kind known other e whole = go (in_range (get_or s at 0) (body_at s at)) refl ∙ ap (λ (q : ℕ). in_range q (body_at s at)) e
  where
    go : (ranged : Bool) → in_range (get_or s at 0) (body_at s at) ≡ ranged → eqb (fault_by k (event_at s at)) 0 ≡ ranged
    go true r = ap (λ (fault : ℕ). eqb fault 0) (fault_none_other k s at (ap known_in_script e ∙ known) whole r (λ stamp. false≢true (sym other ∙ eq-eqb kind STAMP (sym e ∙ stamp))))
    go false r = ap (λ (fault : ℕ). eqb fault 0) (fault_six k s at (ap known_in_script e ∙ known) whole r)

-- a whole stamp exactly if it did not go back
pub stamp-good : (k : Clock) (s : List ℕ) (at : ℕ) → get_or s at 0 ≡ STAMP → next_at s at ≤ length s → body_at s at ≤ 65535 → eqb (fault_by k (event_at s at)) 0 ≡ not (went_back k (body_at s at))
unfolding known_in_script kind_row kind_row_in
stamp-good k s at e whole small = go (went_back k (body_at s at)) refl
  where
    ranged : in_range (get_or s at 0) (body_at s at) ≡ true
    ranged = ap (λ (kind : ℕ). in_range kind (body_at s at)) e ∙ stamp-range (body_at s at) ∙ le-leb (body_at s at) 65535 small

    go : (back : Bool) → went_back k (body_at s at) ≡ back → eqb (fault_by k (event_at s at)) 0 ≡ not back
    go true b = ap (λ (fault : ℕ). eqb fault 0) (fault_eight k s at (ap known_in_script e) whole ranged e b)
    go false b = ap (λ (fault : ℕ). eqb fault 0) (fault_none_forward k s at (ap known_in_script e) whole ranged b)

-- a whole event of a known kind is written well exactly if its body is in range
pub written_good : (s : List ℕ) (at kind : ℕ) → known_in_script kind ≡ true → get_or s at 0 ≡ kind → next_at s at ≤ length s → eqb (fault_at s at) 0 ≡ in_range kind (body_at s at)
unfolding fault_at
written_good s at kind known e whole =
    ap (λ (fault : ℕ). eqb fault 0) (cond_no _ _ _ (ap not (ap known_in_script e ∙ known)) ∙ cond_no _ _ _ (le-ltb (length s) (next_at s at) whole))
    ∙ go (in_range (get_or s at 0) (body_at s at))
    ∙ ap (λ (q : ℕ). in_range q (body_at s at)) e
  where
    go : (ranged : Bool) → eqb (cond (not ranged) 6 0) 0 ≡ ranged
    go true = refl
    go false = refl

-- and one that is cut off is not
pub written_cut : (s : List ℕ) (at kind : ℕ) → known_in_script kind ≡ true → get_or s at 0 ≡ kind → length s < next_at s at → eqb (fault_at s at) 0 ≡ false
unfolding fault_at
written_cut s at kind known e short =
    ap (λ (fault : ℕ). eqb fault 0) (cond_no _ _ _ (ap not (ap known_in_script e ∙ known)) ∙ cond_yes _ _ _ (lt-ltb (length s) (next_at s at) short))

-- what is written well, and is no stamp or one that did not go back, is refused by no clock; a stamp that went back is refused by 8
module _ (k : Clock) (s : List ℕ) (at : ℕ) (well : fault_at s at ≡ 0) where
  pub well_by_any : is_stamp (event_at s at) ≡ false → fault_by k (event_at s at) ≡ 0
  well_by_any no-stamp = clean-as k (event_at s at) (record { as_written = well; forward = ap (λ (b : Bool). b && went_back k (body_at s at)) no-stamp })

  pub well_forward : went_back k (body_at s at) ≡ false → fault_by k (event_at s at) ≡ 0
  well_forward forward = let g = good_event s at well in fault_none_forward k s at g.known g.inside g.ranged forward

  pub well_back : get_or s at 0 ≡ STAMP → went_back k (body_at s at) ≡ true → fault_by k (event_at s at) ≡ 8
  well_back stamp back = let g = good_event s at well in fault_eight k s at g.known g.inside g.ranged stamp back

-- ---- room

pub room-none : (s : List ℕ) (at : ℕ) → length s ≤ at → room (events_from s at) ≡ 0
unfolding room
room-none s at h = ap room (events-none s at h)

pub room-more : (s : List ℕ) (at : ℕ) → at < length s → room (events_from s at) ≡ room_of (get_or s at 0) + room (events_from s (next_at s at))
unfolding room
room-more s at h = ap room (events-more s at h)

pub exchange-room : (s : List ℕ) (at : ℕ) → get_or s at 0 ≡ EXCHANGE → at < length s → room (events_from s at) ≡ room_of EXCHANGE + room (events_from s (at + 2))
unfolding kind_row kind_row_in
exchange-room s at e h =
    room-more s at h
    ∙ ap (λ (kind : ℕ). room_of kind + room (events_from s (next_at s at))) e
    ∙ ap (λ (next : ℕ). room_of EXCHANGE + room (events_from s next)) (exchange-next s at e)

-- ---- a good event passed

-- what a look through the script finds is found behind an event of a kind that nothing refuses and that is no stamp; its room is the kind's
pub record Passed (k : Clock) (s : List ℕ) (at kind n : ℕ) : Type 0 where
  pub inside : at + n ≤ length s
  pub bad_behind : first_bad k (events_from s at) ≡ first_bad k (events_from s (at + n))
  pub room-behind : room (events_from s at) ≡ room_of kind + room (events_from s (at + n))

pub passed : (k : Clock) (s : List ℕ) (at kind n : ℕ) → at < length s → eqb kind STAMP ≡ false → 1 + body_length kind ≡ n → (eqb (get_or s at 0) kind && eqb (fault_by k (event_at s at)) 0) ≡ true → Passed k s at kind n
passed k s at kind n more other long good =
    let e : get_or s at 0 ≡ kind = eqb-true _ _ (and_left (eqb (get_or s at 0) kind) (eqb (fault_by k (event_at s at)) 0) good) in
    let z : fault_by k (event_at s at) ≡ 0 = eqb-true _ _ (and_right (eqb (get_or s at 0) kind) (eqb (fault_by k (event_at s at)) 0) good) in
    let next : next_at s at ≡ at + n = omega (arith, ap body_length e) in
    let same : clock_after k (event_at s at) ≡ k = clock_stays k (event_at s at) (ap (λ (q : ℕ). eqb q STAMP) e ∙ other) in
    record {
      inside = omega (arith, next, (good_event s at (clean-event k (event_at s at) z).as_written).inside);
      bad_behind = first_bad-later k s at more z ∙ (λ i. first_bad (same i) (events_from s (next i)));
      room-behind = room-more s at more ∙ (λ i. room_of (e i) + room (events_from s (next i)));
    }

-- the same of one that is written well
pub passed_well : (k : Clock) (s : List ℕ) (at kind n : ℕ) → at < length s → eqb kind STAMP ≡ false → 1 + body_length kind ≡ n → (eqb (get_or s at 0) kind && eqb (fault_at s at) 0) ≡ true → Passed k s at kind n
passed_well k s at kind n more other long good =
    let e : get_or s at 0 ≡ kind = eqb-true _ _ (and_left (eqb (get_or s at 0) kind) (eqb (fault_at s at) 0) good) in
    let well : fault_at s at ≡ 0 = eqb-true _ _ (and_right (eqb (get_or s at 0) kind) (eqb (fault_at s at) 0) good) in
    let z : fault_by k (event_at s at) ≡ 0 = well_by_any k s at well (ap (λ (q : ℕ). eqb q STAMP) e ∙ other) in
    passed k s at kind n more other long (λ i. eq-eqb _ _ e i && eq-eqb _ _ z i)

-- ---- records

-- a record is stored when its bytes are put
pub stored-as : {o o' : List ℕ} {p p' : ℕ} {bs : List ℕ} (said : Record) → record_bytes said ≡ bs → Put o p bs p' o' → p + length bs ≤ length o → Stored o p said p' o'
stored-as {o} {o'} {p} {p'} {bs} said is put fit =
    let between = put_between put fit in
    record {
      end = put.end ∙ sym (ap (λ (row : List ℕ). p + length row) is);
      before = between.0 ∙ ap (λ (row : List ℕ). take p o ++ row) (sym is);
      beyond = between.1;
    }

-- and the other way round: what is stored is put
pub stored-put : (o o' : List ℕ) (p p' : ℕ) (said : Record) → Stored o p said p' o' → p + length (record_bytes said) ≤ length o → Put o p (record_bytes said) p' o'
stored-put o o' p p' said st fit =
    record {
      end = st.end;
      buffer =
          sym (take-append-drop p' o')
          ∙ (λ i. st.before i ++ st.beyond i)
          ∙ ap (λ (q : ℕ). take p o ++ record_bytes said ++ drop q o) st.end
          ∙ sym (sets-eq (record_bytes said) o p fit);
    }

-- no bytes, wherever the place is
pub stored-none : (o : List ℕ) (p : ℕ) (said : Record) → record_bytes said ≡ [] → Stored o p said p o
stored-none o p said is =
    record {
      end = sym (ap (λ (row : List ℕ). p + length row) is ∙ add-zero p);
      before = sym (ap (λ (row : List ℕ). take p o ++ row) is ∙ append-nil (take p o));
      beyond = refl;
    }

-- ---- a run

pub runs_none : (T : Setting) (k : Clock) (s : List ℕ) (at : ℕ) (w : World) → length s ≤ at → runs T (timed k (events_from s at)) w ≡ w
unfolding runs
runs_none T k s at w h = ap (λ (es : List Event). runs T es w) (timed-none k s at h)

-- an event that is no stamp is applied, and then the rest
pub runs-more : (T : Setting) (k : Clock) (s : List ℕ) (at : ℕ) (w : World) → at < length s → is_stamp (event_at s at) ≡ false
    → runs T (timed k (events_from s at)) w ≡ runs T (timed k (events_from s (next_at s at))) (onward T (event_at s at) w)
unfolding runs
runs-more T k s at w h no-stamp =
    ap (λ (es : List Event). runs T es w) (timed-more k s at h)
    ∙ ap (λ (es : List Event). runs T (es ++ timed (clock_after k (event_at s at)) (events_from s (next_at s at))) w) (given-itself k (event_at s at) no-stamp)
    ∙ ap (λ (q : Clock). runs T (timed q (events_from s (next_at s at))) (onward T (event_at s at) w)) (clock_stays k (event_at s at) no-stamp)

-- no tick leaves the world as it was
no_ticks : (T : Setting) (w : World) → after w (tick T w.chip w.memory 0) ≡ w
unfolding ticks_core ticks_load ticks_memory worked
no_ticks T w = λ i. world w.chip w.memory (append-nil w.written i) (add-zero w.ticks i)

-- the ticks that a stamp gives, none included, are applied as so many ticks
runs-given : (T : Setting) (e : Event) (n : ℕ) (es : List Event) (w : World) → runs T (ticks_given e n ++ es) w ≡ runs T es (after w (tick T w.chip w.memory n))
unfolding runs applied
runs-given T e zero es w = ap (runs T es) (sym (no_ticks T w))
runs-given T e (suc n) es w = refl

-- a stamp: its ticks, and then the rest with the clock that it sets
pub runs-stamp : (T : Setting) (k : Clock) (s : List ℕ) (at : ℕ) (w : World) → at < length s → is_stamp (event_at s at) ≡ true
    → runs T (timed k (events_from s at)) w
    ≡ runs T (timed (clock_after k (event_at s at)) (events_from s (next_at s at))) (after w (tick T w.chip w.memory (moved_on k (body_at s at))))
runs-stamp T k s at w h stamp =
    let rest : List Event = timed (clock_after k (event_at s at)) (events_from s (next_at s at)) in
    ap (λ (es : List Event). runs T es w) (timed-more k s at h)
    ∙ ap (λ (es : List Event). runs T (es ++ rest) w) (cond_yes (is_stamp (event_at s at)) _ _ stamp)
    ∙ runs-given T (event_at s at) (moved_on k (body_at s at)) rest w

-- running one list of events and then another is running the two together
pub runs-add : (T : Setting) (es fs : List Event) (w : World) → runs T (es ++ fs) w ≡ runs T fs (runs T es w)
unfolding runs
runs-add T [] fs w = refl
runs-add T (e ∷ es) fs w = runs-add T es fs (onward T e w)

-- ---- refusals

-- what refuses has a number
pub number_some : (why : Fault) → number_of why ≡ 0 → ⊥
number_some why = eqb-false _ _ (is_told why)

pub told_some : (e : Refused) (r : Refusal) → told e ≡ r → r.number ≡ 0 → ⊥
told_some e r is z = number_some e.refusal (ap (λ (q : Refusal). q.number) is ∙ z)

module _ (c : Chip) (n extent : ℕ) (s : List ℕ) (space : ℕ) where
  pub refusal_length : permitted n ≡ false → refusal c n extent s space ≡ refusal_of 1 0
  unfolding refusal
  refusal_length p = cond_yes _ _ _ (ap not p)

  module _ (p : permitted n ≡ true) where
    pub refusal_area : longest_area < extent → refusal c n extent s space ≡ refusal_of 13 0
    unfolding refusal
    refusal_area h = cond_no _ _ _ (ap not p) ∙ cond_yes _ _ _ (lt-ltb _ _ h)

    module _ (a : extent ≤ longest_area) where
      pub refusal_state : legal c n ≡ false → refusal c n extent s space ≡ refusal_of 2 0
      unfolding refusal
      refusal_state l = cond_no _ _ _ (ap not p) ∙ cond_no _ _ _ (le-ltb _ _ a) ∙ cond_yes _ _ _ (ap not l)

      module _ (l : legal c n ≡ true) where
        pub refusal_long : 65536 < length s → refusal c n extent s space ≡ refusal_of 3 0
        unfolding refusal
        refusal_long h = cond_no _ _ _ (ap not p) ∙ cond_no _ _ _ (le-ltb _ _ a) ∙ cond_no _ _ _ (ap not l) ∙ cond_yes _ _ _ (lt-ltb _ _ h)

        module _ (short : length s ≤ 65536) where
          pub refusal_bad : ((first_bad unset (events s)).number ≡ 0 → ⊥) → refusal c n extent s space ≡ first_bad unset (events s)
          unfolding refusal
          refusal_bad b =
              cond_no _ _ _ (ap not p) ∙ cond_no _ _ _ (le-ltb _ _ a) ∙ cond_no _ _ _ (ap not l) ∙ cond_no _ _ _ (le-ltb _ _ short) ∙ cond_yes _ _ _ (ap not (ne_eqb _ _ b))

          module _ (clean : (first_bad unset (events s)).number ≡ 0) where
            pub refusal_room : space < room (events s) → refusal c n extent s space ≡ refusal_of 7 0
            unfolding refusal
            refusal_room h =
                cond_no _ _ _ (ap not p) ∙ cond_no _ _ _ (le-ltb _ _ a) ∙ cond_no _ _ _ (ap not l) ∙ cond_no _ _ _ (le-ltb _ _ short) ∙ cond_no _ _ _ (ap not (eq-eqb _ _ clean)) ∙ cond_yes _ _ _ (lt-ltb _ _ h)

            pub refusal_none : room (events s) ≤ space → refusal c n extent s space ≡ refusal_of 0 0
            unfolding refusal
            refusal_none h =
                cond_no _ _ _ (ap not p) ∙ cond_no _ _ _ (le-ltb _ _ a) ∙ cond_no _ _ _ (ap not l) ∙ cond_no _ _ _ (le-ltb _ _ short) ∙ cond_no _ _ _ (ap not (eq-eqb _ _ clean)) ∙ cond_no _ _ _ (le-ltb _ _ h)

-- done means: a permitted length, an area that is not too long, a legal state, and a script that can be played
pub record Accepted (c : Chip) (n extent : ℕ) (s : List ℕ) (space : ℕ) : Type 0 where
  pub length_permitted : permitted n ≡ true
  pub area_short : extent ≤ longest_area
  pub state_legal : legal c n ≡ true
  pub script_playable : Playable s space

pub accepted : (c : Chip) (n extent : ℕ) (s : List ℕ) (space : ℕ) → (refusal c n extent s space).number ≡ 0 → Accepted c n extent s space
unfolding refusal
accepted c n extent s space =
    go (permitted n) (ltb longest_area extent) (legal c n) (ltb 65536 (length s)) (eqb (first_bad unset (events s)).number 0) (ltb space (room (events s))) refl refl refl refl refl refl
  where
    go : (p a l t b r : Bool) → permitted n ≡ p → ltb longest_area extent ≡ a → legal c n ≡ l → ltb 65536 (length s) ≡ t → eqb (first_bad unset (events s)).number 0 ≡ b → ltb space (room (events s)) ≡ r
        → (cond (not p) (refusal_of 1 0) (cond a (refusal_of 13 0) (cond (not l) (refusal_of 2 0) (cond t (refusal_of 3 0) (cond (not b) (first_bad unset (events s)) (cond r (refusal_of 7 0) (refusal_of 0 0))))))).number ≡ 0
        → Accepted c n extent s space
    go true false true false true false pe ae le te be re h =
        record {
          length_permitted = pe;
          area_short = ltb-false _ _ ae;
          state_legal = le;
          script_playable = record { short = ltb-false _ _ te; clean = eqb-true _ _ be; roomy = ltb-false _ _ re };
        }
    go true false true false true true pe ae le te be re h = absurd (omega arith)
    go true false true false false r pe ae le te be re h = absurd (eqb-false _ _ be h)
    go true false true true b r pe ae le te be re h = absurd (omega arith)
    go true false false t b r pe ae le te be re h = absurd (omega arith)
    go true true l t b r pe ae le te be re h = absurd (omega arith)
    go false a l t b r pe ae le te be re h = absurd (omega arith)

-- ---- the answer

module _ (c : Chip) (m area s out : List ℕ) where
  abbrev number : ℕ
  number = (refusal c (length m) (length area) s (length out)).number

  -- the number in the answer is the refusal's
  pub answer_number : (answer_of c m area s out).refusal ≡ number
  unfolding answer_of
  answer_number = chosen_number (λ (a : Ran). a.refusal) number _ _ refl refl

  -- refused: all as it was
  module _ (no : number ≡ 0 → ⊥) where
    pub answer_refused : answer_of c m area s out ≡ refused c (refusal c (length m) (length area) s (length out))
    unfolding answer_of
    answer_refused = cond_no _ _ _ (ne_eqb _ _ no)

    pub memory_refused : memory_of c m area s out ≡ m
    unfolding memory_of
    memory_refused = cond_no _ _ _ (ne_eqb _ _ no)

    pub output_refused : output_of c m area s out ≡ out
    unfolding output_of
    output_refused = cond_no _ _ _ (ne_eqb _ _ no)

  -- done: what the run comes to
  module _ (ok : number ≡ 0) where
    pub answer_done : answer_of c m area s out ≡ done (world_after c m area s)
    unfolding answer_of
    answer_done = cond_yes _ _ _ (eq-eqb _ _ ok)

    pub memory_done : memory_of c m area s out ≡ (world_after c m area s).memory
    unfolding memory_of
    memory_done = cond_yes _ _ _ (eq-eqb _ _ ok)

    pub output_done : output_of c m area s out ≡ (world_after c m area s).written ++ drop (length (world_after c m area s).written) out
    unfolding output_of
    output_done = cond_yes _ _ _ (eq-eqb _ _ ok)

-- what playing comes to is the world after the run
pub world_after-as : (c : Chip) (m area s : List ℕ) (S : ℕ) → S ≡ sectors_in (length m) → runs (setting S area) (played s) (world c m [] 0) ≡ world_after c m area s
unfolding world_after
world_after-as c m area s S e = rw e
