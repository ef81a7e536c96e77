-- Demand 1, of the definitions: which number refuses an event and a run, each exactly when the table of refusals has it, and that nothing has changed then
-- (RULES, Refusals). `Meets1` says it of ours.
use Rattle.std.specs.Prelude.{ℕ, zero, suc, ◌+◌, ◌<◌, ◌≤◌, Bool, true, false, cond, not, ◌&&◌, ◌||◌, List, [], ◌∷◌, ◌++◌, ◌≡◌, ◌↔◌, eqb, ltb, leb, length, get_or}
use Rattle.std.proofs.Common.{zero-le, true≢false, sym, ap, subst, ◌∙◌, arith, eq-eqb, ne_eqb, eqb-true, le-leb, leb-true}
use Rattle.std.proofs.lemmas.Bool.{false≢true, eqb-false, not-true}
use Rattle.std.proofs.Math.Path.{refl}
use Rattle.std.proofs.Math.Logic.Iff
use Rattle.std.proofs.Math.Decide.{ℕ_discrete}
use Rattle.cells.specs.Choice.{cond_yes, cond_no, cond_either, and_left, and_right, and_both, either_false, Decides, decides_not, decides_less, Chain, chain_tests, chain_last, flat_three, flat_four, flat_five}
use Rattle.part.specs.Part.{permitted}
use Rattle.chip.specs.declared.Chip.{Chip}
use Rattle.chip.specs.declared.Record.TheVariants.{Nothing}
use Rattle.legal.specs.Legal.{legal}
use Rattle.kinds.specs.Kinds.{STAMP, kind_row, kind_row_in, known_kind, known_in_script, body_length, in_range}
use Rattle.kinds.specs.Body.{body_at, next_at}
use Rattle.kinds.proofs.Laws.{room_as, script_as, stamp-range}
use Rattle.clock.specs.declared.Clock.{Clock}
use Rattle.clock.specs.Clock.{unset, went_back}
use Rattle.event.specs.Alone as Alone
use Rattle.event.proofs.Laws as EventLaws
use Rattle.script.specs.Script.{Event, fault_at, event_at, Refusal, refusal_of, events, events_from, walk, is_stamp, clock_after, clock_over, timed, fault_by, first_bad, room}
use Rattle.script.specs.Run as Run
use Rattle.script.proofs.Laws as ScriptLaws
use Rattle.demands.specs.Demand1.{RefusedWhen, Sound, AllSound, FirstAt, clock_at, BackAt, room_needed, Heard, RunRefusedWhen}

-- ---- one event alone

-- Which number refuses an event: 1, 13, 2, 5, 6 or none, each exactly when the table of refusals has it.
pub event-refused_when : (c : Chip) (n extent kind body : ℕ) → RefusedWhen (Alone.refusal c n extent kind body) c n extent kind body
unfolding Alone.refusal
event-refused_when c n extent kind body =
    let lines = chain_tests {number = λ (v : ℕ). v} 1 (decides_not (permitted n)) (chain_tests 13 (decides_less 256 extent) (chain_tests 2 (decides_not (legal c n)) (chain_tests 5 (decides_not (known_kind kind)) (chain_last 6 0 (decides_not (in_range kind body)) refl) refl) refl) refl) refl in
    record {
      one = lines.exactly 1;
      thirteen = lines.exactly 13;
      two = Iff.trans (lines.exactly 2) flat_three;
      five = Iff.trans (lines.exactly 5) flat_four;
      six = Iff.trans (lines.exactly 6) flat_five;
      none = Iff.trans (lines.exactly 0) flat_five;
    }

-- A refused event leaves chip and memory as they were, says nothing and works no tick.
pub event-refused_keeps : (c : Chip) (m area : List ℕ) (kind body : ℕ) → (Alone.refusal c (length m) (length area) kind body ≡ 0 → ⊥)
    → (Alone.answer_of c m area kind body ≡ record { chip = c; said = Nothing; refusal = Alone.refusal c (length m) (length area) kind body; ticks = 0 })
    × (Alone.memory_of c m area kind body ≡ m)
    × (Alone.said_of c m area kind body ≡ [])
event-refused_keeps c m area kind body not_done = (EventLaws.answer_refused c m area kind body not_done, EventLaws.memory_refused c m area kind body not_done, EventLaws.said_refused c m area kind body not_done)

-- ---- what is wrong with an event of a script

-- whether the event at an offset is a stamp that went back, where the clock stands so
abbrev is_back : Clock → List ℕ → ℕ → Bool
is_back k s at = is_stamp (event_at s at) && went_back k (body_at s at)

-- the faults, and when each of them is there
abbrev is_fault : ℕ → Bool
is_fault v = eqb 5 v || (eqb 4 v || (eqb 6 v || (eqb 8 v || eqb 0 v)))

abbrev pub FaultWhen : Clock → List ℕ → ℕ → ℕ → Type 0
FaultWhen k s at v =
    cond (eqb 5 v) (known_in_script (get_or s at 0) ≡ false)
    ((known_in_script (get_or s at 0) ≡ true)
    × cond (eqb 4 v) (length s < next_at s at)
    ((next_at s at ≤ length s)
    × cond (eqb 6 v) (in_range (get_or s at 0) (body_at s at) ≡ false)
    ((in_range (get_or s at 0) (body_at s at) ≡ true)
    × cond (eqb 8 v) (is_back k s at ≡ true) (cond (eqb 0 v) (is_back k s at ≡ false) ⊥))))

-- the tests one after the other: those of the event as it is written, and then the clock's
fault_tests : (k : Clock) (s : List ℕ) (at : ℕ)
    → fault_by k (event_at s at)
    ≡ cond (not (known_in_script (get_or s at 0))) 5 (cond (ltb (length s) (next_at s at)) 4 (cond (not (in_range (get_or s at 0) (body_at s at))) 6 (cond (is_back k s at) 8 0)))
unfolding fault_at
fault_tests k s at = go (not (known_in_script (get_or s at 0))) (ltb (length s) (next_at s at)) (not (in_range (get_or s at 0) (body_at s at))) (cond (is_back k s at) 8 0)
  where
    go : (a b c : Bool) (n : ℕ) → cond (eqb (cond a 5 (cond b 4 (cond c 6 0))) 0) n (cond a 5 (cond b 4 (cond c 6 0))) ≡ cond a 5 (cond b 4 (cond c 6 n))
    go true b c n = refl
    go false true c n = refl
    go false false true n = refl
    go false false false n = refl

-- a test decides whether it holds
decides_so : (b : Bool) → Decides b (b ≡ true) (b ≡ false)
decides_so b = record { on_true = λ t. t; on_false = λ f. f; apart = λ t f. true≢false (sym t ∙ f) }

fault_when : (k : Clock) (s : List ℕ) (at : ℕ) → Chain (λ (v : ℕ). v) (fault_by k (event_at s at)) is_fault (FaultWhen k s at)
fault_when k s at =
    subst (λ (n : ℕ). Chain (λ (v : ℕ). v) n is_fault (FaultWhen k s at)) (sym (fault_tests k s at))
    (chain_tests 5 (decides_not (known_in_script (get_or s at 0))) (chain_tests 4 (decides_less (length s) (next_at s at)) (chain_tests 6 (decides_not (in_range (get_or s at 0) (body_at s at))) (chain_last 8 0 (decides_so (is_back k s at)) refl) refl) refl) refl)

-- a kind of a script that is no stamp is a kind of event
pub known_event : (kind : ℕ) → known_in_script kind ≡ true → eqb kind STAMP ≡ false → known_kind kind ≡ true
known_event kind known no-stamp = go (known_kind kind) (sym (ap (λ (b : Bool). known_kind kind || b) no-stamp) ∙ sym (script_as kind) ∙ known)
  where
    go : (b : Bool) → (b || false) ≡ true → b ≡ true
    go true h = refl
    go false h = h

-- each of some events is the script's event at its offset; so it is with the script's own events, and with both parts of a list of such
unfoldable AllAt : List ℕ → List Event → Type 0
AllAt s [] = Unit {0}
AllAt s (e ∷ es) = (e ≡ event_at s e.offset) × AllAt s es

walk_at : (s : List ℕ) (fuel at : ℕ) → AllAt s (walk fuel s at)
unfolding AllAt walk
walk_at s zero at = tt
walk_at s (suc fuel) at = cond_either (AllAt s) (leb (length s) at) [] (event_at s at ∷ walk fuel s (next_at s at)) (λ _. tt) (λ _. (refl, walk_at s fuel (next_at s at)))

events-at : (s : List ℕ) → AllAt s (events s)
unfolding events_from
events-at s = walk_at s (length s) 0

split_at : (s : List ℕ) (es fs : List Event) → AllAt s (es ++ fs) → AllAt s es × AllAt s fs
unfolding AllAt
split_at s [] fs a = (tt, a)
split_at s (e ∷ es) fs a =
    let rest = split_at s es fs a.1 in
    ((a.0, rest.0), rest.1)

-- two facts, each by another
both : {A A' B B' : Type 0} → A ↔ A' → B ↔ B' → (A × B) ↔ (A' × B')
both a b = (λ p. (a.0 p.0, b.0 p.1), λ p. (a.1 p.0, b.1 p.1))

-- an event is no stamp that went back exactly when, as a stamp, it did not
forward_when : (k : Clock) (kind body : ℕ) → ((eqb kind STAMP && went_back k body) ≡ false) ↔ (kind ≡ 0x09 → went_back k body ≡ false)
forward_when k kind body = (λ f is. ap (λ (b : Bool). b && went_back k body) (sym (eq-eqb kind STAMP is)) ∙ f, go (eqb kind STAMP) refl)
  where
    go : (b : Bool) → eqb kind STAMP ≡ b → (kind ≡ 0x09 → went_back k body ≡ false) → (b && went_back k body) ≡ false
    go true is f = f (eqb-true kind STAMP is)
    go false is f = refl

-- such an event has no fault by a clock exactly when it is sound by it
sound_event : (s : List ℕ) (k : Clock) (e : Event) → e ≡ event_at s e.offset → (fault_by k e ≡ 0) ↔ Sound s k e
sound_event s k e is = subst (λ (x : Event). (fault_by k x ≡ 0) ↔ Sound s k x) (sym is) (sound_at e.offset)
  where
    sound_at : (at : ℕ) → (fault_by k (event_at s at) ≡ 0) ↔ Sound s k (event_at s at)
    sound_at at =
        let forward = forward_when k (get_or s at 0) (body_at s at) in
        Iff.trans ((fault_when k s at).exactly 0)
        (λ p. record { known = p.0; whole = p.1.0; ranged = p.1.1.0; forward = forward.0 p.1.1.1 }, λ g. (g.known, (g.whole, (g.ranged, forward.1 g.forward))))

-- none of some events is bad exactly when the first is not and none of the others is, by the clock that the first leaves
clean-more : (k : Clock) (e : Event) (es : List Event) → ((first_bad k (e ∷ es)).number ≡ 0) ↔ ((fault_by k e ≡ 0) × ((first_bad (clock_after k e) es).number ≡ 0))
unfolding first_bad
clean-more k e es = go (eqb (fault_by k e) 0) refl
  where
    go : (b : Bool) → eqb (fault_by k e) 0 ≡ b
        → ((cond b (first_bad (clock_after k e) es) (refusal_of (fault_by k e) e.offset)).number ≡ 0) ↔ ((fault_by k e ≡ 0) × ((first_bad (clock_after k e) es).number ≡ 0))
    go true t = (λ q. (eqb-true (fault_by k e) 0 t, q), λ p. p.1)
    go false f = (λ q. absurd (eqb-false (fault_by k e) 0 f q), λ p. absurd (eqb-false (fault_by k e) 0 f p.0))

-- none of a script's events is bad exactly when all are sound
clean-sound : (s : List ℕ) (k : Clock) (es : List Event) → AllAt s es → ((first_bad k es).number ≡ 0) ↔ AllSound s k es
unfolding first_bad AllAt AllSound
clean-sound s k [] a = (λ _. tt, λ _. refl)
clean-sound s k (e ∷ es) a = Iff.trans (clean-more k e es) (both (sound_event s k e a.0) (clean-sound s (clock_after k e) es a.1))

-- So a script is sound where no event of it is bad.
pub sound_script : (s : List ℕ) → (first_bad unset (events s)).number ≡ 0 → AllSound s unset (events s)
sound_script s = (clean-sound s unset (events s) (events-at s)).0

-- behind good events the first bad one is the same, by the clock that they leave
pub bad_behind : (k : Clock) (es fs : List Event) → (first_bad k es).number ≡ 0 → first_bad k (es ++ fs) ≡ first_bad (clock_over k es) fs
unfolding first_bad clock_over
bad_behind k [] fs h = refl
bad_behind k (e ∷ es) fs h =
    let parts = (clean-more k e es).0 h in
    cond_yes (eqb (fault_by k e) 0) (first_bad (clock_after k e) (es ++ fs)) (refusal_of (fault_by k e) e.offset) (eq-eqb _ _ parts.0) ∙ bad_behind (clock_after k e) es fs parts.1

-- The first bad event decides: every event before it is good, its fault by the clock that they leave is the number, and its offset is given.
pub record FirstBad (k : Clock) (es : List Event) (r : Refusal) : Type 0 where
  pub before : List Event
  pub bad : Event
  pub behind : List Event
  pub in_order : es ≡ before ++ (bad ∷ behind)
  pub before_good : (first_bad k before).number ≡ 0
  pub is_bad : fault_by (clock_over k before) bad ≡ 0 → ⊥
  pub told : r ≡ refusal_of (fault_by (clock_over k before) bad) bad.offset

pub first_bad_decides : (k : Clock) (es : List Event) → ((first_bad k es).number ≡ 0 → ⊥) → FirstBad k es (first_bad k es)
unfolding first_bad clock_over
first_bad_decides k [] h = absurd (h refl)
first_bad_decides k (e ∷ es) h = go (first_bad_decides (clock_after k e) es) (ℕ_discrete (fault_by k e) 0)
  where
    rest : Refusal
    rest = first_bad (clock_after k e) es

    all : Refusal
    all = cond (eqb (fault_by k e) 0) rest (refusal_of (fault_by k e) e.offset)

    go : ((rest.number ≡ 0 → ⊥) → FirstBad (clock_after k e) es rest) → Dec (fault_by k e ≡ 0) → FirstBad k (e ∷ es) all
    go later (no b) = record { before = []; bad = e; behind = es; in_order = refl; before_good = refl; is_bad = b; told = cond_no (eqb (fault_by k e) 0) _ _ (ne_eqb _ _ b) }
    go later (yes g) =
        let skips : all ≡ rest = cond_yes (eqb (fault_by k e) 0) _ _ (eq-eqb _ _ g) in
        let f = later (λ z. h (ap (λ (r : Refusal). r.number) skips ∙ z)) in
        record {
          before = e ∷ f.before;
          bad = f.bad;
          behind = f.behind;
          in_order = ap (λ (x : List Event). e ∷ x) f.in_order;
          before_good = ap (λ (r : Refusal). r.number) (cond_yes (eqb (fault_by k e) 0) (first_bad (clock_after k e) f.before) _ (eq-eqb _ _ g)) ∙ f.before_good;
          is_bad = f.is_bad;
          told = skips ∙ f.told;
        }

-- a fault of the event at an offset, which is the first that can be bad, by the clock that stands there
abbrev BadAt : List ℕ → ℕ → ℕ → Type 0
BadAt s at v = (f : FirstAt s at) × FaultWhen (clock_at f) s at v

-- A script's first bad event is the one at an offset, with a fault, exactly when the events before that one are sound and the fault is there.
pub first_bad_at : (s : List ℕ) (v at : ℕ) → (v ≡ 0 → ⊥) → (first_bad unset (events s) ≡ refusal_of v at) ↔ BadAt s at v
unfolding first_bad AllAt
first_bad_at s v at some = (
  λ e.
      let f = first_bad_decides unset (events s) (λ z. some (ap (λ (r : Refusal). r.number) (sym e) ∙ z)) in
      let k : Clock = clock_over unset f.before in
      let same : refusal_of (fault_by k f.bad) f.bad.offset ≡ refusal_of v at = sym f.told ∙ e in
      let parts = split_at s f.before (f.bad ∷ f.behind) (subst (AllAt s) f.in_order (events-at s)) in
      let is : f.bad ≡ event_at s at = parts.1.0 ∙ ap (λ (r : Refusal). event_at s r.offset) same in (
        record {
          before = f.before;
          behind = f.behind;
          in_order = f.in_order ∙ ap (λ (b : Event). f.before ++ (b ∷ f.behind)) is;
          before_sound = (clean-sound s unset f.before parts.0).0 f.before_good;
        },
        ((fault_when k s at).exactly v).0 (ap (fault_by k) (sym is) ∙ ap (λ (r : Refusal). r.number) same),
      ),
  λ p.
      let f = p.0 in
      let fault : fault_by (clock_at f) (event_at s at) ≡ v = ((fault_when (clock_at f) s at).exactly v).1 p.1 in
      let clean = (clean-sound s unset f.before (split_at s f.before (event_at s at ∷ f.behind) (subst (AllAt s) f.in_order (events-at s))).0).1 f.before_sound in
      ap (first_bad unset) f.in_order
      ∙ bad_behind unset f.before (event_at s at ∷ f.behind) clean
      ∙ cond_no (eqb (fault_by (clock_at f) (event_at s at)) 0) _ _ (ne_eqb _ _ (λ z. some (sym fault ∙ z)))
      ∙ ap (λ (n : ℕ). refusal_of n at) fault,
)

-- its number is a fault's
bad_never : (s : List ℕ) (v : ℕ) → is_fault v ≡ false → (first_bad unset (events s)).number ≡ v → ⊥
bad_never s v f e =
    let some : v ≡ 0 → ⊥ = (λ z. false≢true (sym f ∙ ap is_fault z)) in
    let at : ℕ = (first_bad unset (events s)).offset in
    let bad = (first_bad_at s v at some).0 (ap (λ (n : ℕ). refusal_of n at) e) in
    let faults = fault_when (clock_at bad.0) s at in
    faults.never v f ((faults.exactly v).1 bad.1)

-- 8 is the fault of a whole stamp that went back
back_when : (s : List ℕ) (at : ℕ) → BadAt s at 8 ↔ BackAt s at
unfolding known_in_script kind_row kind_row_in
back_when s at = (
  λ p.
      let is : get_or s at 0 ≡ STAMP = eqb-true _ _ (and_left _ (went_back (clock_at p.0) (body_at s at)) p.1.1.1.1) in
      record {
        first = p.0;
        stamp = is;
        whole = omega (arith, subst (λ (kind : ℕ). at + 1 + body_length kind ≤ length s) is p.1.1.0);
        ranged = leb-true _ _ (sym (stamp-range (body_at s at)) ∙ ap (λ (kind : ℕ). in_range kind (body_at s at)) (sym is) ∙ p.1.1.1.0);
        back = and_right (is_stamp (event_at s at)) _ p.1.1.1.1;
      },
  λ b. (
    b.first,
    (
      ap known_in_script b.stamp,
      (
        subst (λ (kind : ℕ). at + 1 + body_length kind ≤ length s) (sym b.stamp) (omega (arith, b.whole)),
        (ap (λ (kind : ℕ). in_range kind (body_at s at)) b.stamp ∙ stamp-range (body_at s at) ∙ le-leb _ _ b.ranged, and_both (is_stamp (event_at s at)) _ (eq-eqb _ _ b.stamp) b.back),
      ),
    ),
  ),
)

-- the room by the table of kinds is the room by the kinds' numbers
pub room-needed : (es : List Event) → room es ≡ room_needed es
unfolding room room_needed
room-needed [] = refl
room-needed (e ∷ es) =
    ap (λ (n : ℕ). n + room es) (room_as e.kind) ∙ ap (λ (n : ℕ). cond (eqb e.kind 0x02) 2 (cond (eqb e.kind 0x03) 3 0) + n) (room-needed es)

-- ---- a script run

module _ (c : Chip) (n extent : ℕ) (s : List ℕ) (space : ℕ) where
  -- the script's first bad event, and what refuses the run
  abbrev bad : Refusal
  bad = first_bad unset (events s)

  abbrev told : Refusal
  told = Run.refusal c n extent s space

  -- what refuses a script that is heard: the room where no event is bad, and else the first bad event
  abbrev lacking : Refusal
  lacking = cond (ltb space (room (events s))) (refusal_of 7 0) (refusal_of 0 0)

  abbrev rest : Refusal
  rest = cond (not (eqb bad.number 0)) bad lacking

  -- the numbers that are left for it
  abbrev is_rest : ℕ → Bool
  is_rest v = is_fault v || eqb 7 v

  rest_never : (v : ℕ) → is_rest v ≡ false → rest.number ≡ v → ⊥
  rest_never v f =
      let fault : is_fault v ≡ false = ((either_false (is_fault v) (eqb 7 v)).0 f).0 in
      cond_either (λ (r : Refusal). r.number ≡ v → ⊥) (not (eqb bad.number 0)) bad lacking (λ _. bad_never s v fault)
      (λ _. cond_either (λ (r : Refusal). r.number ≡ v → ⊥) (ltb space (room (events s))) (refusal_of 7 0) (refusal_of 0 0)
      (λ _. eqb-false 7 v ((either_false (is_fault v) (eqb 7 v)).0 f).1) (λ _ e. false≢true (sym fault ∙ ap is_fault (sym e))))

  -- a number that is not the bad event's comes where no event is bad
  rest_clean : (v : ℕ) → ((bad.number ≡ 0 → ⊥) → bad.number ≡ v → ⊥) → (rest.number ≡ v) ↔ ((bad.number ≡ 0) × (lacking.number ≡ v))
  rest_clean v other = go (eqb bad.number 0) refl
    where
      go : (b : Bool) → eqb bad.number 0 ≡ b → ((cond (not b) bad lacking).number ≡ v) ↔ ((bad.number ≡ 0) × (lacking.number ≡ v))
      go true t = (λ q. (eqb-true bad.number 0 t, q), λ p. p.1)
      go false f = (λ q. absurd (other (eqb-false bad.number 0 f) q), λ p. absurd (eqb-false bad.number 0 f p.0))

  -- 7 or none, where no event is bad
  lacks : Chain (λ (r : Refusal). r.number) lacking (λ v. eqb 7 v || eqb 0 v) (λ v. cond (eqb 7 v) (space < room (events s)) (cond (eqb 0 v) (room (events s) ≤ space) ⊥))
  lacks = chain_last (refusal_of 7 0) (refusal_of 0 0) (decides_less space (room (events s))) refl

  -- the four numbers before the script's events, and then the rest
  heard_when : Chain (λ (r : Refusal). r.number) told (λ v. eqb 1 v || (eqb 13 v || (eqb 2 v || (eqb 3 v || is_rest v))))
      (λ v. cond (eqb 1 v) (permitted n ≡ false) ((permitted n ≡ true)
      × cond (eqb 13 v) (256 < extent) ((extent ≤ 256)
      × cond (eqb 2 v) (legal c n ≡ false) ((legal c n ≡ true)
      × cond (eqb 3 v) (65536 < length s) ((length s ≤ 65536) × (rest.number ≡ v))))))
  unfolding Run.refusal
  heard_when =
      chain_tests (refusal_of 1 0) (decides_not (permitted n)) (chain_tests (refusal_of 13 0) (decides_less 256 extent) (chain_tests (refusal_of 2 0) (decides_not (legal c n)) (chain_tests (refusal_of 3 0) (decides_less 65536 (length s)) (record { exactly = λ v. (λ e. e, λ e. e); never = rest_never }) refl) refl) refl) refl

  -- past those four
  abbrev HeardAnd : Type 0 → Type 0
  HeardAnd R = (permitted n ≡ true) × ((extent ≤ 256) × ((legal c n ≡ true) × ((length s ≤ 65536) × R)))

  heard : {R : Type 0} → HeardAnd R → Heard c n extent s
  heard p = record { length_permitted = p.0; area_short = p.1.0; state_legal = p.1.1.0; script_short = p.1.1.1.0 }

  -- a number of the run that comes where no event is bad: 7 or none
  when_clean : (v : ℕ) (W : ℕ → Type 0) → (told.number ≡ v) ↔ HeardAnd (rest.number ≡ v) → ((bad.number ≡ 0 → ⊥) → bad.number ≡ v → ⊥) → (lacking.number ≡ v) ↔ W (room (events s))
      → (told.number ≡ v) ↔ (Heard c n extent s × AllSound s unset (events s) × W (room_needed (events s)))
  when_clean v W gate other w =
      let all = Iff.trans (rest_clean v other) (both (clean-sound s unset (events s) (events-at s)) (subst (λ (r : ℕ). (lacking.number ≡ v) ↔ W r) (room-needed (events s)) w)) in
      Iff.trans gate (λ p. (heard p, (all.0 p.1.1.1.1).0, (all.0 p.1.1.1.1).1), λ q. (q.0.length_permitted, (q.0.area_short, (q.0.state_legal, (q.0.script_short, all.1 (q.1, q.2))))))

  -- a script that is heard is refused by its first bad event
  bad_tells : Heard c n extent s → (bad.number ≡ 0 → ⊥) → told ≡ bad
  bad_tells h = ScriptLaws.refusal_bad c n extent s space h.length_permitted h.area_short h.state_legal h.script_short

  -- a number and an offset of the run that are the first bad event's
  when_bad : (v at : ℕ) → (told.number ≡ v) ↔ HeardAnd (rest.number ≡ v) → (v ≡ 0 → ⊥) → (v ≡ 7 → ⊥) → ((told.number ≡ v) × (told.offset ≡ at)) ↔ (Heard c n extent s × BadAt s at v)
  when_bad v at gate some not-room = (
    λ p.
        let h = gate.0 p.0 in
        let unclean : bad.number ≡ 0 → ⊥ =
        (λ z. cond_either (λ (r : Refusal). r.number ≡ v → ⊥) (ltb space (room (events s))) _ _ (λ _ e. not-room (sym e)) (λ _ e. some (sym e)) ((rest_clean v (λ no _. no z)).0 h.1.1.1.1).1) in
        (heard h, (first_bad_at s v at some).0 (sym (bad_tells (heard h) unclean) ∙ (λ i. refusal_of (p.0 i) (p.1 i)))),
    λ q.
        let first : bad ≡ refusal_of v at = (first_bad_at s v at some).1 q.1 in
        let whole : told ≡ refusal_of v at = bad_tells q.0 (λ z. some (ap (λ (r : Refusal). r.number) (sym first) ∙ z)) ∙ first in
        (ap (λ (r : Refusal). r.number) whole, ap (λ (r : Refusal). r.offset) whole),
  )

  -- a number that is no fault has no offset
  no_offset : (told.number ≡ 4 → ⊥) → (told.number ≡ 5 → ⊥) → (told.number ≡ 6 → ⊥) → (told.number ≡ 8 → ⊥) → told.offset ≡ 0
  unfolding Run.refusal
  no_offset =
      cond_either None (not (permitted n)) _ _ (λ _ _ _ _ _. refl)
      (λ _. cond_either None (ltb 256 extent) _ _ (λ _ _ _ _ _. refl)
      (λ _. cond_either None (not (legal c n)) _ _ (λ _ _ _ _ _. refl)
      (λ _. cond_either None (ltb 65536 (length s)) _ _ (λ _ _ _ _ _. refl)
      (λ _. cond_either None (not (eqb bad.number 0)) bad lacking (λ b no-4 no-5 no-6 no-8. absurd (bad_never s bad.number (no_fault b no-4 no-5 no-6 no-8) refl))
      (λ _. cond_either None (ltb space (room (events s))) _ _ (λ _ _ _ _ _. refl) (λ _ _ _ _ _. refl))))))
    where
      None : Refusal → Type 0
      None r = (r.number ≡ 4 → ⊥) → (r.number ≡ 5 → ⊥) → (r.number ≡ 6 → ⊥) → (r.number ≡ 8 → ⊥) → r.offset ≡ 0

      no_fault : not (eqb bad.number 0) ≡ true → (bad.number ≡ 4 → ⊥) → (bad.number ≡ 5 → ⊥) → (bad.number ≡ 6 → ⊥) → (bad.number ≡ 8 → ⊥) → is_fault bad.number ≡ false
      no_fault b no-4 no-5 no-6 no-8 =
          rw (ne_eqb 5 bad.number (λ e. no-5 (sym e)), ne_eqb 4 bad.number (λ e. no-4 (sym e)), ne_eqb 6 bad.number (λ e. no-6 (sym e)), ne_eqb 8 bad.number (λ e. no-8 (sym e)), ne_eqb 0 bad.number (λ e. eqb-false bad.number 0 (not-true _ b) (sym e)))

  -- no other number refuses a run
  pub run_numbers_lem : (eqb 1 told.number || (eqb 13 told.number || (eqb 2 told.number || (eqb 3 told.number || is_rest told.number)))) ≡ true
  run_numbers_lem = go _ refl
    where
      go : (b : Bool) → (eqb 1 told.number || (eqb 13 told.number || (eqb 2 told.number || (eqb 3 told.number || is_rest told.number)))) ≡ b → b ≡ true
      go true e = refl
      go false e = absurd (heard_when.never told.number e refl)

  -- Which number and which offset refuse a run, each exactly when the table of refusals has it.
  pub run_refused_when : RunRefusedWhen told.number told.offset c n extent s space
  run_refused_when =
      record {
        one = heard_when.exactly 1;
        thirteen = heard_when.exactly 13;
        two = Iff.trans (heard_when.exactly 2) flat_three;
        three = Iff.trans (heard_when.exactly 3) flat_four;
        five = λ at. Iff.trans (when_bad 5 at (heard_when.exactly 5) (λ z. omega arith) (λ z. omega arith)) flat_three;
        four = λ at. Iff.trans (when_bad 4 at (heard_when.exactly 4) (λ z. omega arith) (λ z. omega arith)) flat_four;
        six = λ at. Iff.trans (when_bad 6 at (heard_when.exactly 6) (λ z. omega arith) (λ z. omega arith)) flat_five;
        eight = λ at. Iff.trans (when_bad 8 at (heard_when.exactly 8) (λ z. omega arith) (λ z. omega arith)) (both (λ h. h, λ h. h) (back_when s at));
        seven = when_clean 7 (λ r. space < r) (heard_when.exactly 7) (λ _. bad_never s 7 refl) (lacks.exactly 7);
        none = when_clean 0 (λ r. r ≤ space) (heard_when.exactly 0) (λ some z. some z) (lacks.exactly 0);
        no_offset = no_offset;
      }

-- A refused run leaves chip, memory and output as they were, with both numbers 0.
pub run_refused_keeps : (c : Chip) (m area s out : List ℕ) → ((Run.refusal c (length m) (length area) s (length out)).number ≡ 0 → ⊥)
    → (Run.answer_of c m area s out ≡ Run.refused c (Run.refusal c (length m) (length area) s (length out)))
    × (Run.memory_of c m area s out ≡ m)
    × (Run.output_of c m area s out ≡ out)
run_refused_keeps c m area s out not_done = (ScriptLaws.answer_refused c m area s out not_done, ScriptLaws.memory_refused c m area s out not_done, ScriptLaws.output_refused c m area s out not_done)

-- An empty script is done and changes nothing, on every legal state of a permitted length, with any area that is not too long.
pub empty_script : (c : Chip) (m area out : List ℕ) → permitted (length m) ≡ true → length area ≤ 256 → legal c (length m) ≡ true
    → (Run.answer_of c m area [] out ≡ record { chip = c; refusal = 0; offset = 0; written = 0; ticks = 0 })
    × (Run.memory_of c m area [] out ≡ m)
    × (Run.output_of c m area [] out ≡ out)
unfolding Run.world_after Run.runs timed events_from walk first_bad room
empty_script c m area out p a l =
    let ok : (Run.refusal c (length m) (length area) [] (length out)).number ≡ 0 =
    ap (λ (r : Refusal). r.number) (ScriptLaws.refusal_none c (length m) (length area) [] (length out) p a l (omega arith) refl zero-le) in
    (ScriptLaws.answer_done c m area [] out ok, ScriptLaws.memory_done c m area [] out ok, ScriptLaws.output_done c m area [] out ok)
