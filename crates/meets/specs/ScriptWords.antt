-- The words for scripts mean what the rule book's numbers say: the kinds, their bodies and ranges, the events of a script, and its stamps (RULES, Events; Stamps).
use Rattle.std.specs.Prelude.{ℕ, zero, suc, ◌+◌, ◌%◌, ◌-◌, ◌≤◌, Bool, true, cond, ◌&&◌, ◌≡◌, refl, ◌↔◌, List, [], ◌∷◌, ◌++◌, leb, get_or}
use Rattle.std.proofs.Common.{zero-le, sym, ap, ◌∙◌, add_comm, arith, eq-eqb, ne_eqb, le-leb, leb-true}
use Rattle.std.proofs.lemmas.Bool.{false≢true, lt-leb}
use Rattle.cells.specs.Choice.{cond_yes, and_left, and_right, and_both}
use Rattle.kinds.specs.Kinds.{known_in_script, kind_row_in, known_kind, kind_row, body_length}
use Rattle.kinds.specs.Body.{number_at, body_at}
use Rattle.kinds.proofs.Laws.{kind_each, not-kind, none_known, none_in_script, body_one, body_two}
use Rattle.clock.specs.declared.Clock.{Clock}
use Rattle.clock.specs.Clock.{unset, shows, moved_on, went_back}
use Rattle.clock.specs.Laws.{moved_as, first_stamp}
use Rattle.script.specs.Script.{Event, is_stamp, clock_over, ticks_given, timed}
use Rattle.script.proofs.Laws.{events-none, events-more, clock_stays}
use Rattle.demands.specs.Demand2.{among}
use Rattle.demands.specs.Scripts.{KindsInNumbers, EventsInNumbers, StampsInNumbers}

-- a body between two numbers, by the two tests
between : (least most body : ℕ) → ((leb least body && leb body most) ≡ true) ↔ ((least ≤ body) × (body ≤ most))
between least most body = (
  λ h. (leb-true least body (and_left (leb least body) (leb body most) h), leb-true body most (and_right (leb least body) (leb body most) h)),
  λ p. and_both (leb least body) (leb body most) (le-leb least body p.0) (le-leb body most p.1),
)

-- from 0 the first test says nothing
upto : (most body : ℕ) → ((leb 0 body && leb body most) ≡ true) ↔ (body ≤ most)
upto most body = (λ h. ((between 0 most body).0 h).1, λ p. (between 0 most body).1 (zero-le, p))

-- the kinds of events are these seven, and those of a script these and 09h
known_among : (kind : ℕ) → known_kind kind ≡ among (1 ∷ 2 ∷ 3 ∷ 4 ∷ 5 ∷ 6 ∷ 7 ∷ []) kind
unfolding known_kind kind_row kind_row_in
known_among =
    kind_each (λ kind. known_kind kind ≡ among (1 ∷ 2 ∷ 3 ∷ 4 ∷ 5 ∷ 6 ∷ 7 ∷ []) kind) refl refl refl refl refl refl refl refl
    (λ kind none. let no = not-kind kind (none_known none) in none_known none ∙ sym (rw (no 1 refl, no 2 refl, no 3 refl, no 4 refl, no 5 refl, no 6 refl, no 7 refl)))

script_among : (kind : ℕ) → known_in_script kind ≡ among (1 ∷ 2 ∷ 3 ∷ 4 ∷ 5 ∷ 6 ∷ 7 ∷ 9 ∷ []) kind
unfolding known_kind known_in_script kind_row kind_row_in
script_among =
    kind_each (λ kind. known_in_script kind ≡ among (1 ∷ 2 ∷ 3 ∷ 4 ∷ 5 ∷ 6 ∷ 7 ∷ 9 ∷ []) kind) refl refl refl refl refl refl refl refl
    (λ kind none.
    let no = not-kind kind (none_known none) in
    let no_9 = ne_eqb kind 9 (λ e. false≢true (sym (none_in_script none) ∙ ap known_in_script e)) in
    none_in_script none ∙ sym (rw (no 1 refl, no 2 refl, no 3 refl, no 4 refl, no 5 refl, no 6 refl, no 7 refl, no_9)))

-- The kinds, their bodies and ranges are those of the rule book.
pub kinds_in_numbers : KindsInNumbers
unfolding known_kind known_in_script kind_row kind_row_in
kinds_in_numbers =
    record {
      known = known_among;
      known_in_script_lem = script_among;
      length_01 = refl;
      length_02 = refl;
      length_03 = refl;
      length_04 = refl;
      length_05 = refl;
      length_06 = refl;
      length_07 = refl;
      length_09 = refl;
      range_02 = upto 255;
      range_03 = upto 7;
      range_05 = between 1 65535;
      range_06 = upto 1;
      range_09 = upto 65535;
      any_01 = λ body. refl;
      any_04 = λ body. refl;
      any_07 = λ body. refl;
    }

-- a body of no byte counts 0
body_nothing : (s : List ℕ) (at : ℕ) → body_length (get_or s at 0) ≡ 0 → body_at s at ≡ 0
body_nothing s at e = ap (number_at s (at + 1)) e

-- The events of a script follow one another as the rule book has it.
pub events-in_numbers : EventsInNumbers
events-in_numbers =
    record {
      body_none = body_nothing;
      body_one = body_one;
      body_two = body_two;
      its_offset = λ s at. refl;
      its_kind = λ s at. refl;
      its_body = λ s at. refl;
      first = λ s. refl;
      next = events-more;
      none = events-none;
    }

-- ---- stamps

-- a stamp n ticks after the last, with the roll-over, moved on by n
moved_by : (last n : ℕ) → last ≤ 65535 → n ≤ 65535 → moved_on (shows last) ((last + n) % 65536) ≡ n
unfolding moved_on
moved_by last n l few = sym (moved_as n last ((last + n) % 65536) (omega arith) (omega arith) (ap (λ (sum : ℕ). sum % 65536) (add_comm n last)))

-- an equal one did not move on
moved_none : (last : ℕ) → moved_on (shows last) last ≡ 0
unfolding moved_on
moved_none last = let all : last + 65536 - last ≡ 65536 = omega arith in ap (λ (sum : ℕ). sum % 65536) all

-- a stamp gives its ticks and sets the clock
timed-stamp : (k : Clock) (e : Event) (es : List Event) → e.kind ≡ 0x09 → timed k (e ∷ es) ≡ ticks_given e (moved_on k e.body) ++ timed (shows e.body) es
unfolding timed
timed-stamp k e es is = ap (λ (b : Bool). cond b (ticks_given e (moved_on k e.body)) (e ∷ []) ++ timed (cond b (shows e.body) k) es) (eq-eqb _ _ is)

-- some ticks are one event
given-some : (e : Event) (n : ℕ) → 1 ≤ n → ticks_given e n ≡ record { offset = e.offset; kind = 0x05; body = n; fault = 0 } ∷ []
given-some e zero some = absurd (omega arith)
given-some e (suc n) some = refl

-- what a run applies for a stamp that n ticks lie before
gives : (k : Clock) (n : ℕ) (e : Event) (es : List Event) → e.kind ≡ 0x09 → moved_on k e.body ≡ n → timed k (e ∷ es) ≡ ticks_given e n ++ timed (shows e.body) es
gives k n e es is moved = timed-stamp k e es is ∙ ap (λ (m : ℕ). ticks_given e m ++ timed (shows e.body) es) moved

-- Stamps are read as the rule book has it.
pub stamps_in_numbers : StampsInNumbers
unfolding clock_over timed went_back
stamps_in_numbers =
    record {
      unset_is = refl;
      shows_is = λ stamp. refl;
      stamp_sets = λ k e is. cond_yes (is_stamp e) _ _ (eq-eqb _ _ is);
      others_leave = λ k e other. clock_stays k e (ne_eqb _ _ other);
      over_none = λ k. refl;
      over_more = λ k e es. refl;
      first_good = λ body. ap (leb 32768) (first_stamp unset body refl);
      later_good = λ last n l few. ap (leb 32768) (moved_by last n l (omega arith)) ∙ lt-leb 32768 n (omega arith);
      later_back = λ last n l many few. ap (leb 32768) (moved_by last n l few) ∙ le-leb _ _ many;
      first_gives = λ e es is. gives unset 0 e es is (first_stamp unset e.body refl);
      equal_gives = λ last e es l is same.
          gives (shows last) 0 e es is (ap (moved_on (shows last)) same ∙ moved_none last) ∙ ap (λ (stamp : ℕ). timed (shows stamp) es) same;
      later_gives = λ last n e es l some few is same.
          gives (shows last) n e es is (ap (moved_on (shows last)) same ∙ moved_by last n l few) ∙ ap (λ (fs : List Event). fs ++ timed (shows e.body) es) (given-some e n some);
      others_same = λ k e es other. ap (λ (b : Bool). cond b (ticks_given e (moved_on k e.body)) (e ∷ []) ++ timed (cond b (shows e.body) k) es) (ne_eqb _ _ other);
      none = λ k. refl;
    }
