-- What is true of the kinds: the table kind by kind, and an event's bytes in a script.
use Rattle.std.specs.Prelude.{ℕ, ◌+◌, ◌*◌, ◌<◌, ◌≤◌, cond, ◌||◌, Bool, true, false, ◌&&◌, List, Result, Ok, Err, ◌≡◌, refl, ◌⊎◌, eqb, ltb, leb, length, get_or}
use Rattle.std.proofs.Common.{zero-le, sym, ap, subst, ◌∙◌, inl, inr, add-zero, arith, ne_eqb, lt-ltb, le-leb, leb-true}
use Rattle.std.proofs.lemmas.Bool.{false≢true}
use Rattle.std.proofs.Math.Decide.{ℕ_discrete}
use Rattle.std.proofs.Math.ListN.{get_or-eq_default}
use Rattle.cells.specs.Choice.{cond_yes, and_right}
use Rattle.kinds.specs.Kinds.{SELECT, EXCHANGE, DESELECT, TICK, TICKS, WP, POWER, STAMP, Says, Where, KindRow, row, kind_row_in, known_kind, known_in_script, kind_row, is_said, is_anywhere, is_somewhere, body_length, in_range, says_of, yields, room_of}
use Rattle.kinds.specs.declared.Kind.{Kind}
use Rattle.kinds.specs.declared.Kind.TheVariants.{Select, Exchange, Deselect, Tick, Ticks, Wp, Power, Stamp}
use Rattle.kinds.specs.declared.UnknownKind.{UnknownKind}
use Rattle.kinds.specs.Number.{number_of, Numbered}
use Rattle.kinds.specs.Body.{number_at, body_at, next_at, step_to}

-- ---- kind by kind

-- a number that is no kind has the row that the table gives to no kind
abbrev pub NoKind : ℕ → Type 0
NoKind kind = kind_row kind ≡ row kind 0 0 0 Says.silent 0 Where.nowhere

-- what cannot be applied alone is none of the kinds of events
pub not-kind : (kind : ℕ) → known_kind kind ≡ false → (known : ℕ) → known_kind known ≡ true → eqb kind known ≡ false
not-kind kind none known is = ne_eqb kind known (λ e. false≢true (sym none ∙ ap known_kind e ∙ is))

-- what holds of each kind, and of what is none, holds of every number
pub kind_each : (P : ℕ → Type 0) → P SELECT → P EXCHANGE → P DESELECT → P TICK → P TICKS → P WP → P POWER → P STAMP → ((kind : ℕ) → NoKind kind → P kind) → (kind : ℕ) → P kind
unfolding kind_row kind_row_in
kind_each P p₁ p₂ p₃ p₄ p₅ p₆ p₇ p₈ other kind =
    at SELECT p₁ (λ n₁. at EXCHANGE p₂ (λ n₂. at DESELECT p₃ (λ n₃. at TICK p₄ (λ n₄. at TICKS p₅ (λ n₅. at WP p₆ (λ n₆. at POWER p₇ (λ n₇. at STAMP p₈ (λ n₈.
    other kind (rw (ne_eqb _ _ n₁, ne_eqb _ _ n₂, ne_eqb _ _ n₃, ne_eqb _ _ n₄, ne_eqb _ _ n₅, ne_eqb _ _ n₆, ne_eqb _ _ n₇, ne_eqb _ _ n₈))))))))))
  where
    at : (i : ℕ) → P i → ((kind ≡ i → ⊥) → P kind) → P kind
    at i p rest = pick (ℕ_discrete kind i)
      where
        pick : Dec (kind ≡ i) → P kind
        pick (yes e) = subst P (sym e) p
        pick (no n) = rest n

-- what is no kind is known nowhere
pub none_known : {kind : ℕ} → NoKind kind → known_kind kind ≡ false
unfolding known_kind
none_known none = ap (λ (r : KindRow). is_anywhere r.place) none

pub none_in_script : {kind : ℕ} → NoKind kind → known_in_script kind ≡ false
unfolding known_in_script
none_in_script none = ap (λ (r : KindRow). is_somewhere r.place) none

-- a kind of a script is a kind of event, or the stamp
pub script_as : (kind : ℕ) → known_in_script kind ≡ (known_kind kind || eqb kind STAMP)
unfolding known_kind known_in_script kind_row kind_row_in
script_as =
    kind_each (λ kind. known_in_script kind ≡ (known_kind kind || eqb kind STAMP)) refl refl refl refl refl refl refl refl
    (λ kind none. none_in_script none ∙ sym (rw (none_known none, ne_eqb kind STAMP (λ e. false≢true (sym (none_in_script none) ∙ ap known_in_script e)))))

-- a number that is none of the seven kinds of events is known as none
pub not-event : (kind : ℕ) → (kind ≡ SELECT → ⊥) → (kind ≡ EXCHANGE → ⊥) → (kind ≡ DESELECT → ⊥) → (kind ≡ TICK → ⊥) → (kind ≡ TICKS → ⊥) → (kind ≡ WP → ⊥) → (kind ≡ POWER → ⊥) → known_kind kind ≡ false
unfolding known_kind kind_row kind_row_in
not-event =
    kind_each (λ kind. (kind ≡ SELECT → ⊥) → (kind ≡ EXCHANGE → ⊥) → (kind ≡ DESELECT → ⊥) → (kind ≡ TICK → ⊥) → (kind ≡ TICKS → ⊥) → (kind ≡ WP → ⊥) → (kind ≡ POWER → ⊥) → known_kind kind ≡ false)
    (λ n _ _ _ _ _ _. absurd (n refl)) (λ _ n _ _ _ _ _. absurd (n refl)) (λ _ _ n _ _ _ _. absurd (n refl)) (λ _ _ _ n _ _ _. absurd (n refl)) (λ _ _ _ _ n _ _. absurd (n refl)) (λ _ _ _ _ _ n _. absurd (n refl)) (λ _ _ _ _ _ _ n. absurd (n refl))
    (λ _ _ _ _ _ _ _. refl)
    (λ kind none _ _ _ _ _ _ _. none_known none)

-- a number of the table is known, and one that is known nowhere has the row of no kind
pub number_known : (kind : Kind) → known_in_script (number_of kind) ≡ true
unfolding known_in_script kind_row kind_row_in
number_known Select = refl
number_known Exchange = refl
number_known Deselect = refl
number_known Tick = refl
number_known Ticks = refl
number_known Wp = refl
number_known Power = refl
number_known Stamp = refl

-- the kind of a number, for a number that a kind has
pub kind_by : ℕ → Kind
kind_by n =
    (cond (eqb n SELECT) Select
    (cond (eqb n EXCHANGE) Exchange
    (cond (eqb n DESELECT) Deselect
    (cond (eqb n TICK) Tick
    (cond (eqb n TICKS) Ticks
    (cond (eqb n WP) Wp
    (cond (eqb n POWER) Power
    Stamp)))))))

-- a kind's number tells which it is
pub by_number : (kind : Kind) → kind_by (number_of kind) ≡ kind
unfolding kind_by
by_number Select = refl
by_number Exchange = refl
by_number Deselect = refl
by_number Tick = refl
by_number Ticks = refl
by_number Wp = refl
by_number Power = refl
by_number Stamp = refl

-- a number gives one kind, or none: any two answers that the contract of `try_from` allows are equal
pub numbered_one : (number : ℕ) (r r' : Result Kind UnknownKind) → Numbered number r → Numbered number r' → r ≡ r'
numbered_one number (Ok a) (Ok b) p q = ap Ok (sym (by_number a) ∙ ap kind_by (p ∙ sym q) ∙ by_number b)
numbered_one number (Ok a) (Err _) p q = absurd (false≢true (sym q ∙ ap known_in_script (sym p) ∙ number_known a))
numbered_one number (Err _) (Ok b) p q = absurd (false≢true (sym p ∙ ap known_in_script (sym q) ∙ number_known b))
numbered_one number (Err _) (Err _) p q = refl

pub unknown_row : (kind : ℕ) → known_in_script kind ≡ false → kind_row kind ≡ row kind 0 0 0 Says.silent 0 Where.nowhere
unfolding known_in_script kind_row kind_row_in
unknown_row =
    kind_each (λ kind. known_in_script kind ≡ false → kind_row kind ≡ row kind 0 0 0 Says.silent 0 Where.nowhere)
    (λ h. absurd (false≢true (sym h))) (λ h. absurd (false≢true (sym h))) (λ h. absurd (false≢true (sym h))) (λ h. absurd (false≢true (sym h)))
    (λ h. absurd (false≢true (sym h))) (λ h. absurd (false≢true (sym h))) (λ h. absurd (false≢true (sym h))) (λ h. absurd (false≢true (sym h)))
    (λ kind none _. none)

-- a number that is none of the eight kinds is known nowhere
pub not_script : (kind : ℕ) → (kind ≡ SELECT → ⊥) → (kind ≡ EXCHANGE → ⊥) → (kind ≡ DESELECT → ⊥) → (kind ≡ TICK → ⊥) → (kind ≡ TICKS → ⊥) → (kind ≡ WP → ⊥) → (kind ≡ POWER → ⊥) → (kind ≡ STAMP → ⊥) → known_in_script kind ≡ false
not_script =
    kind_each (λ kind. (kind ≡ SELECT → ⊥) → (kind ≡ EXCHANGE → ⊥) → (kind ≡ DESELECT → ⊥) → (kind ≡ TICK → ⊥) → (kind ≡ TICKS → ⊥) → (kind ≡ WP → ⊥) → (kind ≡ POWER → ⊥) → (kind ≡ STAMP → ⊥) → known_in_script kind ≡ false)
    (λ n _ _ _ _ _ _ _. absurd (n refl)) (λ _ n _ _ _ _ _ _. absurd (n refl)) (λ _ _ n _ _ _ _ _. absurd (n refl)) (λ _ _ _ n _ _ _ _. absurd (n refl))
    (λ _ _ _ _ n _ _ _. absurd (n refl)) (λ _ _ _ _ _ n _ _. absurd (n refl)) (λ _ _ _ _ _ _ n _. absurd (n refl)) (λ _ _ _ _ _ _ _ n. absurd (n refl))
    (λ kind none _ _ _ _ _ _ _ _. none_in_script none)

-- what cannot be applied alone says nothing, and is given no room
pub unknown_silent : (kind : ℕ) → known_kind kind ≡ false → says_of kind ≡ Says.silent
unfolding known_kind kind_row kind_row_in
unknown_silent =
    kind_each (λ kind. known_kind kind ≡ false → says_of kind ≡ Says.silent)
    (λ h. absurd (false≢true (sym h))) (λ h. absurd (false≢true (sym h))) (λ h. absurd (false≢true (sym h))) (λ _. refl) (λ _. refl) (λ _. refl) (λ _. refl) (λ _. refl)
    (λ kind none _. ap (λ (r : KindRow). r.says) none)

-- a number that is none of the five kinds with a body has none
pub no_body : (kind : ℕ) → (kind ≡ EXCHANGE → ⊥) → (kind ≡ DESELECT → ⊥) → (kind ≡ TICKS → ⊥) → (kind ≡ WP → ⊥) → (kind ≡ STAMP → ⊥) → body_length kind ≡ 0
unfolding kind_row kind_row_in
no_body =
    kind_each (λ kind. (kind ≡ EXCHANGE → ⊥) → (kind ≡ DESELECT → ⊥) → (kind ≡ TICKS → ⊥) → (kind ≡ WP → ⊥) → (kind ≡ STAMP → ⊥) → body_length kind ≡ 0)
    (λ _ _ _ _ _. refl) (λ n _ _ _ _. absurd (n refl)) (λ _ n _ _ _. absurd (n refl)) (λ _ _ _ _ _. refl) (λ _ _ n _ _. absurd (n refl)) (λ _ _ _ n _. absurd (n refl)) (λ _ _ _ _ _. refl)
    (λ _ _ _ _ n. absurd (n refl))
    (λ kind none _ _ _ _ _. ap (λ (r : KindRow). r.body) none)

-- whether a kind yields a record, as one test
pub yields-as : (kind : ℕ) → yields kind ≡ (eqb kind EXCHANGE || eqb kind DESELECT)
unfolding known_kind kind_row kind_row_in
yields-as =
    kind_each (λ kind. yields kind ≡ (eqb kind EXCHANGE || eqb kind DESELECT)) refl refl refl refl refl refl refl refl
    (λ kind none. ap (λ (r : KindRow). is_said r.says) none ∙ sym (rw (not-kind kind (none_known none) EXCHANGE refl, not-kind kind (none_known none) DESELECT refl)))

-- and its room by two tests: two bytes for an exchange, three for a deselect, whatever its body
pub room_as : (kind : ℕ) → room_of kind ≡ cond (eqb kind EXCHANGE) 2 (cond (eqb kind DESELECT) 3 0)
unfolding known_kind kind_row kind_row_in
room_as =
    kind_each (λ kind. room_of kind ≡ cond (eqb kind EXCHANGE) 2 (cond (eqb kind DESELECT) 3 0)) refl refl refl refl refl refl refl refl
    (λ kind none. ap (λ (r : KindRow). r.room) none ∙ sym (rw (not-kind kind (none_known none) EXCHANGE refl, not-kind kind (none_known none) DESELECT refl)))

-- a body in its range fits two bytes
pub range_small : (kind body : ℕ) → in_range kind body ≡ true → (body_length kind ≡ 0) ⊎ (body ≤ 65535)
unfolding kind_row kind_row_in
range_small kind body =
    kind_each (λ kind. in_range kind body ≡ true → (body_length kind ≡ 0) ⊎ (body ≤ 65535))
    (λ _. inl refl) (λ h. inr (upto 255 (leb 0 body) h (omega arith))) (λ h. inr (upto 7 (leb 0 body) h (omega arith))) (λ _. inl refl) (λ h. inr (upto 65535 (leb 1 body) h (omega arith)))
    (λ h. inr (upto 1 (leb 0 body) h (omega arith))) (λ _. inl refl) (λ h. inr (upto 65535 (leb 0 body) h (omega arith)))
    (λ kind none _. inl (ap (λ (r : KindRow). r.body) none)) kind
  where
    upto : (most : ℕ) (least : Bool) → (least && leb body most) ≡ true → most ≤ 65535 → body ≤ 65535
    upto most least h l = omega (arith, leb-true body most (and_right least (leb body most) h))

-- a range from 0 on has one end: a byte for an exchange, fewer bits than a byte for a deselect, two levels for WP, two bytes for a stamp
pub exchange-range : (body : ℕ) → in_range EXCHANGE body ≡ leb body 255
unfolding kind_row kind_row_in
exchange-range body = rw (le-leb 0 body zero-le)

pub deselect-range : (body : ℕ) → in_range DESELECT body ≡ leb body 7
unfolding kind_row kind_row_in
deselect-range body = rw (le-leb 0 body zero-le)

pub wp_range : (body : ℕ) → in_range WP body ≡ leb body 1
unfolding kind_row kind_row_in
wp_range body = rw (le-leb 0 body zero-le)

pub stamp-range : (body : ℕ) → in_range STAMP body ≡ leb body 65535
unfolding kind_row kind_row_in
stamp-range body = rw (le-leb 0 body zero-le)

-- ---- an event's bytes

-- a body of one byte, and one of two
pub body_one : (s : List ℕ) (at : ℕ) → body_length (get_or s at 0) ≡ 1 → body_at s at ≡ get_or s (at + 1) 0
body_one s at e = ap (number_at s (at + 1)) e ∙ rw add-zero (omega arith)

pub body_two : (s : List ℕ) (at : ℕ) → body_length (get_or s at 0) ≡ 2 → body_at s at ≡ get_or s (at + 1) 0 * 256 + get_or s (at + 2) 0
body_two s at e =
    let next : at + 1 + 1 ≡ at + 2 = omega arith in
    ap (number_at s (at + 1)) e ∙ rw (add-zero, next) (omega arith)

-- inside a script the next event starts behind the body
pub step_inside : (s : List ℕ) (at : ℕ) → at < length s → step_to s at ≡ next_at s at
step_inside s at h = cond_yes (ltb at (length s)) _ _ (lt-ltb _ _ h)

-- past its end there is no body
pub body_past : (s : List ℕ) (at : ℕ) → length s ≤ at → body_at s at ≡ 0
unfolding kind_row kind_row_in
body_past s at h = ap (λ (k : ℕ). number_at s (at + 1) (body_length k)) (get_or-eq_default s 0 h)
