-- What is true of exchanges in a row: one by one, where each stands, and that a row can be cut anywhere.
use Rattle.std.specs.Prelude.{ℕ, zero, suc, ◌+◌, ◌*◌, ◌<◌, ◌≤◌, ◌%◌, Bool, true, false, cond, ◌&&◌, List, ◌≡◌, refl, eqb, ltb, leb, length, get_or}
use Rattle.std.proofs.Common.{sym, ap, ◌∙◌, add-zero, zero-add, arith, eqb-true, eq-eqb, ltb-true, lt-ltb, leb-true, leb-false, le-leb}
use Rattle.std.specs.Int.Bits.{bit_and, bit_or, bit_xor, or_add_and, xor_add_and}
use Rattle.std.proofs.lemmas.Nat.{or_mod, xor_mod, and_le_l, and_le_r}
use Rattle.std.proofs.lemmas.Bool.{lt-leb}
use Rattle.cells.specs.Choice.{cond_yes, cond_no, cond_either, and_left, and_right, and_both, and_true}
use Rattle.kinds.specs.Kinds.{EXCHANGE}
use Rattle.kinds.specs.Row.{is_exchange, row, exchanges_from}

-- ---- fuel

-- past the end none stands, whatever the fuel
none_past : (fuel : ℕ) (s : List ℕ) (at : ℕ) → length s ≤ at → row fuel s at ≡ 0
unfolding row
none_past zero s at h = refl
none_past (suc fuel) s at h = cond_either (λ n. n ≡ 0) (is_exchange s at) _ 0 (λ e. absurd (past (ltb-true _ _ (and_right (eqb (get_or s at 0) EXCHANGE) _ e)))) (λ _. refl)
  where
    past : at + 1 < length s → ⊥
    past l = omega arith

-- fuel beyond the end changes nothing
row-enough : (f g : ℕ) (s : List ℕ) (at : ℕ) → length s ≤ at + f → length s ≤ at + g → row f s at ≡ row g s at
unfolding row
row-enough zero g s at p q = sym (none_past g s at (omega arith))
row-enough (suc f) zero s at p q = none_past (suc f) s at (omega arith)
row-enough (suc f) (suc g) s at p q = ap (λ (n : ℕ). cond (is_exchange s at) (suc n) 0) (row-enough f g s (at + 2) (omega arith) (omega arith))

-- ---- one by one

-- past the end of a script there is no row
pub row-past : (s : List ℕ) (at : ℕ) → length s ≤ at → exchanges_from s at ≡ 0
unfolding exchanges_from
row-past s at h = none_past (length s) s at h

-- the exchange at an offset, and those behind it
row_here : (s : List ℕ) (at : ℕ) → exchanges_from s at ≡ cond (is_exchange s at) (suc (exchanges_from s (at + 2))) 0
unfolding exchanges_from row
row_here s at = row-enough (length s) (suc (length s)) s at (omega arith) (omega arith)

-- a whole exchange counts, and those behind it
pub row_more : (s : List ℕ) (at : ℕ) → is_exchange s at ≡ true → exchanges_from s at ≡ exchanges_from s (at + 2) + 1
row_more s at e =
    let here = row_here s at ∙ cond_yes (is_exchange s at) _ _ e in
    omega (arith, here)

-- at anything else the row ends
pub row_ends : (s : List ℕ) (at : ℕ) → is_exchange s at ≡ false → exchanges_from s at ≡ 0
row_ends s at e = row_here s at ∙ cond_no (is_exchange s at) _ _ e

-- where some stand in a row, one stands at the front
row_first : (s : List ℕ) (at : ℕ) → 0 < exchanges_from s at → is_exchange s at ≡ true
row_first s at h = pick (is_exchange s at) refl
  where
    pick : (b : Bool) → is_exchange s at ≡ b → b ≡ true
    pick true e = refl
    pick false e = absurd (none (row_ends s at e))
      where
        none : exchanges_from s at ≡ 0 → ⊥
        none z = omega arith

-- ---- a row cut anywhere

-- a first part of a row, and the row behind it
pub row-part : (s : List ℕ) (at j : ℕ) → j ≤ exchanges_from s at → exchanges_from s at ≡ j + exchanges_from s (at + 2 * j)
row-part s at zero h = sym (zero-add _ ∙ ap (exchanges_from s) (add-zero at))
row-part s at (suc j) h =
    let more = row_more s at (row_first s at (omega arith)) in
    let rest = row-part s (at + 2) j (omega arith) in
    let behind : at + 2 + 2 * j ≡ at + 2 * suc j = omega arith in
    omega (arith, more, rest, ap (exchanges_from s) behind)

-- each of a row is whole
row-whole : (s : List ℕ) (at j : ℕ) → j < exchanges_from s at → is_exchange s (at + 2 * j) ≡ true
row-whole s at j h =
    let part = row-part s at j (omega arith) in
    row_first s (at + 2 * j) (omega arith)

-- each has the kind of an exchange
pub row-each : (s : List ℕ) (at j : ℕ) → j < exchanges_from s at → get_or s (at + 2 * j) 0 ≡ EXCHANGE
row-each s at j h = eqb-true _ _ (and_left _ (ltb (at + 2 * j + 1) (length s)) (row-whole s at j h))

-- and the row ends inside the script
pub row_inside : (s : List ℕ) (at : ℕ) → at ≤ length s → at + 2 * exchanges_from s at ≤ length s
row_inside s at h = upto (exchanges_from s at) refl
  where
    upto : (n : ℕ) → exchanges_from s at ≡ n → at + 2 * n ≤ length s
    upto zero e = omega arith
    upto (suc j) e =
        let last : at + 2 * j + 1 < length s = ltb-true _ _ (and_right (eqb (get_or s (at + 2 * j) 0) EXCHANGE) _ (row-whole s at j (omega arith))) in
        omega arith

-- a row is longer than i when it has i, and one stands behind those
pub row-longer : (s : List ℕ) (at i : ℕ) → leb (i + 1) (exchanges_from s at) ≡ (leb i (exchanges_from s at) && is_exchange s (at + 2 * i))
row-longer s at i = pick (leb i (exchanges_from s at)) (is_exchange s (at + 2 * i)) refl refl
  where
    pick : (l b : Bool) → leb i (exchanges_from s at) ≡ l → is_exchange s (at + 2 * i) ≡ b → leb (i + 1) (exchanges_from s at) ≡ (l && b)
    pick true true p q = le-leb (i + 1) (exchanges_from s at) (omega (arith, row-part s at i (leb-true i _ p), row_more s (at + 2 * i) q))
    pick true false p q = lt-leb (i + 1) (exchanges_from s at) (omega (arith, row-part s at i (leb-true i _ p), row_ends s (at + 2 * i) q))
    pick false b p q = lt-leb (i + 1) (exchanges_from s at) (omega (arith, leb-false i _ p))

-- ---- counting

-- behind n of a row one stands: the row has it too
pub row-reach : (s : List ℕ) (at n : ℕ) → n ≤ exchanges_from s at → get_or s (at + 2 * n) 0 ≡ EXCHANGE → at + 2 * n + 1 < length s → n + 1 ≤ exchanges_from s at
row-reach s at n h kind whole = omega (arith, row-part s at n h, row_more s (at + 2 * n) (and_both _ _ (eq-eqb _ _ kind) (lt-ltb _ _ whole)))

-- where another kind stands, the row is no longer
pub row-stops : (s : List ℕ) (at j place : ℕ) → place ≡ at + 2 * j → (get_or s place 0 ≡ EXCHANGE → ⊥) → exchanges_from s at ≤ j
row-stops s at j place e other = pick (leb (j + 1) (exchanges_from s at)) refl
  where
    pick : (b : Bool) → leb (j + 1) (exchanges_from s at) ≡ b → exchanges_from s at ≤ j
    pick true p = absurd (other (ap (λ (i : ℕ). get_or s i 0) e ∙ row-each s at j (omega (arith, leb-true (j + 1) (exchanges_from s at) p))))
    pick false p = omega (arith, leb-false (j + 1) (exchanges_from s at) p)

-- ---- many at once

-- two tests that mean each other are the same
same_test : (x y : Bool) → (x ≡ true → y ≡ true) → (y ≡ true → x ≡ true) → x ≡ y
same_test true y p q = sym (p refl)
same_test false true p q = q refl
same_test false false p q = refl

-- the low byte of two numbers joined is 0 when both low bytes are
low_or : (a b : ℕ) → eqb (bit_or a b % 256) 0 ≡ (eqb (a % 256) 0 && eqb (b % 256) 0)
low_or a b =
    same_test _ _ (λ e. let z = eqb-true (bit_or a b % 256) 0 e in and_both (eqb (a % 256) 0) (eqb (b % 256) 0) (eq-eqb _ _ (first z)) (eq-eqb _ _ (second z)))
    (λ e. eq-eqb _ _ (none (eqb-true _ _ (and_left (eqb (a % 256) 0) (eqb (b % 256) 0) e)) (eqb-true _ _ (and_right (eqb (a % 256) 0) (eqb (b % 256) 0) e))))
  where
    low : bit_or a b % 256 + bit_and (a % 256) (b % 256) ≡ a % 256 + b % 256
    low = rw (or_mod a b 8) (or_add_and (a % 256) (b % 256))

    first : bit_or a b % 256 ≡ 0 → a % 256 ≡ 0
    first e = omega (arith, low, and_le_r (a % 256) (b % 256))

    second : bit_or a b % 256 ≡ 0 → b % 256 ≡ 0
    second e = omega (arith, low, and_le_l (a % 256) (b % 256))

    none : a % 256 ≡ 0 → b % 256 ≡ 0 → bit_or a b % 256 ≡ 0
    none p q = omega (arith, low)

-- a kind and a body as one number: less the kind of an exchange, its low byte is 0 when it is that kind
low-xor : (kind body : ℕ) → kind < 256 → eqb (bit_xor (kind + 256 * body) EXCHANGE % 256) 0 ≡ eqb kind EXCHANGE
low-xor kind body h = same_test _ _ (λ e. eq-eqb _ _ (is (eqb-true _ _ e))) (λ e. eq-eqb _ _ (none (eqb-true _ _ e)))
  where
    byte : (kind + 256 * body) % 256 ≡ kind
    byte = omega arith

    low : bit_xor (kind + 256 * body) EXCHANGE % 256 ≡ bit_xor kind EXCHANGE
    low = xor_mod (kind + 256 * body) EXCHANGE 8 ∙ ap (λ (k : ℕ). bit_xor k EXCHANGE) byte

    is : bit_xor (kind + 256 * body) EXCHANGE % 256 ≡ 0 → kind ≡ EXCHANGE
    is e = omega (arith, sym low ∙ e, xor_add_and kind EXCHANGE, and_le_l kind EXCHANGE, and_le_r kind EXCHANGE)

    none : kind ≡ EXCHANGE → bit_xor (kind + 256 * body) EXCHANGE % 256 ≡ 0
    none e = low ∙ ap (λ (k : ℕ). bit_xor k EXCHANGE) e

-- one pair more: what is gathered has the low byte 0 as long as the row goes on
pub pair_longer : (s : List ℕ) (at i odd : ℕ) → get_or s (at + 2 * i) 0 < 256 → at + 2 * i + 1 < length s → eqb (odd % 256) 0 ≡ leb i (exchanges_from s at)
    → eqb (bit_or odd (bit_xor (get_or s (at + 2 * i) 0 + 256 * get_or s (at + 2 * i + 1) 0) EXCHANGE) % 256) 0 ≡ leb (i + 1) (exchanges_from s at)
pair_longer s at i odd byte inside so =
    low_or odd _
    ∙ rw (so, low-xor (get_or s (at + 2 * i) 0) (get_or s (at + 2 * i + 1) 0) byte)
    (sym (row-longer s at i ∙ rw (lt-ltb _ _ inside, and_true)))
