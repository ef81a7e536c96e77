-- The protect test and the walk answer alike, for every level, TB, number of sectors and sector: who believes the walk believes the test (RULES, Protection).
use Rattle.std.specs.Prelude.{ℕ, zero, suc, ◌+◌, ◌-◌, ◌≤◌, ◌<◌, min, Bool, true, false, ◌&&◌, List, ◌∷◌, ◌++◌, reverse, ◌≡◌, refl, leb, length, take, drop, Some}
use Rattle.std.proofs.lemmas.List.{reverse-append, reverse-reverse, length-reverse}
use Rattle.std.proofs.Common.{sym, ap, ap₂, ◌∙◌, arith, take-append-drop, length-drop, take_at, take_all, eq-eqb, ne_eqb, le-ltb, le-leb}
use Rattle.std.proofs.Math.Nat.{zero-min, min-zero, suc-min-suc}
use Rattle.std.proofs.Math.Decide.{ℕ_discrete, dec_le}
use Rattle.std.proofs.Math.Dec.{eqb-suc-zero}
use Rattle.std.proofs.lemmas.Bool.{lt-leb}
use Rattle.cells.specs.Choice.{cond_yes, cond_no, and_both}
use Rattle.part.specs.Protection.{Protected, ends, protected_count, first_end, last_end, protected_sectors, protects, is_protected}
use Rattle.part.proofs.Laws.{protected_count-le, no_ends, two_ends}
use Rattle.part.specs.Walk.{sectors_from, asks_for, take_last, taken_sectors, walk, protected_by_walk, last_of, ends_of}

-- ---- the taken sectors are a row: so many from the first end on

length-row : (a n : ℕ) → length (sectors_from a n) ≡ n
length-row a zero = refl
length-row a (suc n) = ap suc (length-row (suc a) n)

-- rows with the same first sector and as many sectors are the same
row_as : (a n b m : ℕ) → a ≡ b → n ≡ m → sectors_from a n ≡ sectors_from b m
row_as a n b m at long = ap₂ sectors_from at long

-- the first n of a row are a row, and so is what is left behind them
take_row : (n a S : ℕ) → take n (sectors_from a S) ≡ sectors_from a (min n S)
take_row zero a S = ap (sectors_from a) (sym (zero-min S))
take_row (suc n) a zero = ap (sectors_from a) (sym (min-zero (suc n)))
take_row (suc n) a (suc S) = ap {B = List ℕ} (λ row. a ∷ row) (take_row n (suc a) S) ∙ ap (sectors_from a) (sym (suc-min-suc n S))

drop-row : (n a S : ℕ) → drop n (sectors_from a S) ≡ sectors_from (a + n) (S - n)
drop-row zero a S = row_as a S (a + 0) (S - 0) (omega arith) (omega arith)
drop-row (suc n) a zero = row_as (a + suc n) 0 (a + suc n) (0 - suc n) refl (omega arith)
drop-row (suc n) a (suc S) = drop-row n (suc a) S ∙ row_as (suc a + n) (S - n) (a + suc n) (suc S - suc n) (omega arith) (omega arith)

-- the last n are what is left behind the others
last_dropped : (n : ℕ) (row : List ℕ) → take_last n row ≡ drop (length row - n) row
last_dropped n row = go (dec_le n (length row))
  where
    go : Dec (n ≤ length row) → take_last n row ≡ drop (length row - n) row
    go (yes some) =
        let others = length row - n in
        let turned : reverse row ≡ reverse (drop others row) ++ reverse (take others row) = ap reverse (sym (take-append-drop others row)) ∙ reverse-append (take others row) (drop others row) in
        let long : length (reverse (drop others row)) ≡ n = length-reverse (drop others row) ∙ length-drop others row ∙ omega (arith, some) in
        ap (λ (back : List ℕ). reverse (take n back)) turned ∙ ap reverse (take_at (reverse (drop others row)) (reverse (take others row)) n long) ∙ reverse-reverse (drop others row)
    go (no fewer) =
        let none : length row - n ≡ 0 = omega (arith, fewer) in
        ap reverse (take_all n (reverse row) (omega (arith, fewer, length-reverse row))) ∙ reverse-reverse row ∙ sym (ap (λ (k : ℕ). drop k row) none)

-- what a level asks for, as far as there are sectors, is the count: rows 0 to 5, and no row
counted : (L S : ℕ) → min (asks_for L S) S ≡ protected_count L S
unfolding protected_count
counted zero S = zero-min S
counted (suc zero) S = refl
counted (suc (suc zero)) S = refl
counted (suc (suc (suc zero))) S = refl
counted (suc (suc (suc (suc zero)))) S = refl
counted (suc (suc (suc (suc (suc zero))))) S = refl
counted (suc (suc (suc (suc (suc (suc L)))))) S =
    let all : min S S ≡ S = omega arith in
    rw (eqb-suc-zero (suc (suc (suc (suc (suc L))))), le-ltb (suc (suc (suc (suc (suc (suc L)))))) 6 (omega arith), all)

-- at the bottom the first so many of 0 to S − 1, at the top what is left behind the others
pub taken-row : (L : ℕ) (tb : Bool) (S : ℕ) → taken_sectors L tb S ≡ sectors_from (first_end (protected_count L S) tb S) (protected_count L S)
taken-row L true S = take_row (asks_for L S) 0 S ∙ ap (sectors_from 0) (counted L S)
taken-row L false S =
    let n = asks_for L S in
    let count : min n S ≡ protected_count L S = counted L S in
    last_dropped n (sectors_from 0 S)
    ∙ ap (λ (long : ℕ). drop (long - n) (sectors_from 0 S)) (length-row 0 S)
    ∙ drop-row (S - n) 0 S
    ∙ row_as (0 + (S - n)) (S - (S - n)) (S - protected_count L S) (protected_count L S) (omega (arith, count)) (omega (arith, count))

-- ---- a walk along a row

-- it comes upon what lies in the row, and upon nothing else
walk_inside : (a n x : ℕ) → a ≤ x → x < a + n → walk (sectors_from a n) x ≡ true
walk_inside a zero x low high = absurd (omega (arith, low, high))
walk_inside a (suc n) x low high = go (ℕ_discrete x a) (λ later. walk_inside (suc a) n x later (omega (arith, high)))
  where
    go : Dec (x ≡ a) → (suc a ≤ x → walk (sectors_from (suc a) n) x ≡ true) → walk (sectors_from a (suc n)) x ≡ true
    go (yes here) on = cond_yes _ _ _ (eq-eqb x a here)
    go (no there) on = cond_no _ _ _ (ne_eqb x a there) ∙ on (omega (arith, low, there))

walk-outside : (a n x : ℕ) → (a ≤ x → x < a + n → ⊥) → walk (sectors_from a n) x ≡ false
walk-outside a zero x out = refl
walk-outside a (suc n) x out =
    cond_no _ _ _ (ne_eqb x a (λ here. out (omega (arith, here)) (omega (arith, here))))
    ∙ walk-outside (suc a) n x (λ low high. out (omega (arith, low)) (omega (arith, high)))

-- its two ends: n sectors from a on end at a + n − 1
last_row : (a n : ℕ) → last_of a (sectors_from (suc a) n) ≡ a + n
last_row a zero = omega arith
last_row a (suc n) = last_row (suc a) n ∙ omega arith

ends-row : (a n : ℕ) → (n ≡ 0 → ⊥) → ends_of (sectors_from a n) ≡ Some (ends a (a + (n - 1)))
ends-row a zero some = absurd (some refl)
ends-row a (suc n) some = ap (λ (l : ℕ). Some (ends a l)) (last_row a n ∙ omega arith)

-- and what it comes upon lies between them
row-agrees : (a n x : ℕ) → walk (sectors_from a n) x ≡ protects (ends_of (sectors_from a n)) x
row-agrees a zero x = refl
row-agrees a (suc n) x = go (dec_le a x) (dec_le x (a + n)) ∙ sym (ap (λ (range : Protected). protects range x) (ap (λ (l : ℕ). Some (ends a l)) (last_row a n)))
  where
    go : Dec (a ≤ x) → Dec (x ≤ a + n) → walk (sectors_from a (suc n)) x ≡ (leb a x && leb x (a + n))
    go (yes low) (yes high) = walk_inside a (suc n) x low (omega (arith, high)) ∙ sym (and_both _ _ (le-leb a x low) (le-leb x (a + n) high))
    go (yes low) (no above) = walk-outside a (suc n) x (λ _ high. above (omega (arith, high))) ∙ sym (rw (le-leb a x low, lt-leb x (a + n) (omega (arith, above))))
    go (no below) _ = walk-outside a (suc n) x (λ low _. below low) ∙ sym (rw (lt-leb a x (omega (arith, below))))

-- ---- the two laws

module _ (L : ℕ) (tb : Bool) (S : ℕ) where
  abbrev count : ℕ
  count = protected_count L S

  abbrev first : ℕ
  first = first_end count tb S

  -- The two ends that the test answers are those of the walk.
  pub ends_agree : ends_of (taken_sectors L tb S) ≡ protected_sectors L tb S
  ends_agree = ap ends_of (taken-row L tb S) ∙ go (ℕ_discrete count 0)
    where
      last_is : (b : Bool) → (count ≡ 0 → ⊥) → first_end count b S + (count - 1) ≡ last_end count b S
      last_is true some = omega arith
      last_is false some = omega (arith, some, protected_count-le L S)

      go : Dec (count ≡ 0) → ends_of (sectors_from first count) ≡ protected_sectors L tb S
      go (yes none) = ap (λ (n : ℕ). ends_of (sectors_from first n)) none ∙ sym (no_ends L tb S none)
      go (no some) = ends-row first count some ∙ ap (λ (l : ℕ). Some (ends first l)) (last_is tb some) ∙ sym (two_ends L tb S some)

  -- The walk comes upon x exactly where the test says that it is protected, be x a sector of the part or not.
  pub walk_agrees : (x : ℕ) → protected_by_walk L tb S x ≡ is_protected L tb S x
  walk_agrees x =
      ap (λ (row : List ℕ). walk row x) (taken-row L tb S)
      ∙ row-agrees first count x
      ∙ ap (λ (range : Protected). protects range x) (sym (ap ends_of (taken-row L tb S)) ∙ ends_agree)
