-- What is true of the part: its lengths, its protected sectors and their two ends, and the bytes inside an area.
use Rattle.std.specs.Prelude.{ℕ, zero, suc, ◌≤◌, ◌<◌, ◌-◌, ◌^◌, Bool, true, false, cond, not, ◌||◌, List, [], ◌∷◌, ◌≡◌, refl, eqb, ltb, length, get_or, None, Some}
use Rattle.std.proofs.lemmas.Bool.{false≢true}
use Rattle.std.proofs.Common.{sym, ap, ◌∙◌, arith, eqb-true, eq-eqb, ne_eqb}
use Rattle.std.proofs.Math.Nat.{one-le-pow}
use Rattle.std.proofs.Math.Decide.{ℕ_discrete}
use Rattle.cells.specs.Choice.{cond_yes, cond_no, cond_either}
use Rattle.part.specs.Part.{permitted, sectors_in, sectors_if, length_of}
use Rattle.part.specs.Area.{area_byte}
use Rattle.part.specs.Protection.{Protected, ends, protected_count, first_end, last_end, protected_sectors, protects_any}

-- ---- protection

pub protected_count-le : (L S : ℕ) → protected_count L S ≤ S
unfolding protected_count
protected_count-le L S =
    cond_either (λ (n : ℕ). n ≤ S) (eqb L 0) _ _ (λ _. omega arith)
    (λ _. cond_either (λ (n : ℕ). n ≤ S) (ltb L 6) _ _ (λ _. omega arith) (λ _. omega arith))

-- on a part that has sectors every level but 0 protects some
pub protected_count-some : (L S : ℕ) → 1 ≤ S → (L ≡ 0 → ⊥) → 1 ≤ protected_count L S
unfolding protected_count
protected_count-some L S some other =
    cond_either (λ (n : ℕ). 1 ≤ n) (eqb L 0) _ _ (λ z. absurd (other (eqb-true L 0 z)))
    (λ _. cond_either (λ (n : ℕ). 1 ≤ n) (ltb L 6) _ _ (λ _. let power : 1 ≤ 2 ^ (L - 1) = one-le-pow (L - 1) 2 (omega arith) in omega arith) (λ _. some))

-- the ends by the count: none for none, and for some the first and the last of so many
module _ (L : ℕ) (tb : Bool) (S : ℕ) where
  pub no_ends : protected_count L S ≡ 0 → protected_sectors L tb S ≡ None
  unfolding protected_sectors
  no_ends none = cond_yes _ _ _ (eq-eqb (protected_count L S) 0 none)

  pub two_ends : (protected_count L S ≡ 0 → ⊥) → protected_sectors L tb S ≡ Some (ends (first_end (protected_count L S) tb S) (last_end (protected_count L S) tb S))
  unfolding protected_sectors
  two_ends some = cond_no _ _ _ (ne_eqb (protected_count L S) 0 some)

-- so there is a protected sector exactly where the level is not 0
pub any_by_level : (L : ℕ) (tb : Bool) (S : ℕ) → 1 ≤ S → protects_any (protected_sectors L tb S) ≡ not (eqb L 0)
unfolding protected_count
any_by_level L tb S some = go (ℕ_discrete L 0)
  where
    go : Dec (L ≡ 0) → protects_any (protected_sectors L tb S) ≡ not (eqb L 0)
    go (yes z) = ap protects_any (no_ends L tb S (ap (λ (l : ℕ). protected_count l S) z)) ∙ sym (ap not (eq-eqb L 0 z))
    go (no n) =
        let count : 1 ≤ protected_count L S = protected_count-some L S some n in
        ap protects_any (two_ends L tb S (λ z. omega (arith, count, z))) ∙ sym (ap not (ne_eqb L 0 n))

-- the two ends lie on the part, in order
pub ends-inside : (L : ℕ) (tb : Bool) (S first last : ℕ) → protected_sectors L tb S ≡ Some (ends first last) → (first ≤ last) × (last < S)
ends-inside L tb S first last e = go (ℕ_discrete (protected_count L S) 0)
  where
    -- an end, 0 where there is none
    low : Protected → ℕ
    low None = 0
    low (Some e) = e.first

    high : Protected → ℕ
    high None = 0
    high (Some e) = e.last

    go : Dec (protected_count L S ≡ 0) → (first ≤ last) × (last < S)
    go (yes none) = absurd (false≢true (ap protects_any (sym (no_ends L tb S none) ∙ e)))
    go (no some) =
        let is = sym (two_ends L tb S some) ∙ e in
        at tb (ap low is) (ap high is)
      where
        at : (b : Bool) → first_end (protected_count L S) b S ≡ first → last_end (protected_count L S) b S ≡ last → (first ≤ last) × (last < S)
        at true f l = (omega (arith, f, l, protected_count-le L S), omega (arith, f, l, protected_count-le L S))
        at false f l = (omega (arith, f, l, protected_count-le L S), omega (arith, f, l, protected_count-le L S))

-- ---- the six lengths

-- what holds of the six lengths holds of every permitted one
pub permitted-each : (P : ℕ → Type 0) → P 65536 → P 131072 → P 262144 → P 524288 → P 1048576 → P 2097152 → (n : ℕ) → permitted n ≡ true → P n
unfolding permitted
permitted-each P p₁ p₂ p₄ p₈ p₁₆ p₃₂ n h =
    or _ _ (or _ _ (or _ _ (or _ _ (or _ _ (at 65536 p₁) (at 131072 p₂)) (at 262144 p₄)) (at 524288 p₈)) (at 1048576 p₁₆)) (at 2097152 p₃₂) h
  where
    at : (k : ℕ) → P k → eqb n k ≡ true → P n
    at k p e = rw (eqb-true n k e) p

    or : (a b : Bool) → (a ≡ true → P n) → (b ≡ true → P n) → (a || b) ≡ true → P n
    or true b p q e = p refl
    or false b p q e = q e

-- a permitted length is a whole number of sectors, 1 to 32
pub permitted-whole : (n : ℕ) → permitted n ≡ true → length_of (sectors_in n) ≡ n
permitted-whole = permitted-each (λ n. length_of (sectors_in n) ≡ n) refl refl refl refl refl refl

pub permitted-most : (n : ℕ) → permitted n ≡ true → sectors_in n ≤ 32
permitted-most = permitted-each (λ n. sectors_in n ≤ 32) (omega arith) (omega arith) (omega arith) (omega arith) (omega arith) (omega arith)

pub permitted-length : (n : ℕ) → permitted n ≡ true → n ≤ 2097152
permitted-length = permitted-each (λ n. n ≤ 2097152) (omega arith) (omega arith) (omega arith) (omega arith) (omega arith) (omega arith)

pub permitted-some : (n : ℕ) → permitted n ≡ true → 1 ≤ sectors_in n
permitted-some = permitted-each (λ n. 1 ≤ sectors_in n) (omega arith) (omega arith) (omega arith) (omega arith) (omega arith) (omega arith)

-- so both ends of the protected sectors are at most 31
pub ends-small : (L : ℕ) (tb : Bool) (n first last : ℕ) → permitted n ≡ true → protected_sectors L tb (sectors_in n) ≡ Some (ends first last) → (first ≤ 31) × (last ≤ 31)
ends-small L tb n first last p e =
    let inside = ends-inside L tb (sectors_in n) first last e in
    (omega (arith, inside.0, inside.1, permitted-most n p), omega (arith, inside.1, permitted-most n p))

-- whether there is a number of sectors tells which lengths are permitted
pub no_part : (n : ℕ) → sectors_if n ≡ None → permitted n ≡ false
no_part n e = go (permitted n) refl
  where
    go : (b : Bool) → permitted n ≡ b → permitted n ≡ false
    go true p = let clash : Some (sectors_in n) ≡ None = sym (cond_yes (permitted n) _ _ p) ∙ e in cc
    go false p = p

pub some_part : (n s : ℕ) → sectors_if n ≡ Some s → (permitted n ≡ true) × (s ≡ sectors_in n)
some_part n s e = go (permitted n) refl
  where
    go : (b : Bool) → permitted n ≡ b → (permitted n ≡ true) × (s ≡ sectors_in n)
    go true p = let same : Some s ≡ Some (sectors_in n) = sym e ∙ cond_yes (permitted n) _ _ p in (p, cc)
    go false p = let clash : None ≡ Some s = sym (cond_no (permitted n) _ _ p) ∙ e in cc

-- a number of sectors, 0 for a length that no part has, tells which lengths are permitted
pub no_sectors : (n s : ℕ) → s ≡ cond (permitted n) (sectors_in n) 0 → s ≡ 0 → permitted n ≡ false
no_sectors n s e z = go (permitted n) refl
  where
    go : (b : Bool) → permitted n ≡ b → b ≡ false
    go true p =
        let q : s ≡ sectors_in n = e ∙ cond_yes (permitted n) (sectors_in n) 0 p in
        absurd (omega (arith, permitted-some n p))
    go false p = refl

pub some-sectors : (n s : ℕ) → s ≡ cond (permitted n) (sectors_in n) 0 → (s ≡ 0 → ⊥) → permitted n ≡ true
some-sectors n s e z = go (permitted n) refl
  where
    go : (b : Bool) → permitted n ≡ b → b ≡ true
    go true p = refl
    go false p = absurd (z (e ∙ cond_no (permitted n) (sectors_in n) 0 p))

pub sectors_are : (n s : ℕ) → s ≡ cond (permitted n) (sectors_in n) 0 → (s ≡ 0 → ⊥) → s ≡ sectors_in n
sectors_are n s e z = e ∙ cond_yes (permitted n) (sectors_in n) 0 (some-sectors n s e z)

-- ---- the SFDP area

-- inside an area the byte is the area's own
pub area_byte-inside : (area : List ℕ) (place : ℕ) → place < length area → area_byte area place ≡ get_or area place 0
area_byte-inside [] place h = absurd (omega arith)
area_byte-inside (b ∷ area) zero h = refl
area_byte-inside (b ∷ area) (suc place) h = area_byte-inside area place (omega arith)
