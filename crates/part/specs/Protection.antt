-- Which sectors are protected (RULES, Protection).
use Rattle.std.specs.Prelude.{ℕ, ◌^◌, min, ◌-◌, Bool, true, false, cond, ◌&&◌, eqb, ltb, leb, Option, None, Some}
use Rattle.part.specs.declared.Ends.{Ends}

-- which sectors are protected: none, or all from the first to the last (RULES, Protection)
abbrev pub Protected : Type 0
Protected = Option Ends

abbrev pub ends : ℕ → ℕ → Ends
ends first last = record { first = first; last = last }

-- how many of S sectors level L protects: none at 0, a power of two from 1 to 5, but never more than there are, and every one from 6 on (RULES, Protection)
unfoldable pub protected_count : ℕ → ℕ → ℕ
protected_count L S = cond (eqb L 0) 0 (cond (ltb L 6) (min (2 ^ (L - 1)) S) S)

-- the first and the last of `count` sectors of S: with TB 1 they are counted from the bottom, with TB 0 from the top (RULES, Protection)
abbrev pub first_end : ℕ → Bool → ℕ → ℕ
first_end count tb S = cond tb 0 (S - count)

abbrev pub last_end : ℕ → Bool → ℕ → ℕ
last_end count tb S = cond tb (count - 1) (S - 1)

-- the protect test: the two ends of the protected sectors, nothing where the count is 0 (RULES, Protection)
unfoldable pub protected_sectors : ℕ → Bool → ℕ → Protected
protected_sectors L tb S =
    let count = protected_count L S in
    cond (eqb count 0) None (Some (ends (first_end count tb S) (last_end count tb S)))

-- whether sector x lies between the two ends, both of them included; and whether there is any such sector (RULES, Protection)
abbrev pub protects : Protected → ℕ → Bool
protects None x = false
protects (Some e) x = leb e.first x && leb x e.last

abbrev pub protects_any : Protected → Bool
protects_any None = false
protects_any (Some e) = true

-- the plain yes, read off it: whether sector x of S is protected (RULES, Protection)
abbrev pub is_protected : ℕ → Bool → ℕ → ℕ → Bool
is_protected L tb S x = protects (protected_sectors L tb S) x
