-- The protect test once more, as a walk from sector to sector, with no arithmetic in it. `WalkLaws` says that the two answer alike (RULES, Protection).
use Rattle.std.specs.Prelude.{ℕ, zero, suc, Bool, true, false, cond, List, [], ◌∷◌, reverse, eqb, get_or, take, None, Some}
use Rattle.part.specs.Protection.{Protected, ends}

-- n sectors in a row, the first of them a; those of a part of S sectors are the row of S from 0 on (RULES, The array)
abbrev pub sectors_from : ℕ → ℕ → List ℕ
sectors_from a zero = []
sectors_from a (suc n) = a ∷ sectors_from (suc a) n

-- how many of S sectors level L asks for, by its row of the table, whether there are so many or not; from 6 on it has no row, and asks for every one (RULES, Protection)
abbrev pub asks_for : ℕ → ℕ → ℕ
asks_for L S = get_or (0 ∷ 1 ∷ 2 ∷ 4 ∷ 8 ∷ 16 ∷ []) L S

-- the last n of a row: the first n from its other end, in their old order
abbrev pub take_last : ℕ → List ℕ → List ℕ
take_last n row = reverse (take n (reverse row))

-- the sectors that are taken of all the part's: the first so many with TB 1, the last so many with TB 0; where there are fewer, all of them (RULES, Protection)
abbrev pub taken_sectors : ℕ → Bool → ℕ → List ℕ
taken_sectors L tb S = cond tb (take (asks_for L S) (sectors_from 0 S)) (take_last (asks_for L S) (sectors_from 0 S))

-- the walk: from one taken sector to the next, is it x?
abbrev pub walk : List ℕ → ℕ → Bool
walk [] x = false
walk (sector ∷ rest) x = cond (eqb x sector) true (walk rest x)

-- so sector x of S is protected if the walk through the taken ones comes upon it (RULES, Protection)
abbrev pub protected_by_walk : ℕ → Bool → ℕ → ℕ → Bool
protected_by_walk L tb S x = walk (taken_sectors L tb S) x

-- the last sector of a walk that stands at one and has the rest to go
abbrev pub last_of : ℕ → List ℕ → ℕ
last_of sector [] = sector
last_of sector (next ∷ rest) = last_of next rest

-- and the two ends of a walk: the sectors where it begins and where it ends, nothing where it has none to go to (RULES, Protection)
abbrev pub ends_of : List ℕ → Protected
ends_of [] = None
ends_of (sector ∷ rest) = Some (ends sector (last_of sector rest))
