-- The walk on parts that are written out: which sectors it takes, and what it comes upon (RULES, Protection).
use Rattle.std.specs.Prelude.{true, false, [], ◌∷◌, ◌≡◌, refl}
use Rattle.part.specs.Walk.{taken_sectors, protected_by_walk}

-- Four of eight sectors, at the top and at the bottom; none at level 0; sixteen asked of four, and all of four; the whole of a part of one.
pub taken-met : (taken_sectors 3 false 8 ≡ 4 ∷ 5 ∷ 6 ∷ 7 ∷ [])
    × (taken_sectors 3 true 8 ≡ 0 ∷ 1 ∷ 2 ∷ 3 ∷ [])
    × (taken_sectors 0 false 8 ≡ [])
    × (taken_sectors 5 false 4 ≡ 0 ∷ 1 ∷ 2 ∷ 3 ∷ [])
    × (taken_sectors 7 true 4 ≡ 0 ∷ 1 ∷ 2 ∷ 3 ∷ [])
    × (taken_sectors 5 false 1 ≡ 0 ∷ [])
taken-met = (refl, refl, refl, refl, refl, refl)

-- On the real part at level 1 and TB 0 the walk comes upon sector 31, and not upon 30; at TB 1 upon 0, and not upon 1.
pub walk-met : (protected_by_walk 1 false 32 31 ≡ true)
    × (protected_by_walk 1 false 32 30 ≡ false)
    × (protected_by_walk 1 true 32 0 ≡ true)
    × (protected_by_walk 1 true 32 1 ≡ false)
walk-met = (refl, refl, refl, refl)
