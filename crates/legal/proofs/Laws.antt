-- What is true of a look through a load.
use Rattle.std.specs.Prelude.{ℕ, ◌+◌, ◌<◌, ◌≤◌, Bool, true, false, ◌&&◌, List, ◌≡◌, refl, eqb, length, get_or, drop}
use Rattle.std.proofs.Common.{ap, ◌∙◌, add-one, drop_of_length-le, drop-cons}
use Rattle.cells.specs.Choice.{and_true}
use Rattle.legal.specs.Legal.{is_blank}

-- one byte more of a look that has been blank so far, or not
pub is_blank_more : (so_far : Bool) (l : List ℕ) (i : ℕ) → i < length l
    → (so_far && is_blank (drop i l)) ≡ (so_far && eqb (get_or l i 0) 255 && is_blank (drop (i + 1) l))
unfolding is_blank
is_blank_more true l i h = rw (add-one, drop-cons l i 0 h)
is_blank_more false l i h = refl

pub is_blank-ends : (so_far : Bool) (l : List ℕ) (i : ℕ) → length l ≤ i → (so_far && is_blank (drop i l)) ≡ so_far
unfolding is_blank
is_blank-ends so_far l i h = ap (λ (rest : List ℕ). so_far && is_blank rest) (drop_of_length-le l h) ∙ and_true so_far
