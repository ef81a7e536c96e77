-- Memory as a list of cells, and the two ways in which a job changes it (RULES, Jobs).
use Rattle.std.specs.Prelude.{ℕ, zero, suc, ◌+◌, ◌%◌, ◌-◌, Bool, cond, ◌&&◌, List, [], ◌∷◌, leb, ltb, get_or, set}
use Rattle.std.specs.Int.Bits.{bit_and}

-- what a range does to its cells: cell j of the range, holding `old`, becomes `g j old`
abbrev pub Rule : Type 0
Rule = ℕ → ℕ → ℕ

-- an erased cell is FFh
abbrev pub blanked : Rule
blanked j old = 255

-- a programmed cell is ANDed with the load byte at its offset in the page: it can only lose bits
abbrev pub anded : List ℕ → Rule
anded load j old = bit_and old (get_or load (j % 256) 0)

-- the rule of the same range, counted from its cell d on
abbrev pub later : Rule → ℕ → Rule
later g d j old = g (d + j) old

-- m with cell i changed by f; a place past the end changes nothing
abbrev pub change : (ℕ → ℕ) → ℕ → List ℕ → List ℕ
change f i m = set m i (f (get_or m i 0))

-- m with the first n cells of the range at p changed by g, upwards
unfoldable pub sweep : Rule → List ℕ → ℕ → ℕ → List ℕ
sweep g m p zero = m
sweep g m p (suc n) = change (g n) (p + n) (sweep g m p n)

-- whether cell i lies in the n cells from p
abbrev pub within : ℕ → ℕ → ℕ → Bool
within p n i = leb p i && ltb i (p + n)

-- the cells from i on, each of them that lies in the range at p changed by g
unfoldable pub image_from : Rule → ℕ → ℕ → ℕ → List ℕ → List ℕ
image_from g p n i [] = []
image_from g p n i (x ∷ m) = cond (within p n i) (g (i - p) x) x ∷ image_from g p n (suc i) m

-- the whole image of a range, with no steps: each cell of it changed by g, every other as it was
unfoldable pub image : Rule → ℕ → ℕ → List ℕ → List ℕ
unfolding image_from
image g p n m = image_from g p n 0 m
