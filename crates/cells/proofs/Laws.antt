-- What is true of a sweep and of an image, for any rule: its length, its parts, its cells, and that the two are one.
use Rattle.std.specs.Prelude.{ℕ, zero, suc, ◌+◌, ◌<◌, ◌≤◌, min, ◌-◌, true, false, cond, List, [], ◌∷◌, ◌++◌, ◌≡◌, refl, ◌⊎◌, length, get_or}
use Rattle.std.proofs.Common.{sym, ap, ◌∙◌, inl, inr, ⊎_elim, add-one, add-zero, zero-add, add-suc, suc-add, add_assoc, arith, length-set, get_or-set_same, get_or-set_other, ext_get_or, lt-ltb, le-ltb, le-leb}
use Rattle.std.proofs.Math.Path.{fun_ext}
use Rattle.std.proofs.Math.Decide.{dec_le, dec_lt}
use Rattle.std.proofs.Math.ListN.{get_or-eq_default}
use Rattle.std.proofs.Math.Seq.{set_out}
use Rattle.std.proofs.lemmas.Bool.{lt-leb}
use borrow.Rule.Slice.PartMut.{put_mid, mid_of, post_of, put_same}
use Rattle.std.proofs.Common.{take, drop, length-take-le, length-drop}
use Rattle.std.proofs.Math.ListN.{set}
use Rattle.std.proofs.lemmas.List.{places, set-append_left, set-append_right}
use Rattle.cells.specs.Choice.{cond_yes, cond_no}
use Rattle.cells.specs.Cells.{Rule, later, change, sweep, within, image, image_from}

-- ---- a sweep

pub sweep-none : (g : Rule) (m : List ℕ) (p : ℕ) → sweep g m p 0 ≡ m
unfolding sweep
sweep-none g m p = refl

pub sweep-more : (g : Rule) (m : List ℕ) (p n : ℕ) → sweep g m p (n + 1) ≡ change (g n) (p + n) (sweep g m p n)
unfolding sweep
sweep-more g m p n = rw add-one

pub length-sweep : (g : Rule) (m : List ℕ) (p n : ℕ) → length (sweep g m p n) ≡ length m
unfolding sweep
length-sweep g m p zero = refl
length-sweep g m p (suc n) = length-set (sweep g m p n) (p + n) _ ∙ length-sweep g m p n

-- a rule counted from a on, and then from b on
pub later-later : (g : Rule) (a b : ℕ) → later (later g a) b ≡ later g (a + b)
later-later g a b = fun_ext (λ j. fun_ext (λ old. ap (λ (n : ℕ). g n old) (sym (add_assoc a b j))))

-- a sweep in two parts: the first d cells, then the rest by the same rule counted from d on
pub sweep-add : (g : Rule) (m : List ℕ) (p d n : ℕ) → sweep g m p (d + n) ≡ sweep (later g d) (sweep g m p d) (p + d) n
unfolding sweep
sweep-add g m p d zero = rw add-zero
sweep-add g m p d (suc n) = rw (add-suc, sweep, sweep-add g m p d n, add_assoc)

-- past the end there is nothing to change
pub sweep-past : (g : Rule) (m : List ℕ) (p n : ℕ) → length m ≤ p → sweep g m p n ≡ m
unfolding sweep
sweep-past g m p zero h = refl
sweep-past g m p (suc n) h =
    let l : length m ≤ p + n = omega arith in
    rw (sweep-past g m p n h, set_out)

-- a sweep that runs past the end changes the cells inside, and no more
pub sweep-inside : (g : Rule) (m : List ℕ) (p n : ℕ) → sweep g m p n ≡ sweep g m p (min n (length m - p))
sweep-inside g m p n = ⊎_elim inner outer (decided (dec_le n (length m - p)))
  where
    decided : Dec (n ≤ length m - p) → (n ≤ length m - p) ⊎ (length m - p < n)
    decided (yes h) = inl h
    decided (no h) = inr (omega arith)

    inner : n ≤ length m - p → sweep g m p n ≡ sweep g m p (min n (length m - p))
    inner h = ap (sweep g m p) (omega arith)

    outer : length m - p < n → sweep g m p n ≡ sweep g m p (min n (length m - p))
    outer h =
        let d : ℕ = length m - p in
        let e : n ≡ d + (n - d) = omega arith in
        let k : d ≡ min n d = omega arith in
        let l : length (sweep g m p d) ≤ p + d = omega (arith, length-sweep g m p d) in
        ap (sweep g m p) e ∙ sweep-add g m p d (n - d) ∙ sweep-past (later g d) (sweep g m p d) (p + d) (n - d) l ∙ ap (sweep g m p) k

-- a cell outside the range is as it was
pub sweep-outside : (g : Rule) (m : List ℕ) (p n i : ℕ) → (i < p) ⊎ (p + n ≤ i) → get_or (sweep g m p n) i 0 ≡ get_or m i 0
unfolding sweep
sweep-outside g m p zero i h = refl
sweep-outside g m p (suc n) i h =
    get_or-set_other (sweep g m p n) (p + n) i _ 0 (⊎_elim (λ a. omega arith) (λ b. omega arith) h)
    ∙ sweep-outside g m p n i (⊎_elim (λ a. inl a) (λ b. inr (omega arith)) h)

-- a cell of the range is changed by its rule, once
pub sweep-changes : (g : Rule) (m : List ℕ) (p n j : ℕ) → j < n → p + j < length m → get_or (sweep g m p n) (p + j) 0 ≡ g j (get_or m (p + j) 0)
unfolding sweep
sweep-changes g m p zero j h l = absurd (omega arith)
sweep-changes g m p (suc n) j h l = pick (λ a. sweep-changes g m p n j a l) (dec_lt j n)
  where
    pick : (j < n → get_or (sweep g m p n) (p + j) 0 ≡ g j (get_or m (p + j) 0)) → Dec (j < n) → get_or (change (g n) (p + n) (sweep g m p n)) (p + j) 0 ≡ g j (get_or m (p + j) 0)
    pick before (yes a) = get_or-set_other (sweep g m p n) (p + n) (p + j) _ 0 (omega arith) ∙ before a
    pick before (no a) =
        let e : n ≡ j = omega arith in
        let k : p + j < length (sweep g m p j) = omega (arith, length-sweep g m p j) in
        rw e (get_or-set_same (sweep g m p j) (p + j) _ 0 k ∙ ap (g j) (sweep-outside g m p j (p + j) (inr (omega arith))))

-- ---- a part of memory that is swept by itself

-- a sweep of the part alone, from its own start, is the sweep of the memory
pub sweep-part : (g : Rule) (m : List ℕ) (p k n : ℕ) → p + k ≤ length m → n ≤ k → put_mid p k m (sweep g (mid_of p k m) 0 n) ≡ sweep g m p n
unfolding sweep
sweep-part g m p k zero fits h = put_same p k m
sweep-part g m p k (suc n) fits h =
    let part : List ℕ = sweep g (mid_of p k m) 0 n in
    let whole : put_mid p k m part ≡ sweep g m p n = sweep-part g m p k n fits (omega arith) in
    let front : length (take p m) ≡ p = length-take-le p m (omega arith) in
    let long : length part ≡ k = length-sweep g (mid_of p k m) 0 n ∙ length-take-le k (drop p m) (omega (arith, length-drop p m)) in
    let here : get_or (put_mid p k m part) (p + n) 0 ≡ get_or part n 0 = grind (arith, places) in
    let at : p + n - p ≡ n = omega arith in
    let short : n < length part = omega arith in
    let there : (v : ℕ) → set (put_mid p k m part) (p + n) v ≡ put_mid p k m (set part n v) =
    λ v. set-append_right (take p m) (part ++ post_of p k m) p (p + n) v front (omega arith) ∙ ap (λ (l : List ℕ). take p m ++ l) (rw at (set-append_left part (post_of p k m) n v short)) in
    rw (zero-add, ← whole, here) (sym (there _))

-- so the part that lies inside, from a to e, once it is swept by itself, is all that a sweep changes
pub part_swept : (g : Rule) (m w : List ℕ) (p n a e i : ℕ) → w ≡ sweep g (mid_of a (e - a) m) 0 i → i ≡ length (mid_of a (e - a) m) → a ≡ min p (length m) → e ≡ min p (length m) + min n (length m - p)
    → put_mid a (e - a) m w ≡ sweep g m p n
part_swept g m w p n a e i part whole start end = rw (part, whole, long) (sweep-part g m a (e - a) (e - a) (omega arith) (omega arith) ∙ go (dec_le p (length m)))
  where
    long : length (mid_of a (e - a) m) ≡ e - a
    long = length-take-le (e - a) (drop a m) (omega (arith, length-drop a m))

    go : Dec (p ≤ length m) → sweep g m a (e - a) ≡ sweep g m p n
    go (yes h) =
        let same_start : a ≡ p = omega arith in
        let size : e - p ≡ min n (length m - p) = omega arith in
        rw (same_start, size) (sym (sweep-inside g m p n))
    go (no h) = sweep-past g m a (e - a) (omega arith) ∙ sym (sweep-past g m p n (omega arith))

-- one cell more of a part
pub part_more : (g : Rule) (w part : List ℕ) (i v : ℕ) → part ≡ sweep g w 0 i → v ≡ g i (get_or part i 0) → set part i v ≡ sweep g w 0 (i + 1)
part_more g w part i v so_far here = rw (sweep-more, zero-add, ← so_far, here)

-- ---- an image

length-image_from : (g : Rule) (p n i : ℕ) (m : List ℕ) → length (image_from g p n i m) ≡ length m
unfolding image_from
length-image_from g p n i [] = refl
length-image_from g p n i (x ∷ m) = ap suc (length-image_from g p n (suc i) m)

image_from-cell : (g : Rule) (p n i : ℕ) (m : List ℕ) (j : ℕ) → j < length m
    → get_or (image_from g p n i m) j 0 ≡ cond (within p n (i + j)) (g (i + j - p) (get_or m j 0)) (get_or m j 0)
unfolding image_from
image_from-cell g p n i [] j h = absurd (omega arith)
image_from-cell g p n i (x ∷ m) zero h = rw add-zero
image_from-cell g p n i (x ∷ m) (suc j) h = rw (add-suc, ← suc-add i j) (image_from-cell g p n (suc i) m j (omega arith))

pub length-image : (g : Rule) (p n : ℕ) (m : List ℕ) → length (image g p n m) ≡ length m
unfolding image
length-image g p n m = length-image_from g p n 0 m

-- the definition, cell by cell
pub image-cell : (g : Rule) (p n : ℕ) (m : List ℕ) (i : ℕ) → i < length m
    → get_or (image g p n m) i 0 ≡ cond (within p n i) (g (i - p) (get_or m i 0)) (get_or m i 0)
unfolding image
image-cell g p n m i h = rw zero-add at (image_from-cell g p n 0 m i h)

within-yes : (p n i : ℕ) → p ≤ i → i < p + n → within p n i ≡ true
within-yes p n i a b = rw (le-leb p i a, lt-ltb i (p + n) b)

within-below : (p n i : ℕ) → i < p → within p n i ≡ false
within-below p n i a = rw (lt-leb p i a)

within-above : (p n i : ℕ) → p + n ≤ i → within p n i ≡ false
within-above p n i a = rw (le-leb p i (omega arith), le-ltb i (p + n) a)

-- a cell of the range is changed by its rule
pub image-changes : (g : Rule) (p n : ℕ) (m : List ℕ) (i : ℕ) → i < length m → p ≤ i → i < p + n → get_or (image g p n m) i 0 ≡ g (i - p) (get_or m i 0)
image-changes g p n m i h a b = image-cell g p n m i h ∙ cond_yes (within p n i) _ _ (within-yes p n i a b)

-- nothing outside the range differs
pub image-outside : (g : Rule) (p n : ℕ) (m : List ℕ) (i : ℕ) → (i < p) ⊎ (p + n ≤ i) → get_or (image g p n m) i 0 ≡ get_or m i 0
image-outside g p n m i h = pick (dec_lt i (length m))
  where
    no_change : i < length m → within p n i ≡ false → get_or (image g p n m) i 0 ≡ get_or m i 0
    no_change l e = image-cell g p n m i l ∙ cond_no (within p n i) (g (i - p) (get_or m i 0)) (get_or m i 0) e

    pick : Dec (i < length m) → get_or (image g p n m) i 0 ≡ get_or m i 0
    pick (yes l) = no_change l (⊎_elim (within-below p n i) (within-above p n i) h)
    pick (no l) =
        get_or-eq_default (image g p n m) 0 (omega (arith, length-image g p n m))
        ∙ sym (get_or-eq_default m 0 (omega arith))

-- the steps together are the whole image
pub sweep-image : (g : Rule) (m : List ℕ) (p n : ℕ) → sweep g m p n ≡ image g p n m
sweep-image g m p n = ext_get_or 0 _ _ (length-sweep g m p n ∙ sym (length-image g p n m)) (λ i h. cell i (omega (arith, length-sweep g m p n)))
  where
    outside : (i : ℕ) → (i < p) ⊎ (p + n ≤ i) → get_or (sweep g m p n) i 0 ≡ get_or (image g p n m) i 0
    outside i h = sweep-outside g m p n i h ∙ sym (image-outside g p n m i h)

    inside : (i : ℕ) → i < length m → p ≤ i → i < p + n → get_or (sweep g m p n) i 0 ≡ get_or (image g p n m) i 0
    inside i l a b =
        let e : p + (i - p) ≡ i = omega arith in
        let s : get_or (sweep g m p n) (p + (i - p)) 0 ≡ g (i - p) (get_or m (p + (i - p)) 0) = sweep-changes g m p n (i - p) (omega arith) (omega arith) in
        (rw e at s) ∙ sym (image-changes g p n m i l a b)

    above : (i : ℕ) → i < length m → p ≤ i → Dec (i < p + n) → get_or (sweep g m p n) i 0 ≡ get_or (image g p n m) i 0
    above i l a (yes b) = inside i l a b
    above i l a (no b) = outside i (inr (omega arith))

    pick : (i : ℕ) → i < length m → Dec (p ≤ i) → get_or (sweep g m p n) i 0 ≡ get_or (image g p n m) i 0
    pick i l (yes a) = above i l a (dec_lt i (p + n))
    pick i l (no a) = outside i (inl (omega arith))

    cell : (i : ℕ) → i < length m → get_or (sweep g m p n) i 0 ≡ get_or (image g p n m) i 0
    cell i l = pick i l (dec_le p i)
