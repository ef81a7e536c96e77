-- What is true of scripts that program: their pieces one by one, their length, and the longest of them.
use Rattle.std.specs.Prelude.{ℕ, zero, suc, ◌+◌, ◌*◌, ◌-◌, ◌/◌, ◌%◌, ◌<◌, ◌≤◌, min, List, [], ◌∷◌, ◌++◌, ◌≡◌, refl, eqb, length, get_or, take, drop}
use Rattle.std.proofs.Common.{sym, ap, ◌∙◌, add-one, arith, length-append, length-take, length-drop, drop_of_length-le, drop-cons, take-suc, take_all, ne_eqb}
use Rattle.std.proofs.Math.Decide.{dec_le}
use Rattle.cells.specs.Choice.{cond_no}
use Rattle.commands.specs.Table.{write_enable, page_program}
use Rattle.kinds.specs.Kinds.{EXCHANGE}
use Rattle.writer.specs.Writer.{Piece, piece, left_in_page, cut, pieces, exchanges_of, clean_deselect, frame_of, address_bytes, ticks_of, program_ticks, piece_script, script_of, program_script, piece_count, script_length}

-- ---- the pieces

-- fuel beyond the bytes changes nothing: each piece takes at least one of them
cut-enough : (f g A : ℕ) (bs : List ℕ) → length bs ≤ f → length bs ≤ g → cut f A bs ≡ cut g A bs
unfolding cut
cut-enough zero zero A bs p q = refl
cut-enough zero (suc g) A [] p q = refl
cut-enough zero (suc g) A (b ∷ bs) p q = absurd (omega arith)
cut-enough (suc f) zero A [] p q = refl
cut-enough (suc f) zero A (b ∷ bs) p q = absurd (omega arith)
cut-enough (suc f) (suc g) A [] p q = refl
cut-enough (suc f) (suc g) A (b ∷ bs) p q =
    let rest : List ℕ = drop (left_in_page A) (b ∷ bs) in
    let fewer : length rest ≤ length bs = omega (arith, length-drop (left_in_page A) (b ∷ bs)) in
    ap (λ (ps : List Piece). piece A (take (left_in_page A) (b ∷ bs)) ∷ ps) (cut-enough f g (A + left_in_page A) rest (omega arith) (omega arith))

-- no bytes, no pieces
pub pieces_none : (A : ℕ) → pieces A [] ≡ []
unfolding pieces cut
pieces_none A = refl

-- otherwise the bytes up to the end of the page, and the rest from the next page on
pieces-next : (A : ℕ) (bs : List ℕ) → 0 < length bs → pieces A bs ≡ piece A (take (left_in_page A) bs) ∷ pieces (A + left_in_page A) (drop (left_in_page A) bs)
unfolding pieces cut
pieces-next A [] some = absurd (omega arith)
pieces-next A (b ∷ bs) some =
    let rest : List ℕ = drop (left_in_page A) (b ∷ bs) in
    ap (λ (ps : List Piece). piece A (take (left_in_page A) (b ∷ bs)) ∷ ps)
    (cut-enough (length bs) (length rest) (A + left_in_page A) rest (omega (arith, length-drop (left_in_page A) (b ∷ bs))) (omega arith))

-- the same by the number of bytes that the first piece has, with the address carried on by as many
pub pieces_more : (A : ℕ) (bs : List ℕ) (n : ℕ) → 0 < length bs → n ≡ min (length bs) (left_in_page A) → pieces A bs ≡ piece A (take n bs) ∷ pieces (A + n) (drop n bs)
pieces_more A bs n some is = go (dec_le (left_in_page A) (length bs))
  where
    go : Dec (left_in_page A ≤ length bs) → pieces A bs ≡ piece A (take n bs) ∷ pieces (A + n) (drop n bs)
    go (yes whole) =
        let same : left_in_page A ≡ n = omega (arith, is) in
        pieces-next A bs some ∙ ap (λ (k : ℕ). piece A (take k bs) ∷ pieces (A + k) (drop k bs)) same
    go (no last) =
        let all : length bs ≤ left_in_page A = omega arith in
        let same : length bs ≤ n = omega (arith, is, all) in
        pieces-next A bs some
        ∙ ap (λ (front : List ℕ). piece A front ∷ pieces (A + left_in_page A) (drop (left_in_page A) bs)) (take_all (left_in_page A) bs all ∙ sym (take_all n bs same))
        ∙ ap (λ (ps : List Piece). piece A (take n bs) ∷ ps)
        (ap (pieces (A + left_in_page A)) (drop_of_length-le bs all) ∙ pieces_none (A + left_in_page A) ∙ sym (ap (pieces (A + n)) (drop_of_length-le bs same) ∙ pieces_none (A + n)))

-- ---- exchanges

pub exchanges-append : (xs ys : List ℕ) → exchanges_of (xs ++ ys) ≡ exchanges_of xs ++ exchanges_of ys
unfolding exchanges_of
exchanges-append [] ys = refl
exchanges-append (x ∷ xs) ys = ap (λ (s : List ℕ). EXCHANGE ∷ x ∷ s) (exchanges-append xs ys)

-- one byte more
pub exchanges-more : (bs : List ℕ) (i : ℕ) → i < length bs → exchanges_of (take (i + 1) bs) ≡ exchanges_of (take i bs) ++ (EXCHANGE ∷ get_or bs i 0 ∷ [])
unfolding exchanges_of
exchanges-more bs i h = ap (λ (k : ℕ). exchanges_of (take k bs)) (add-one i) ∙ ap exchanges_of (take-suc bs i 0 h) ∙ exchanges-append (take i bs) (get_or bs i 0 ∷ [])

-- those of the bytes from i on begin with the byte's own
pub exchanges-next : (bs : List ℕ) (i : ℕ) → i < length bs → exchanges_of (drop i bs) ≡ (EXCHANGE ∷ get_or bs i 0 ∷ []) ++ exchanges_of (drop (i + 1) bs)
unfolding exchanges_of
exchanges-next bs i h = rw (drop-cons bs i 0 h, add-one i)

pub length-exchanges : (bs : List ℕ) → length (exchanges_of bs) ≡ 2 * length bs
unfolding exchanges_of
length-exchanges [] = refl
length-exchanges (b ∷ bs) = omega (arith, length-exchanges bs)

-- ---- how long the script is

-- a frame has three bytes more than its exchanges
pub length-frame : (bs : List ℕ) → length (frame_of bs) ≡ 2 * length bs + 3
length-frame bs = omega (arith, length-append (exchanges_of bs) clean_deselect, length-exchanges bs)

-- the two frames of a piece
pub length-frames : (A : ℕ) (bs : List ℕ) → length (frame_of (write_enable ∷ []) ++ frame_of (page_program ∷ (address_bytes A ++ bs))) ≡ 16 + 2 * length bs
length-frames A bs =
    let enable : List ℕ = frame_of (write_enable ∷ []) in
    let program : List ℕ = frame_of (page_program ∷ (address_bytes A ++ bs)) in
    omega (arith, length-append enable program, length-frame (write_enable ∷ []), length-frame (page_program ∷ (address_bytes A ++ bs)))

pub length-piece : (p : Piece) → length (piece_script p) ≡ 19 + 2 * length p.bytes
length-piece p =
    omega
    (arith, length-append (frame_of (write_enable ∷ []) ++ frame_of (page_program ∷ (address_bytes p.address ++ p.bytes))) (ticks_of program_ticks), length-frames p.address p.bytes)

-- the script for some bytes: the events of those up to the end of the page, and the script for the others from there on
pub script_next : (A : ℕ) (bs front behind : List ℕ) (n : ℕ) → 0 < length bs → n ≡ min (length bs) (left_in_page A) → front ≡ take n bs → behind ≡ drop n bs
    → program_script A bs ≡ piece_script (piece A front) ++ program_script (A + length front) behind
unfolding script_of
script_next A bs front behind n some is f b =
    let long : length front ≡ n = omega (arith, ap length f, length-take n bs, is) in
    ap script_of (pieces_more A bs n some is)
    ∙ ap (λ (k : ℕ). piece_script (piece A (take n bs)) ++ program_script (A + k) (drop n bs)) (sym long)
    ∙ ap (λ (s : List ℕ). piece_script (piece A s) ++ program_script (A + length front) (drop n bs)) (sym f)
    ∙ ap (λ (s : List ℕ). piece_script (piece A front) ++ program_script (A + length front) s) (sym b)

-- for no bytes there is none
pub script_none : (A : ℕ) (bs : List ℕ) → length bs ≡ 0 → program_script A bs ≡ []
unfolding script_of
script_none A [] none = ap script_of (pieces_none A)
script_none A (b ∷ bs) none = absurd (omega arith)

-- some bytes touch one page more than they touch edges
count_some : (A n : ℕ) → 0 < n → piece_count A n ≡ (A % 256 + n - 1) / 256 + 1
count_some A n some = cond_no (eqb n 0) 0 _ (ne_eqb n 0 (λ z. omega (arith, z, some)))

-- the first piece is one of them
pub count_more : (A total n rest : ℕ) → 0 < total → n ≡ min total (left_in_page A) → rest ≡ total - n → piece_count A total ≡ 1 + piece_count (A + n) rest
count_more A total n zero some is left =
    let left_is : left_in_page A ≡ 256 - A % 256 = refl in
    omega (arith, count_some A total some, is, left, left_is)
count_more A total n (suc rest) some is left =
    let left_is : left_in_page A ≡ 256 - A % 256 = refl in
    omega (arith, count_some A total some, count_some (A + n) (suc rest) (omega arith), is, left, left_is)

-- both numbers of a script, by its pieces: how many there are, and how long it is
sizes : (fuel A : ℕ) (bs : List ℕ) → length bs ≤ fuel → (length (pieces A bs) ≡ piece_count A (length bs)) × (length (program_script A bs) ≡ script_length A (length bs))
unfolding script_of
sizes zero A [] few = (ap length (pieces_none A), ap (λ (ps : List Piece). length (script_of ps)) (pieces_none A))
sizes zero A (b ∷ bs) few = absurd (omega arith)
sizes (suc fuel) A [] few = sizes fuel A [] (omega arith)
sizes (suc fuel) A (b ∷ bs) few =
    let n : ℕ = min (length (b ∷ bs)) (left_in_page A) in
    let front : List ℕ = take n (b ∷ bs) in
    let behind : List ℕ = drop n (b ∷ bs) in
    let first : pieces A (b ∷ bs) ≡ piece A front ∷ pieces (A + n) behind = pieces_more A (b ∷ bs) n (omega arith) refl in
    let front_long : length front ≡ n = omega (arith, length-take n (b ∷ bs)) in
    let behind-long : length behind ≡ length (b ∷ bs) - n = length-drop n (b ∷ bs) in
    let rest = sizes fuel (A + n) behind (omega (arith, behind-long)) in
    let one_more : piece_count A (length (b ∷ bs)) ≡ 1 + piece_count (A + n) (length behind) = count_more A (length (b ∷ bs)) n (length behind) (omega arith) refl behind-long in (
      ap length first ∙ omega (arith, rest.0, one_more),
      ap (λ (ps : List Piece). length (script_of ps)) first ∙ omega (arith, length-append (piece_script (piece A front)) (program_script (A + n) behind), length-piece (piece A front), front_long, behind-long, rest.1, one_more),
    )

-- The pieces are as many as the pages that the bytes touch.
pub count_pieces : (A : ℕ) (bs : List ℕ) → length (pieces A bs) ≡ piece_count A (length bs)
count_pieces A bs = (sizes (length bs) A bs (omega arith)).0

-- The script has 19 bytes a piece, and 2 a byte.
pub length-script : (A : ℕ) (bs : List ℕ) → length (program_script A bs) ≡ script_length A (length bs)
length-script A bs = (sizes (length bs) A bs (omega arith)).1

-- that, where a tactic is to have it
pub ruleset script_long = (length-script)

-- 4,096 bytes make 17 pieces at the most
pub pieces-most : (A n : ℕ) → n ≤ 4096 → piece_count A n ≤ 17
pieces-most A zero few = omega arith
pieces-most A (suc n) few = omega (arith, count_some A (suc n) (omega arith))

-- The longest script has 8,515 bytes, far fewer than the 65,536 that a run takes; and there is one of that length.
pub longest_is : (A : ℕ) (bs : List ℕ) → length bs ≤ 4096 → (length (program_script A bs) ≤ 8515) × (8515 < 65536)
longest_is A bs few = (omega (arith, length-script A bs, pieces-most A (length bs) few), omega arith)

pub longest_met : (A : ℕ) (bs : List ℕ) → length bs ≡ 4096 → (A % 256 ≡ 0 → ⊥) → length (program_script A bs) ≡ 8515
longest_met A bs is off = length-script A bs ∙ ap (script_length A) is ∙ omega (arith, count_some A 4096 (omega arith), off)
