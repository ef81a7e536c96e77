-- A page load: each data byte at its own offset in the page, over what stood there (RULES, Commands).
use Rattle.std.specs.Prelude.{ℕ, zero, suc, ◌+◌, ◌%◌, ◌<◌, ◌≤◌, true, List, [], ◌∷◌, ◌≡◌, refl, eqb, length, get_or, set}
use Rattle.std.proofs.Common.{ap, ◌∙◌, arith, length-set, get_or-set_same, get_or-set_other, eqb-true}
use Rattle.cells.specs.Choice.{and_left, and_right}
use Rattle.legal.specs.Legal.{is_blank}
use Rattle.demands.specs.Demand2.{LoadOf}

-- a load after these data bytes, the first of them at offset o
unfoldable pub load_after : List ℕ → ℕ → List ℕ → List ℕ
load_after [] o load = load
load_after (b ∷ bs) o load = load_after bs ((o + 1) % 256) (set load o b)

-- an offset that no byte falls on keeps what it held
load-spares : (bs : List ℕ) (o : ℕ) (load : List ℕ) (p : ℕ) → o < 256 → ((i : ℕ) → i < length bs → (o + i) % 256 ≡ p → ⊥) → get_or (load_after bs o load) p 0 ≡ get_or load p 0
unfolding load_after
load-spares [] o load p l h = refl
load-spares (b ∷ bs) o load p l h =
    load-spares bs ((o + 1) % 256) (set load o b) p (omega arith) (λ i q e. h (suc i) (omega arith) (omega arith))
    ∙ get_or-set_other load o p b 0 (λ e. h 0 (omega arith) (omega arith))

-- the last 256 data bytes stand at their own offsets: byte j of any number of bytes, if no 256 come after it, is at (address + j) mod 256.
load-keeps_last : (bs : List ℕ) (o : ℕ) (load : List ℕ) (j : ℕ) → o < 256 → length load ≡ 256 → j < length bs → length bs ≤ j + 256
    → get_or (load_after bs o load) ((o + j) % 256) 0 ≡ get_or bs j 0
unfolding load_after
load-keeps_last [] o load j l e h g = absurd (omega arith)
load-keeps_last (b ∷ bs) o load zero l e h g =
    let z : (o + 0) % 256 ≡ o = omega arith in
    ap (λ (q : ℕ). get_or (load_after bs ((o + 1) % 256) (set load o b)) q 0) z
    ∙ load-spares bs ((o + 1) % 256) (set load o b) o (omega arith) (λ i q x. omega arith)
    ∙ get_or-set_same load o b 0 (omega arith)
load-keeps_last (b ∷ bs) o load (suc j) l e h g =
    let z : (o + suc j) % 256 ≡ ((o + 1) % 256 + j) % 256 = omega arith in
    ap (λ (q : ℕ). get_or (load_after bs ((o + 1) % 256) (set load o b)) q 0) z
    ∙ load-keeps_last bs ((o + 1) % 256) (set load o b) j (omega arith) (length-set load o b ∙ e) (omega arith) (omega arith)

-- the load keeps its length
length-load : (bs : List ℕ) (o : ℕ) (load : List ℕ) → length (load_after bs o load) ≡ length load
unfolding load_after
length-load [] o load = refl
length-load (b ∷ bs) o load = length-load bs ((o + 1) % 256) (set load o b) ∙ length-set load o b

-- each byte of a blank load is FFh
blank-byte : (load : List ℕ) (p : ℕ) → is_blank load ≡ true → p < length load → get_or load p 0 ≡ 0xFF
unfolding is_blank
blank-byte [] p blank inside = absurd (omega arith)
blank-byte (b ∷ load) zero blank inside = eqb-true b 255 (and_left (eqb b 255) (is_blank load) blank)
blank-byte (b ∷ load) (suc p) blank inside = blank-byte load p (and_right (eqb b 255) (is_blank load) blank) (omega arith)

-- A blank page after these data bytes, the first of them for address A, is the load that the demand asks for.
pub load_of : (A : ℕ) (bytes load : List ℕ) → length load ≡ 256 → is_blank load ≡ true → LoadOf A bytes (load_after bytes (A % 256) load)
load_of A bytes load page blank =
    record {
      a_page = length-load bytes (A % 256) load ∙ page;
      last_stay = λ j inside last.
          let e : (A + j) % 256 ≡ (A % 256 + j) % 256 = omega arith in
          ap (λ (p : ℕ). get_or (load_after bytes (A % 256) load) p 0) e ∙ load-keeps_last bytes (A % 256) load j (omega arith) page inside last;
      rest_blank = λ p inside none.
          load-spares bytes (A % 256) load p (omega arith) (λ j l e. none j l (omega (arith, e))) ∙ blank-byte load p blank (omega (arith, page, inside));
    }
