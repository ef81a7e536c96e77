-- What is true of the parts that a script is cut into, one behind the other: where they stand, and what rows they have.
use Rattle.std.specs.Prelude.{ℕ, zero, suc, ◌+◌, ◌*◌, ◌/◌, ◌<◌, ◌≤◌, ◌&&◌, List, ◌++◌, ◌≡◌, refl, eqb, leb, length, get_or, drop}
use Rattle.std.proofs.Common.{sym, ap, ◌∙◌, zero-le, arith, le-leb, lt-ltb, length-append, length-drop, get_or-drop}
use Rattle.std.proofs.lemmas.List.{drop-drop, drop_at, get_or_append_left}
use Rattle.kinds.specs.Kinds.{EXCHANGE}
use Rattle.kinds.specs.Row.{is_exchange, exchanges_from}
use Rattle.kinds.proofs.RowLaws.{row-longer}

-- the next part of a list from an offset on: its bytes are those of the list, inside it, and the rest stands behind them
pub record Cut (s part rest : List ℕ) (from : ℕ) : Type 0 where
  pub bytes : (j : ℕ) → j < length part → get_or part j 0 ≡ get_or s (from + j) 0
  pub inside : 0 < length part → from + length part ≤ length s
  pub behind : rest ≡ drop (from + length part) s

pub cut_next : (s part rest : List ℕ) (from : ℕ) → drop from s ≡ part ++ rest → Cut s part rest from
cut_next s part rest from e =
    record {
      bytes = λ j h. sym (get_or_append_left part rest 0 j h) ∙ ap (λ (l : List ℕ). get_or l j 0) (sym e) ∙ rw get_or-drop;
      inside = λ h. omega (arith, length-drop from s, ap length e, length-append part rest);
      behind = sym (drop_at part rest (length part) refl) ∙ ap (drop (length part)) (sym e) ∙ drop-drop (length part) from s;
    }

-- a part has the row that the list has there, as far as the part goes
pub row_of_cut : (s part rest : List ℕ) (at n : ℕ) → Cut s part rest at → length part ≡ 2 * n → leb (length part / 2) (exchanges_from part 0) ≡ leb n (exchanges_from s at)
row_of_cut s part rest at n cut size = rw half (upto n (omega arith))
  where
    half : length part / 2 ≡ n
    half = omega arith

    same : (i : ℕ) → i < n → is_exchange part (2 * i) ≡ is_exchange s (at + 2 * i)
    same i h =
        let inner : 2 * i + 1 < length part = omega arith in
        let outer : at + 2 * i + 1 < length s = omega (arith, cut.inside) in
        (λ k. eqb (cut.bytes (2 * i) (omega arith) k) EXCHANGE && (lt-ltb _ _ inner ∙ sym (lt-ltb _ _ outer)) k)

    upto : (i : ℕ) → i ≤ n → leb i (exchanges_from part 0) ≡ leb i (exchanges_from s at)
    upto zero h = le-leb 0 _ zero-le ∙ sym (le-leb 0 _ zero-le)
    upto (suc i) h =
        let step : suc i ≡ i + 1 = omega arith in
        let here : 0 + 2 * i ≡ 2 * i = omega arith in
        rw step (row-longer part 0 i ∙ rw here refl ∙ (λ k. upto i (omega arith) k && same i (omega arith) k) ∙ sym (row-longer s at i))
