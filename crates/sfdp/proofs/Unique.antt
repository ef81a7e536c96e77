-- Unique answers: any two answers that a public contract of this crate allows are equal.
use Rattle.std.specs.Prelude.{ℕ, ◌≡◌, List, Result, Ok, Err}
use Rattle.std.proofs.Common.{sym, ap, ◌∙◌}
use Rattle.std.proofs.lemmas.Bool.{eqb-false}
use Rattle.cells.specs.Choice.{same}
use Rattle.refusal.specs.declared.Refusal.{Refusal}
use Rattle.refusal.specs.Laws.{refused, refusal_by, by_number}
use Rattle.refusal.specs.Table.{number_of}
use Rattle.sfdp.specs.declared.TableAt.{TableAt}
use Rattle.sfdp.specs.Reader.{Found, found_as, found_of, table_of}

-- what is found, or what refuses it, is known by its numbers
pub found_one : (r r' : Result TableAt Refusal) → found_as r ≡ found_as r' → r ≡ r'
found_one (Ok at) (Ok at') e = λ i. Ok (record { place = ap (λ (f : Found). f.place) e i; length = ap (λ (f : Found). f.length) e i })
found_one (Ok at) (Err b) e = absurd (eqb-false (number_of b) 0 (refused b) (sym (ap (λ (f : Found). f.refusal) e)))
found_one (Err a) (Ok at') e = absurd (eqb-false (number_of a) 0 (refused a) (ap (λ (f : Found). f.refusal) e))
found_one (Err a) (Err b) e = ap Err (sym (by_number a) ∙ ap (λ (f : Found). refusal_by f.refusal) e ∙ by_number b)

-- `find_table`: the table's place and length, or the refusal; and the numbers of these
pub unique_result : (area : List ℕ) (identity : ℕ) (r r' : Result TableAt Refusal) → found_as r ≡ found_of area identity → found_as r' ≡ found_of area identity → r ≡ r'
unique_result area identity r r' p q = found_one r r' (same p q)

pub unique_find : (area : List ℕ) (identity : ℕ) (r r' : Found) → r ≡ found_of area identity → r' ≡ found_of area identity → r ≡ r'
unique_find area identity r r' p q = same p q

-- `table`: the bytes of the part
pub unique_table : (area : List ℕ) (identity : ℕ) (r r' : List ℕ) → r ≡ table_of area identity → r' ≡ table_of area identity → r ≡ r'
unique_table area identity r r' p q = same p q
