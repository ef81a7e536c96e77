-- What is true of the table of commands: a look through its rows; and that a length fits exactly where its rule does.
use Rattle.std.specs.Prelude.{ℕ, ◌+◌, ◌<◌, Bool, true, false, cond, ◌||◌, List, [], ◌≡◌, refl, eqb, leb, length, get_or, drop, None, Some}
use Rattle.std.proofs.Common.{add-one, drop-cons, eq-eqb, ne_eqb, sym, ap, ◌∙◌}
use Rattle.cells.specs.Choice.{cond_yes, cond_no}
use Rattle.commands.specs.declared.Length.TheVariants.{Any, Exactly, AtLeast}
use Rattle.commands.specs.declared.Row.{Row as RowValue}
use Rattle.commands.specs.Table.{Row, row_if, row_in, facts_of, fits_rule, length_by, fits}

-- a look that starts at row i ends there, if the row has the opcode
pub row_in_hit : (rs : List (List ℕ)) (i opcode : ℕ) → i < length rs → get_or (get_or rs i []) 0 0 ≡ opcode → row_in (drop i rs) opcode ≡ facts_of (get_or rs i [])
unfolding row_in
row_in_hit rs i opcode h e = rw (drop-cons rs i [] h) (cond_yes _ _ _ (eq-eqb _ _ e))

-- and goes on at the next row, if it has not
pub row_in_miss : (rs : List (List ℕ)) (i opcode : ℕ) → i < length rs → (get_or (get_or rs i []) 0 0 ≡ opcode → ⊥) → row_in (drop i rs) opcode ≡ row_in (drop (i + 1) rs) opcode
unfolding row_in
row_in_miss rs i opcode h e = rw (add-one, drop-cons rs i [] h) (cond_no _ _ _ (ne_eqb _ _ e))

-- whatever the rule, a length is asked as the rule asks it
pub fits_as : (rule n : ℕ) → fits (length_by rule) n ≡ fits_rule rule n
unfolding fits_rule
fits_as rule n = by_tests (eqb rule 0) (eqb rule 5)
  where
    by_tests : (any five : Bool) → fits (cond any Any (cond five (AtLeast 5) (Exactly rule))) n ≡ (any || cond five (leb 5 n) (eqb n rule))
    by_tests true _ = refl
    by_tests false true = refl
    by_tests false false = refl

-- an opcode without a row is not known, and the value of one that has a row says what the row says
pub row_none : (r : Row) → row_if r ≡ None → r.known ≡ false
row_none r e = by_known r.known refl
  where
    by_known : (k : Bool) → r.known ≡ k → r.known ≡ false
    by_known true p = let clash : Some _ ≡ None = sym (cond_yes r.known _ _ p) ∙ e in cc
    by_known false p = p

pub row_some : (r : Row) (v : RowValue) → row_if r ≡ Some v → (r.known ≡ true) × (v.length ≡ length_by r.rule) × (v.running ≡ r.running) × (v.suspended ≡ r.suspended)
row_some r v e = by_known r.known refl
  where
    by_known : (k : Bool) → r.known ≡ k → (r.known ≡ true) × (v.length ≡ length_by r.rule) × (v.running ≡ r.running) × (v.suspended ≡ r.suspended)
    by_known true p =
        let same : Some v ≡ Some (record { length = length_by r.rule; running = r.running; suspended = r.suspended }) = sym e ∙ cond_yes r.known _ _ p in
        let value : v ≡ record { length = length_by r.rule; running = r.running; suspended = r.suspended } = cc in
        (p, ap (λ (w : RowValue). w.length) value, ap (λ (w : RowValue). w.running) value, ap (λ (w : RowValue). w.suspended) value)
    by_known false p = let clash : None ≡ Some v = sym (cond_no r.known _ _ p) ∙ e in cc
