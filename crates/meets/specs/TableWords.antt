-- The definition of the table of commands says what `demands/specs/Commands` says.
use Rattle.std.specs.Prelude.{ℕ, Bool, true, false, List, [], ◌∷◌, ◌≡◌, refl, ◌↔◌}
use Rattle.std.proofs.Common.{sym, ap, subst, eq-eqb, eqb-true, le-leb, leb-true}
use Rattle.commands.specs.Table.{Row}
use Rattle.commands.specs.Table.{rows, row_in, row_of, fits_rule}
use Rattle.demands.specs.Demand2.{among}
use Rattle.demands.specs.Commands.{Length, any, exactly, at_least, HasLength, TakenAs, TableInNumbers}
use Rattle.meets.specs.Decided.{known_test, among-each}

-- every opcode of the table
abbrev opcodes : List ℕ
opcodes = 0x06 ∷ 0x04 ∷ 0x05 ∷ 0x01 ∷ 0x03 ∷ 0x0B ∷ 0x20 ∷ 0xD7 ∷ 0xD8 ∷ 0x60 ∷ 0xC7 ∷ 0x02 ∷ 0x0A ∷ 0xB0 ∷ 0x30 ∷ 0x9F ∷ 0xAB ∷ 0x5A ∷ 0xB9 ∷ 0x66 ∷ 0x99 ∷ []

-- the length rules
fits_any : (n : ℕ) → (fits_rule 0 n ≡ true) ↔ HasLength any n
unfolding fits_rule
fits_any n = (λ _. tt, λ _. refl)

fits_one : (n : ℕ) → (fits_rule 1 n ≡ true) ↔ HasLength (exactly 1) n
unfolding fits_rule
fits_one n = (eqb-true n 1, eq-eqb n 1)

fits_two : (n : ℕ) → (fits_rule 2 n ≡ true) ↔ HasLength (exactly 2) n
unfolding fits_rule
fits_two n = (eqb-true n 2, eq-eqb n 2)

fits_four : (n : ℕ) → (fits_rule 4 n ≡ true) ↔ HasLength (exactly 4) n
unfolding fits_rule
fits_four n = (eqb-true n 4, eq-eqb n 4)

fits_five : (n : ℕ) → (fits_rule 5 n ≡ true) ↔ HasLength (at_least 5) n
unfolding fits_rule
fits_five n = (leb-true 5 n, le-leb 5 n)

-- a row that is found in the table, and what its length rule takes
taken : (opcode rule : ℕ) (length : Length) (r s : Bool) → row_of opcode ≡ record { known = true; rule = rule; running = r; suspended = s }
    → ((n : ℕ) → (fits_rule rule n ≡ true) ↔ HasLength length n) → TakenAs opcode length r s
taken opcode rule length r s is fits =
    record {
      known = ap (λ (row : Row). row.known) is;
      fits = λ n. subst (λ (row : Row). (fits_rule row.rule n ≡ true) ↔ HasLength length n) (sym is) (fits n);
      while_running = ap (λ (row : Row). row.running) is;
      while_suspended = ap (λ (row : Row). row.suspended) is;
    }

-- The table of commands is the rule book's.
pub table_in_numbers : TableInNumbers
unfolding row_of row_in
table_in_numbers =
    record {
      known_are = λ opcode. (known_test (among opcodes) rows refl opcode, among-each (λ o. (row_of o).known ≡ true) opcodes (refl, (refl, (refl, (refl, (refl, (refl, (refl, (refl, (refl, (refl, (refl, (refl, (refl, (refl, (refl, (refl, (refl, (refl, (refl, (refl, (refl, tt))))))))))))))))))))) opcode);
      enables = (taken 0x06 1 (exactly 1) false false refl fits_one, (taken 0x04 1 (exactly 1) false false refl fits_one, tt));
      status = (taken 0x05 0 any true true refl fits_any, (taken 0x01 2 (exactly 2) false false refl fits_two, tt));
      reads = (taken 0x03 0 any false true refl fits_any, (taken 0x0B 0 any false true refl fits_any, tt));
      erases = (taken 0x20 4 (exactly 4) false true refl fits_four, (taken 0xD7 4 (exactly 4) false true refl fits_four, (taken 0xD8 4 (exactly 4) false true refl fits_four, (taken 0x60 1 (exactly 1) false true refl fits_one, (taken 0xC7 1 (exactly 1) false true refl fits_one, tt)))));
      programs = (taken 0x02 5 (at_least 5) false true refl fits_five, (taken 0x0A 5 (at_least 5) false true refl fits_five, tt));
      suspension = (taken 0xB0 1 (exactly 1) true false refl fits_one, (taken 0x30 1 (exactly 1) false true refl fits_one, tt));
      identities = (taken 0x9F 0 any false false refl fits_any, (taken 0xAB 0 any false false refl fits_any, (taken 0x5A 0 any false false refl fits_any, tt)));
      sleep = (taken 0xB9 1 (exactly 1) false false refl fits_one, tt);
      resets = (taken 0x66 1 (exactly 1) true true refl fits_one, (taken 0x99 1 (exactly 1) true true refl fits_one, tt));
    }
