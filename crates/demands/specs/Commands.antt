-- The table of commands in numbers, of the definition itself: the opcodes, the lengths, and where each is taken (RULES, Commands). The demands use these words
-- (`Demand2`); here a wrong row is noticed.
use Rattle.std.specs.Prelude.{ℕ, ◌≤◌, Bool, true, false, [], ◌∷◌, ◌≡◌, ◌↔◌}
use Rattle.commands.specs.Table.{row_of, fits_rule}
use Rattle.demands.specs.Demand2.{among, Rows}

-- the lengths that a command may have: any, exactly so many bytes, or so many and more
pub data Length : Type 0 where
  any : Length
  exactly : ℕ → Length
  at_least : ℕ → Length

-- a frame of n bytes has such a length
abbrev pub HasLength : Length → ℕ → Type 0
HasLength any n = Unit {0}
HasLength (exactly k) n = n ≡ k
HasLength (at_least k) n = k ≤ n

-- a row: the opcode is known, its length rule takes these lengths, and it is taken while a job runs, and while one is suspended, or not
pub record TakenAs (opcode : ℕ) (length : Length) (running suspended : Bool) : Type 0 where
  pub known : (row_of opcode).known ≡ true
  pub fits : (n : ℕ) → (fits_rule (row_of opcode).rule n ≡ true) ↔ HasLength length n
  pub while_running : (row_of opcode).running ≡ running
  pub while_suspended : (row_of opcode).suspended ≡ suspended

-- the rows of the table, and that there are no others
pub record TableInNumbers : Type 0 where
  pub known_are : (opcode : ℕ)
      → ((row_of opcode).known ≡ true)
      ↔ (among
      (0x06 ∷ 0x04 ∷ 0x05 ∷ 0x01 ∷ 0x03 ∷ 0x0B ∷ 0x20 ∷ 0xD7 ∷ 0xD8 ∷ 0x60 ∷ 0xC7 ∷ 0x02 ∷ 0x0A ∷ 0xB0 ∷ 0x30 ∷ 0x9F ∷ 0xAB ∷ 0x5A ∷ 0xB9 ∷ 0x66 ∷ 0x99 ∷ []) opcode
      ≡ true)
  pub enables : Rows (TakenAs 0x06 (exactly 1) false false ∷ TakenAs 0x04 (exactly 1) false false ∷ [])
  pub status : Rows (TakenAs 0x05 any true true ∷ TakenAs 0x01 (exactly 2) false false ∷ [])
  pub reads : Rows (TakenAs 0x03 any false true ∷ TakenAs 0x0B any false true ∷ [])
  pub erases : Rows (TakenAs 0x20 (exactly 4) false true ∷ TakenAs 0xD7 (exactly 4) false true ∷ TakenAs 0xD8 (exactly 4) false true ∷ TakenAs 0x60 (exactly 1) false true ∷ TakenAs 0xC7 (exactly 1) false true ∷ [])
  pub programs : Rows (TakenAs 0x02 (at_least 5) false true ∷ TakenAs 0x0A (at_least 5) false true ∷ [])
  pub suspension : Rows (TakenAs 0xB0 (exactly 1) true false ∷ TakenAs 0x30 (exactly 1) false true ∷ [])
  pub identities : Rows (TakenAs 0x9F any false false ∷ TakenAs 0xAB any false false ∷ TakenAs 0x5A any false false ∷ [])
  pub sleep : Rows (TakenAs 0xB9 (exactly 1) false false ∷ [])
  pub resets : Rows (TakenAs 0x66 (exactly 1) true true ∷ TakenAs 0x99 (exactly 1) true true ∷ [])
