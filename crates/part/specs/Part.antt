-- The part: its sizes, its six lengths, what an event is given of it, what an address means, and its identity (RULES, The array; Commands).
use Rattle.std.specs.Prelude.{ℕ, ◌/◌, ◌%◌, ◌*◌, ◌-◌, Bool, ◌||◌, List, [], ◌∷◌, eqb, get_or, cond, Option, None, Some}

-- the three sizes of the array, in cells (RULES, The array)
abbrev pub page : ℕ
page = 256

abbrev pub small_sector : ℕ
small_sector = 4096

abbrev pub sector : ℕ
sector = 65536

-- S, the number of sectors of a memory of n cells
abbrev pub sectors_in : ℕ → ℕ
sectors_in n = n / sector

-- and the number of cells of a part of S sectors
abbrev pub length_of : ℕ → ℕ
length_of S = S * sector

-- whether a part may be n cells long: six lengths are permitted (RULES, The array)
unfoldable pub permitted : ℕ → Bool
permitted n =
    eqb n (length_of 1) || eqb n (length_of 2) || eqb n (length_of 4) || eqb n (length_of 8) || eqb n (length_of 16) || eqb n (length_of 32)

-- the number of sectors of n cells, if a part has that length
abbrev pub sectors_if : ℕ → Option ℕ
sectors_if n = cond (permitted n) (Some (sectors_in n)) None

-- what an event is given and does not change: the number of sectors, and the bytes of the SFDP area (RULES, Events)
pub record Setting : Type 0 where
  pub sectors : ℕ
  pub area : List ℕ

abbrev pub setting : ℕ → List ℕ → Setting
setting S area = record { sectors = S; area = area }

-- the setting that goes with a memory of n cells and an area
abbrev pub setting_of : ℕ → List ℕ → Setting
setting_of n area = setting (sectors_in n) area

-- the cell that an address means on a part of S sectors: the rest of a division by the length (RULES, The array)
abbrev pub reduced : ℕ → ℕ → ℕ
reduced S address = address % length_of S

-- an address rounded down to a multiple of a size (RULES, Jobs)
abbrev pub rounded_down : ℕ → ℕ → ℕ
rounded_down size address = address - address % size

-- byte i of the cycle that 9Fh drives: maker, two bytes of identity, and a reserve code (RULES, Commands; docs/DECISIONS.md, D1)
abbrev pub jedec_byte : ℕ → ℕ
jedec_byte i = get_or (0x62 ∷ 0x16 ∷ 0x15 ∷ 0x00 ∷ []) i 0

-- the length of that cycle
abbrev pub jedec_cycle : ℕ
jedec_cycle = 4

-- what ABh drives (RULES, Commands)
abbrev pub device_byte : ℕ
device_byte = 0x88
