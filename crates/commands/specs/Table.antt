-- The commands: one row an opcode, with its length rule and where it is allowed (RULES, Commands).
use Rattle.std.specs.Prelude.{ℕ, Bool, true, false, cond, ◌||◌, List, [], ◌∷◌, eqb, leb, get_or, Option, None, Some}
use Rattle.commands.specs.declared.Length.{Length}
use Rattle.commands.specs.declared.Length.TheVariants.{Any, Exactly, AtLeast}
use Rattle.commands.specs.declared.Row.{Row as RowValue}

-- ---- the opcodes by name

abbrev pub write_enable : ℕ
write_enable = 0x06

abbrev pub write_disable : ℕ
write_disable = 0x04

abbrev pub read_status : ℕ
read_status = 0x05

abbrev pub write_status : ℕ
write_status = 0x01

abbrev pub low_power_read : ℕ
low_power_read = 0x03

abbrev pub high_speed_read : ℕ
high_speed_read = 0x0B

abbrev pub small_sector_erase : ℕ
small_sector_erase = 0x20

abbrev pub small_sector_erase' : ℕ
small_sector_erase' = 0xD7

abbrev pub sector_erase : ℕ
sector_erase = 0xD8

abbrev pub chip_erase : ℕ
chip_erase = 0x60

abbrev pub chip_erase' : ℕ
chip_erase' = 0xC7

abbrev pub page_program : ℕ
page_program = 0x02

abbrev pub page_program' : ℕ
page_program' = 0x0A

abbrev pub suspend : ℕ
suspend = 0xB0

abbrev pub resume : ℕ
resume = 0x30

abbrev pub jedec_id : ℕ
jedec_id = 0x9F

abbrev pub wake : ℕ
wake = 0xAB

abbrev pub read_sfdp : ℕ
read_sfdp = 0x5A

abbrev pub deep_power_down : ℕ
deep_power_down = 0xB9

abbrev pub reset_enable : ℕ
reset_enable = 0x66

abbrev pub reset : ℕ
reset = 0x99

-- ---- the table

-- opcode, length rule (0 any; 5 five or more; otherwise exactly that many bytes), allowed while running, allowed suspended
abbrev pub rows : List (List ℕ)
rows =
    (write_enable ∷ 1 ∷ 0 ∷ 0 ∷ [])
    ∷ (write_disable ∷ 1 ∷ 0 ∷ 0 ∷ [])
    ∷ (read_status ∷ 0 ∷ 1 ∷ 1 ∷ [])
    ∷ (write_status ∷ 2 ∷ 0 ∷ 0 ∷ [])
    ∷ (low_power_read ∷ 0 ∷ 0 ∷ 1 ∷ [])
    ∷ (high_speed_read ∷ 0 ∷ 0 ∷ 1 ∷ [])
    ∷ (small_sector_erase ∷ 4 ∷ 0 ∷ 1 ∷ [])
    ∷ (small_sector_erase' ∷ 4 ∷ 0 ∷ 1 ∷ [])
    ∷ (sector_erase ∷ 4 ∷ 0 ∷ 1 ∷ [])
    ∷ (chip_erase ∷ 1 ∷ 0 ∷ 1 ∷ [])
    ∷ (chip_erase' ∷ 1 ∷ 0 ∷ 1 ∷ [])
    ∷ (page_program ∷ 5 ∷ 0 ∷ 1 ∷ [])
    ∷ (page_program' ∷ 5 ∷ 0 ∷ 1 ∷ [])
    ∷ (suspend ∷ 1 ∷ 1 ∷ 0 ∷ [])
    ∷ (resume ∷ 1 ∷ 0 ∷ 1 ∷ [])
    ∷ (jedec_id ∷ 0 ∷ 0 ∷ 0 ∷ [])
    ∷ (wake ∷ 0 ∷ 0 ∷ 0 ∷ [])
    ∷ (read_sfdp ∷ 0 ∷ 0 ∷ 0 ∷ [])
    ∷ (deep_power_down ∷ 1 ∷ 0 ∷ 0 ∷ [])
    ∷ (reset_enable ∷ 1 ∷ 1 ∷ 1 ∷ [])
    ∷ (reset ∷ 1 ∷ 1 ∷ 1 ∷ [])
    ∷ []

-- the facts of an opcode: whether it has a row at all, and what that says
pub record Row : Type 0 where
  pub known : Bool
  pub rule : ℕ
  pub running : Bool
  pub suspended : Bool

-- the facts of a row, and those of an opcode that has none
abbrev pub facts_of : List ℕ → Row
facts_of r = record { known = true; rule = get_or r 1 0; running = eqb (get_or r 2 0) 1; suspended = eqb (get_or r 3 0) 1 }

abbrev pub no_row : Row
no_row = record { known = false; rule = 0; running = false; suspended = false }

-- the facts of an opcode, by the first row that has it
unfoldable pub row_in : List (List ℕ) → ℕ → Row
row_in [] opcode = no_row
row_in (r ∷ rs) opcode = cond (eqb (get_or r 0 0) opcode) (facts_of r) (row_in rs opcode)

unfoldable pub row_of : ℕ → Row
row_of opcode = row_in rows opcode

-- whether a frame of n bytes (6 meaning six or more) has the length that a rule asks
unfoldable pub fits_rule : ℕ → ℕ → Bool
fits_rule rule n = eqb rule 0 || cond (eqb rule 5) (leb 5 n) (eqb n rule)

-- the same, as a length: any; exactly so many bytes; so many and more
abbrev pub length_by : ℕ → Length
length_by rule = cond (eqb rule 0) Any (cond (eqb rule 5) (AtLeast 5) (Exactly rule))

abbrev pub fits : Length → ℕ → Bool
fits Any n = true
fits (Exactly bytes) n = eqb n bytes
fits (AtLeast bytes) n = leb bytes n

-- the facts of an opcode that has a row, as a value
abbrev pub row_if : Row → Option RowValue
row_if r = cond r.known (Some (record { length = length_by r.rule; running = r.running; suspended = r.suspended })) None

-- the reads, which are verdict 0 however they end: 05h, 03h, 0Bh, 9Fh, 5Ah (RULES, Verdicts)
unfoldable pub is_read : ℕ → Bool
is_read opcode = eqb opcode read_status || eqb opcode low_power_read || eqb opcode high_speed_read || eqb opcode jedec_id || eqb opcode read_sfdp

-- a page program: 02h, 0Ah
unfoldable pub is_program : ℕ → Bool
is_program opcode = eqb opcode page_program || eqb opcode page_program'
