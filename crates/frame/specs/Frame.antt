-- A frame: the judgement at the opcode byte, and what each exchange drives, takes and leaves (RULES, Commands; Verdicts).
use Rattle.std.specs.Prelude.{ℕ, ◌+◌, ◌*◌, ◌%◌, Bool, cond, not, ◌&&◌, ◌||◌, List, eqb, ltb, leb, get_or, set}
use Rattle.part.specs.Part.{Setting, length_of, reduced, jedec_byte, jedec_cycle, device_byte}
use Rattle.part.specs.Area.{area_places, area_byte}
use Rattle.commands.specs.Table.{row_of, is_program, read_status, low_power_read, high_speed_read, jedec_id, wake, read_sfdp}
use Rattle.chip.specs.declared.Core.{Core}
use Rattle.chip.specs.declared.Frame.{Frame}
use Rattle.chip.specs.declared.Record.{Record}
use Rattle.chip.specs.declared.Record.TheVariants.{Floating, Driven}
use Rattle.chip.specs.Fields.{with_opcode, with_address, with_place, with_slot, with_count, with_judgement}
use Rattle.chip.specs.Chip.{running, status_byte}

-- ---- the judgement

-- what stops an opcode before its frame is read: 3 unknown, 5 asleep, 6 running, 7 suspended, 0 nothing (RULES, Verdicts)
unfoldable pub judge : Core → ℕ → ℕ
judge k opcode =
    cond (not (row_of opcode).known) 3
    (cond (k.deep && not (eqb opcode wake)) 5
    (cond (running k && not (row_of opcode).running) 6
    (cond (k.suspended && not (row_of opcode).suspended) 7 0)))

-- ---- what a byte does to the frame's numbers

-- the byte count goes up to 6, which means six or more
abbrev pub counted : ℕ → ℕ
counted n = cond (ltb n 6) (n + 1) 6

-- the address takes one byte more from below and keeps its low 24 bits, so the first of three ends on top
abbrev pub shifted : ℕ → ℕ → ℕ
shifted address b = address % 65536 * 256 + b

-- the next of n read places; the last is followed by 0
abbrev pub next_place : ℕ → ℕ → ℕ
next_place n place = cond (ltb (place + 1) n) (place + 1) 0

-- the next of 256 load places, likewise
abbrev pub next_slot : ℕ → ℕ
next_slot slot = (slot + 1) % 256

-- ---- the frame after a byte

-- a byte that is only counted
abbrev pub counting : Frame → Frame
counting f = with_count (counted f.count) f

-- the opcode byte, with its judgement
abbrev pub opened : Core → ℕ → Frame → Frame
opened k b f = with_opcode b (with_judgement (judge k b) (counting f))

-- a byte of a read, from a row of n places
abbrev pub reading : ℕ → Frame → Frame
reading n f = with_place (next_place n f.place) (counting f)

-- a data byte of a page program
abbrev pub loading : Frame → Frame
loading f = with_slot (next_slot f.slot) (counting f)

-- the read place that an address sets, on a part of S sectors: the cell that it means; of 5Ah the address as it is
abbrev pub first_place : ℕ → ℕ → ℕ → ℕ
first_place S opcode address = cond (eqb opcode read_sfdp) address (reduced S address)

-- bytes 2 to 4 are the address; the last of them sets both places
abbrev pub addressing : ℕ → ℕ → Frame → Frame
addressing S b f =
    with_address (cond (ltb f.count 4) (shifted f.address b) f.address)
    (with_place (cond (eqb f.count 3) (first_place S f.opcode (shifted f.address b)) f.place)
    (with_slot (cond (eqb f.count 3) b f.slot) (counting f)))

-- ---- an exchange

-- what an exchange says, and the frame and load that it leaves
pub record Exchange : Type 0 where
  pub said : Record
  pub frame : Frame
  pub load : List ℕ

abbrev pub exchange : Record → Frame → List ℕ → Exchange
exchange said f load = record { said = said; frame = f; load = load }

-- whether the next byte of the frame is a cell: from byte 5 of 03h, from byte 6 of 0Bh
abbrev pub reads_cell : Frame → Bool
reads_cell f = eqb f.opcode low_power_read && leb 4 f.count || eqb f.opcode high_speed_read && leb 5 f.count

-- whether it is data of a page program, which begins at byte 5
abbrev pub takes_data : Frame → Bool
takes_data f = is_program f.opcode && leb 4 f.count

-- whether it is a byte of the SFDP area: from byte 6 of 5Ah, after the dummy
abbrev pub reads_area : Frame → Bool
reads_area f = eqb f.opcode read_sfdp && leb 5 f.count

-- byte 2 and up of a frame with judgement none: a cell, a byte for the load, the status, the cycle of 9Fh, the identity of ABh, the SFDP area, or a byte that floats
unfoldable pub taken : Setting → Core → Frame → List ℕ → List ℕ → ℕ → Exchange
taken T k f load m b =
    cond (reads_cell f) (exchange (Driven (get_or m f.place 0)) (reading (length_of T.sectors) f) load)
    (cond (takes_data f) (exchange Floating (loading f) (set load f.slot b))
    (cond (eqb f.opcode read_status) (exchange (Driven (status_byte k)) (counting f) load)
    (cond (eqb f.opcode jedec_id) (exchange (Driven (jedec_byte f.place)) (reading jedec_cycle f) load)
    (cond (eqb f.opcode wake && leb 4 f.count) (exchange (Driven device_byte) (counting f) load)
    (cond (reads_area f) (exchange (Driven (area_byte T.area f.place)) (reading area_places f) load)
    (exchange Floating (addressing T.sectors b f) load))))))

-- an exchange of byte b: unselected it floats and does no more; the opcode byte floats and is judged; a judged frame floats to its end
unfoldable pub exchanged : Setting → Core → Frame → List ℕ → List ℕ → ℕ → Exchange
exchanged T k f load m b =
    cond (not f.selected) (exchange Floating f load)
    (cond (eqb f.count 0) (exchange Floating (opened k b f) load)
    (cond (not (eqb f.judgement 0)) (exchange Floating (counting f) load)
    (taken T k f load m b)))
