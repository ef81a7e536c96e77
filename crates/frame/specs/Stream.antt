-- A data byte of a read of cells or of a page load: it asks nothing of the core and of the area, so that a run needs no more than the frame for it (RULES, Commands).
use Rattle.std.specs.Prelude.{ℕ, zero, suc, ◌+◌, Bool, cond, ◌&&◌, ◌||◌, List, [], ◌++◌, eqb, get_or, set}
use Rattle.part.specs.Part.{length_of}
use Rattle.commands.specs.Table.{is_program}
use Rattle.chip.specs.declared.Frame.{Frame}
use Rattle.chip.specs.declared.Record.TheVariants.{Floating, Driven}
use Rattle.chip.specs.Fields.{with_place, with_slot, with_count}
use Rattle.chip.specs.Record.{record_bytes}
use Rattle.frame.specs.Frame.{Exchange, exchange, counted, next_place, next_slot, reading, loading, reads_cell, takes_data}

-- whether the next byte is such a byte
abbrev pub is_data : Frame → Bool
is_data f = reads_cell f || takes_data f

-- and the frame is open and not judged
abbrev pub streams : Frame → Bool
streams f = f.selected && eqb f.judgement 0 && is_data f

-- what it does, on a part of S sectors: of a program it goes into the load, of a read a cell is driven
unfoldable pub streamed : ℕ → Frame → List ℕ → List ℕ → ℕ → Exchange
streamed S f load m b =
    cond (is_program f.opcode) (exchange Floating (loading f) (set load f.slot b)) (exchange (Driven (get_or m f.place 0)) (reading (length_of S) f) load)

-- ---- a row of data bytes

-- the read place n places further on, in a row of N places
unfoldable pub place_on : ℕ → ℕ → ℕ → ℕ
place_on N place zero = place
place_on N place (suc n) = next_place N (place_on N place n)

-- the byte count n bytes further on
unfoldable pub count_on : ℕ → ℕ → ℕ
count_on count zero = count
count_on count (suc n) = counted (count_on count n)

-- the frame after n data bytes of a read, from a row of N places
abbrev pub read_on : ℕ → ℕ → Frame → Frame
read_on N n f = with_place (place_on N f.place n) (with_count (count_on f.count n) f)

-- the load place n places further on, and the frame after n data bytes of a page load
unfoldable pub slot_on : ℕ → ℕ → ℕ
slot_on slot zero = slot
slot_on slot (suc n) = next_slot (slot_on slot n)

abbrev pub load_on : ℕ → Frame → Frame
load_on n f = with_slot (slot_on f.slot n) (with_count (count_on f.count n) f)

-- what n cells from a place on are told by, in a memory of N cells, the last followed by cell 0
unfoldable pub cells_on : List ℕ → ℕ → ℕ → ℕ → List ℕ
cells_on m N place zero = []
cells_on m N place (suc n) = cells_on m N place n ++ record_bytes (Driven (get_or m (place_on N place n) 0))

-- the same of n cells one behind the other
unfoldable pub cells_up : List ℕ → ℕ → ℕ → List ℕ
cells_up m place zero = []
cells_up m place (suc n) = cells_up m place n ++ record_bytes (Driven (get_or m (place + n) 0))
