-- A stretch of a script that is played in one go: selects, exchanges and deselects that leave the job, the cells and the clock alone (RULES, Events).
use Rattle.std.specs.Prelude.{ℕ, zero, suc, ◌+◌, ◌*◌, ◌-◌, ◌<◌, ◌≤◌, Bool, true, cond, not, ◌&&◌, List, [], ◌++◌, ◌≡◌, eqb, length, get_or, set}
use Rattle.cells.specs.Put.{Put}
use Rattle.part.specs.Part.{Setting, length_of, reduced}
use Rattle.commands.specs.Table.{low_power_read, high_speed_read}
use Rattle.kinds.specs.Kinds.{SELECT, DESELECT}
use Rattle.kinds.specs.Row.{exchanges_from}
use Rattle.clock.specs.declared.Clock.{Clock}
use Rattle.chip.specs.declared.Chip.{Chip}
use Rattle.chip.specs.declared.Core.{Core}
use Rattle.chip.specs.declared.Frame.{Frame}
use Rattle.chip.specs.declared.Record.TheVariants.{Floating, Verdict}
use Rattle.chip.specs.Chip.{running}
use Rattle.chip.specs.Record.{record_bytes}
use Rattle.frame.specs.Stream.{slot_on, cells_on}
use Rattle.script.specs.declared.rows.Row.{Row}
use Rattle.script.specs.Script.{events_from, timed, first_bad, room, Good}
use Rattle.script.specs.Run.{world, runs}
use Rattle.script.specs.Jobs.{Followed, tick_by_tick, stands, jobs, is_on}

-- from one offset and chip to another, saying these bytes: the run, the jobs that are told, the faults and the room go on from there
pub record Heard (T : Setting) (s m : List ℕ) (at : ℕ) (c : Chip) (at' : ℕ) (c' : Chip) (said : List ℕ) : Type 0 where
  pub same : (k : Clock) (written : List ℕ) (ticks : ℕ) → runs T (timed k (events_from s at)) (world c m written ticks) ≡ runs T (timed k (events_from s at')) (world c' m (written ++ said) ticks)
  pub told : (k : Clock) (f : Followed) → (is_on f ≡ true → stands c.core ≡ true) → jobs T f (tick_by_tick (timed k (events_from s at))) c m ≡ jobs T f (tick_by_tick (timed k (events_from s at'))) c' m
  pub core_same : c'.core ≡ c.core
  pub clean : (k : Clock) → (first_bad k (events_from s at)).number ≡ 0 → (first_bad k (events_from s at')).number ≡ 0
  pub roomy : length said + room (events_from s at') ≤ room (events_from s at)
  pub onward : at ≤ at'
  pub inside : at' ≤ length s

-- such a stretch, with what it says stored in the output
pub record Went (T : Setting) (s m : List ℕ) (at : ℕ) (c : Chip) (out : List ℕ) (pos at' : ℕ) (c' : Chip) (out' : List ℕ) (pos' : ℕ) : Type 0 where
  pub said : List ℕ
  pub heard : Heard T s m at c at' c' said
  pub stored : Put out pos said pos' out'
  pub further : at < at'

-- some of them one behind the other, or none
pub data Reading (T : Setting) (s m : List ℕ) (at : ℕ) (c : Chip) (out : List ℕ) (pos at' : ℕ) (c' : Chip) (out' : List ℕ) (pos' : ℕ) : Type 0 where
  none : at' ≡ at → pos' ≡ pos → out' ≡ out → Reading T s m at c out pos at' c' out' pos'
  some : Went T s m at c out pos at' c' out' pos' → Reading T s m at c out pos at' c' out' pos'

-- a row of exchanges, as long as it is
abbrev pub Known : List ℕ → Row → Type 0
Known s r = r.count ≡ exchanges_from s r.at

-- S sectors that are a memory of n cells
pub record WholePart (S n : ℕ) : Type 0 where
  pub sectors : length_of S ≡ n
  pub some : 65536 ≤ n
  pub most : n ≤ 2097152

-- where a stretch can begin, on a part of S sectors: a good event, whose record and all later ones find room
pub record Ready (S : ℕ) (s m out : List ℕ) (at pos : ℕ) : Type 0 where
  pub part : WholePart S (length m)
  pub more : at < length s
  pub good : Good s at
  pub fits : pos + room (events_from s at) ≤ length out

-- ---- a row of a page load

-- n floating bytes
unfoldable pub floats : ℕ → List ℕ
floats zero = []
floats (suc n) = floats n ++ record_bytes Floating

-- a load with the bytes of n exchanges of a script, from a load place on
unfoldable pub loaded_on : List ℕ → ℕ → ℕ → ℕ → List ℕ → List ℕ
loaded_on s at slot zero load = load
loaded_on s at slot (suc n) load = set (loaded_on s at slot n load) (slot_on slot n) (get_or s (at + 2 * n + 1) 0)

-- ---- a whole frame of a read of cells

-- how many bytes come before the cells: the opcode and the address, and for 0Bh a dummy; no other opcode reads cells
abbrev pub header_of : ℕ → ℕ
header_of opcode = cond (eqb opcode low_power_read) 4 (cond (eqb opcode high_speed_read) 5 0)

-- the cell that its address means, on a part of S sectors
abbrev pub first_cell : ℕ → List ℕ → ℕ → ℕ
first_cell S s at = reduced S (get_or s (at + 4) 0 * 65536 + get_or s (at + 6) 0 * 256 + get_or s (at + 8) 0)

-- such a frame at an offset: a select, n exchanges, as many as its header has or more, and a deselect
pub record WholeRead (s : List ℕ) (at header n : ℕ) : Type 0 where
  pub is_select : get_or s at 0 ≡ SELECT
  pub row : n ≡ exchanges_from s (at + 1)
  pub is_header : header ≡ header_of (get_or s (at + 2) 0)
  pub headed : 0 < header
  pub long : header ≤ n
  pub closed : get_or s (at + 1 + 2 * n) 0 ≡ DESELECT
  pub ends : at + 1 + 2 * n + 2 ≤ length s

-- a chip that takes it as it stands: unselected, with no byte of a frame, awake, unarmed, with no job that runs
abbrev pub can_read : Core → Frame → Bool
can_read k f = not f.selected && eqb f.count 0 && not k.deep && not k.armed && not (running k)

-- what it says: its header floats, then come the cells, then verdict 0
abbrev pub frame_records : ℕ → List ℕ → List ℕ → ℕ → ℕ → ℕ → List ℕ
frame_records S s m at header n = floats header ++ cells_on m (length m) (first_cell S s at) (n - header) ++ record_bytes (Verdict 0)
