-- A job's steps and its whole image in numbers, of the definitions themselves: how many steps, which cells each has, and what becomes of a cell (RULES, Jobs).
-- The demands use these words (`Demand3`); here a wrong definition of one is noticed.
use Rattle.std.specs.Prelude.{ℕ, ◌+◌, ◌*◌, ◌%◌, ◌<◌, ◌≤◌, List, ◌≡◌, ◌⊎◌, length, get_or}
use Rattle.std.specs.Int.Bits.{bit_and}
use Rattle.chip.specs.declared.JobKind.{JobKind}
use Rattle.chip.specs.declared.JobKind.TheVariants.{WriteStatus, Program, SmallErase, SectorErase, ChipErase}
use Rattle.chip.specs.Job.{total, span, steps, whole_image}

-- a job on a part of S sectors, of so many steps of so many cells: cell j of it becomes what is said of its load and of what it held, and no other cell changes
pub record CutInSteps (S : ℕ) (kind : JobKind) (count unit : ℕ) (becomes : List ℕ → ℕ → ℕ → ℕ) : Type 0 where
  pub steps_are : total kind S ≡ count
  pub size_is : span kind S ≡ count * unit
  -- step d: its cells, and the others
  pub step_inside : (start d : ℕ) (load m : List ℕ) (j : ℕ) → j < unit → start + d * unit + j < length m
      → get_or (steps kind start load d 1 m) (start + d * unit + j) 0 ≡ becomes load (d * unit + j) (get_or m (start + d * unit + j) 0)
  pub step_outside : (start d : ℕ) (load m : List ℕ) (i : ℕ) → (i < start + d * unit) ⊎ (start + d * unit + unit ≤ i) → get_or (steps kind start load d 1 m) i 0 ≡ get_or m i 0
  -- the whole image: its cells, and the others
  pub image_inside : (start : ℕ) (load m : List ℕ) (j : ℕ) → j < count * unit → start + j < length m
      → get_or (whole_image kind S start load m) (start + j) 0 ≡ becomes load j (get_or m (start + j) 0)
  pub image-outside : (start : ℕ) (load m : List ℕ) (i : ℕ) → (i < start) ⊎ (start + count * unit ≤ i) → get_or (whole_image kind S start load m) i 0 ≡ get_or m i 0

-- what becomes of a cell: ANDed with its load byte; FFh
abbrev pub loses_bits : List ℕ → ℕ → ℕ → ℕ
loses_bits load j old = bit_and old (get_or load (j % 256) 0)

abbrev pub is_erased : List ℕ → ℕ → ℕ → ℕ
is_erased load j old = 0xFF

-- the jobs
pub record JobsInNumbers (S : ℕ) : Type 0 where
  pub program : CutInSteps S Program 16 16 loses_bits
  pub small_erase : CutInSteps S SmallErase 16 256 is_erased
  pub sector_erase_lem : CutInSteps S SectorErase 256 256 is_erased
  pub chip_erase_lem : CutInSteps S ChipErase (256 * S) 256 is_erased
  -- a write status has one step and no cell
  pub write_status_lem : (value : ℕ) → total (WriteStatus value) S ≡ 1
  pub no_cell : (value start d k : ℕ) (load m : List ℕ) → steps (WriteStatus value) start load d k m ≡ m
