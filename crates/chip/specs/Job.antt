-- A job: its size, its steps, what a step does to a cell (RULES, Jobs).
use Rattle.std.specs.Prelude.{ℕ, ◌+◌, ◌*◌, Bool, true, false, List}
use Rattle.cells.specs.Cells.{Rule, sweep, image, blanked, anded, later}
use Rattle.part.specs.Part.{page, small_sector, sector, length_of}
use Rattle.chip.specs.declared.Job.{Job}
use Rattle.chip.specs.declared.JobKind.{JobKind}
use Rattle.chip.specs.declared.JobKind.TheVariants.{Idle, WriteStatus, Program, SmallErase, SectorErase, ChipErase}

-- whether there is a job at all
abbrev pub is_job : JobKind → Bool
is_job Idle = false
is_job (WriteStatus value) = true
is_job Program = true
is_job SmallErase = true
is_job SectorErase = true
is_job ChipErase = true

-- whether the job changes cells, as programs and erases do: only such a job can be suspended
abbrev pub has_cells : JobKind → Bool
has_cells Idle = false
has_cells (WriteStatus value) = false
has_cells Program = true
has_cells SmallErase = true
has_cells SectorErase = true
has_cells ChipErase = true

-- the number of cells of a job on a part of S sectors, which is its size
abbrev pub span : JobKind → ℕ → ℕ
span Idle S = 0
span (WriteStatus value) S = 0
span Program S = page
span SmallErase S = small_sector
span SectorErase S = sector
span ChipErase S = length_of S

-- the number of cells of a step
abbrev pub unit : JobKind → ℕ
unit Idle = 0
unit (WriteStatus value) = 0
unit Program = 16
unit SmallErase = 256
unit SectorErase = 256
unit ChipErase = 256

-- the number of steps on a part of S sectors
abbrev pub total : JobKind → ℕ → ℕ
total Idle S = 0
total (WriteStatus value) S = 1
total Program S = 16
total SmallErase S = 16
total SectorErase S = 256
total ChipErase S = 256 * S

-- what becomes of a cell: ANDed with its load byte, or FFh; for the kinds whose steps have no cells any rule will do
abbrev pub rule : JobKind → List ℕ → Rule
rule Idle load = blanked
rule (WriteStatus value) load = blanked
rule Program load = anded load
rule SmallErase load = blanked
rule SectorErase load = blanked
rule ChipErase load = blanked

-- memory after k steps of a job from step d on: cells d × unit to (d + k) × unit of its range
abbrev pub steps : JobKind → ℕ → List ℕ → ℕ → ℕ → List ℕ → List ℕ
steps kind start load d k m = sweep (later (rule kind load) (d * unit kind)) m (start + d * unit kind) (k * unit kind)

-- what the whole job leaves, said without steps
abbrev pub whole_image : JobKind → ℕ → ℕ → List ℕ → List ℕ → List ℕ
whole_image kind S start load m = image (rule kind load) start (span kind S) m

-- no job
abbrev pub no_job : Job
no_job = record { kind = Idle; start = 0; done = 0 }
