-- The margin report: a line for each kind of job, and what one more job does to it (RULES, The margin report).
use Rattle.std.specs.Prelude.{ℕ, ◌+◌, min, Bool, cond, ◌&&◌, eqb, leb, ℤ, pos, ◌-ℤ◌}
use Rattle.std.specs.Int.Signed.{lt_z}
use Rattle.chip.specs.declared.JobKind.{JobKind}
use Rattle.chip.specs.declared.JobKind.TheVariants.{Idle, WriteStatus, Program, SmallErase, SectorErase, ChipErase}
use Rattle.margins.specs.declared.Line.{Line}
use Rattle.margins.specs.declared.Report.{Report}
use Rattle.margins.specs.declared.Allowances.{Allowances}

-- ---- allowances

-- the largest allowance
abbrev pub most_ticks : ℕ
most_ticks = 1000000

-- each of the five is at most that
unfoldable pub allowed : Allowances → Bool
allowed a = leb a.status most_ticks && leb a.program most_ticks && leb a.small most_ticks && leb a.sector most_ticks && leb a.chip most_ticks

-- the allowance of a kind of job
abbrev pub allowance_of : JobKind → Allowances → ℕ
allowance_of Idle a = 0
allowance_of (WriteStatus value) a = a.status
allowance_of Program a = a.program
allowance_of SmallErase a = a.small
allowance_of SectorErase a = a.sector
allowance_of ChipErase a = a.chip

-- a job's margin: what it was allowed less what it used, below 0 for a late one
abbrev pub margin : ℕ → ℕ → ℤ
margin allowance used = pos allowance -ℤ pos used

-- ---- a line

abbrev pub line : ℕ → ℤ → ℤ → Line
line count smallest largest = record { count = count; smallest = smallest; largest = largest }

abbrev pub lesser : ℤ → ℤ → ℤ
lesser a b = cond (lt_z a b) a b

abbrev pub greater : ℤ → ℤ → ℤ
greater a b = cond (lt_z a b) b a

-- where a count stops
abbrev pub most_jobs : ℕ
most_jobs = 4294967295

-- one margin more: the first is both the smallest and the largest; a later one joins them, each on its own, and the count goes on to its ceiling
unfoldable pub joined : ℤ → Line → Line
joined m l = cond (eqb l.count 0) (line 1 m m) (line (min (l.count + 1) most_jobs) (lesser m l.smallest) (greater m l.largest))

-- a line without jobs has no margins
unfoldable pub tidy_line : Line → Line
tidy_line l = cond (eqb l.count 0) (line 0 (pos 0) (pos 0)) l

-- ---- the report

-- what a script starts from: the margins of a line whose count is 0 are forgotten
abbrev pub tidied : Report → Report
tidied r =
    record {
      status = tidy_line r.status;
      program = tidy_line r.program;
      small = tidy_line r.small;
      sector = tidy_line r.sector;
      chip = tidy_line r.chip;
    }

-- one job more, in the line of its kind
abbrev pub counted : JobKind → ℤ → Report → Report
counted Idle m r = r
counted (WriteStatus value) m r = record { status = joined m r.status; program = r.program; small = r.small; sector = r.sector; chip = r.chip }
counted Program m r = record { status = r.status; program = joined m r.program; small = r.small; sector = r.sector; chip = r.chip }
counted SmallErase m r = record { status = r.status; program = r.program; small = joined m r.small; sector = r.sector; chip = r.chip }
counted SectorErase m r = record { status = r.status; program = r.program; small = r.small; sector = joined m r.sector; chip = r.chip }
counted ChipErase m r = record { status = r.status; program = r.program; small = r.small; sector = r.sector; chip = joined m r.chip }
