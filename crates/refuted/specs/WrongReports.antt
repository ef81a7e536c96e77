-- Wrong reporters: each is ours with one thing changed. `RefutedReports` has the theorems.
use Rattle.std.specs.Prelude.{ℕ, ◌+◌, ◌%◌, min, cond, List, [], ◌∷◌, eqb, ℤ, pos, length}
use Rattle.std.specs.Int.Signed.{lt_z}
use Rattle.part.specs.Part.{setting_of}
use Rattle.chip.specs.declared.JobKind.{JobKind}
use Rattle.chip.specs.declared.JobKind.TheVariants.{Idle, WriteStatus, Program, SmallErase, SectorErase, ChipErase}
use Rattle.margins.specs.declared.Allowances.{Allowances}
use Rattle.margins.specs.declared.Line.{Line}
use Rattle.margins.specs.declared.Report.{Report}
use Rattle.margins.specs.Margins.{allowance_of, margin, line, lesser, greater, most_jobs, joined, tidied}
use Rattle.script.specs.Script.{played}
use Rattle.script.specs.Jobs.{tick_by_tick, Finished, follows, jobs, jobs_of}
use Rattle.script.specs.Report.{report_after, refusal_with}
use Rattle.demands.specs.Demand1.{our_run}
use Rattle.demands.specs.Reporting.{ReportReply, Reporter, our_report}

-- ---- how a reporter is changed

-- ours, with one report where the script is done and one where it is refused
abbrev pub leaving : Report → Report → Reporter
leaving done refused a r c m area s out =
    record { run = (our_report a r c m area s out).run; report = cond (eqb (refusal_with a c (length m) (length area) s (length out)).number 0) done refused }

-- one job more, in the line of its kind, by a rule of its own
abbrev pub counted_by : (Line → Line) → JobKind → Report → Report
counted_by join Idle r = r
counted_by join (WriteStatus value) r = record { status = join r.status; program = r.program; small = r.small; sector = r.sector; chip = r.chip }
counted_by join Program r = record { status = r.status; program = join r.program; small = r.small; sector = r.sector; chip = r.chip }
counted_by join SmallErase r = record { status = r.status; program = r.program; small = join r.small; sector = r.sector; chip = r.chip }
counted_by join SectorErase r = record { status = r.status; program = r.program; small = r.small; sector = join r.sector; chip = r.chip }
counted_by join ChipErase r = record { status = r.status; program = r.program; small = r.small; sector = r.sector; chip = join r.chip }

-- the report after some jobs, by the ticks that count of a job and what its margin does to a line
unfoldable pub after_by : (Finished → ℕ) → (ℤ → Line → Line) → Allowances → List Finished → Report → Report
after_by ticks join a [] r = r
after_by ticks join a (j ∷ js) r = after_by ticks join a js (counted_by (join (margin (allowance_of j.kind a) (ticks j))) j.kind r)

-- a reporter by such rules; by the ticks used and `joined` it is ours
abbrev pub by_rules : (Finished → ℕ) → (ℤ → Line → Line) → Reporter
by_rules ticks join a r c m area s out = leaving (after_by ticks join a (jobs_of (setting_of (length m) area) s c m) (tidied r)) r a r c m area s out

abbrev pub joining : (ℤ → Line → Line) → Reporter
joining join = by_rules (λ j. j.used) join

-- ---- wrong reporters

-- margins that are handed in with a count of 0 stay
abbrev pub reads_margins_of_none : Reporter
reads_margins_of_none a r c m area s out = leaving (report_after a (jobs_of (setting_of (length m) area) s c m) r) r a r c m area s out

-- a job that stood at the start is counted
abbrev pub counts_what_stood : Reporter
counts_what_stood a r c m area s out = leaving (report_after a (jobs (setting_of (length m) area) (follows 0 0 0 0) (tick_by_tick (played s)) c m) (tidied r)) r a r c m area s out

-- a refused script's report is tidied
abbrev pub changes_refused : Reporter
changes_refused a r c m area s out = leaving (our_report a r c m area s out).report (tidied r) a r c m area s out

-- 18 only where nothing else refuses the script
abbrev pub takes18_late : Reporter
takes18_late a r c m area s out = cond (eqb (our_run c m area s out).refusal 0) (our_report a r c m area s out) (record { run = our_run c m area s out; report = r })

-- only the ticks that found a job running count
abbrev pub counts_working_ticks : Reporter
counts_working_ticks = by_rules (λ j. j.working) joined

-- a late job has the margin 0
abbrev pub cuts_at_zero : Reporter
cuts_at_zero = joining (λ m l. joined (cond (lt_z m (pos 0)) (pos 0) m) l)

-- a line with this count and these ends where it had jobs, and ours where it had none
abbrev pub joined_by : (ℕ → ℕ) → (ℤ → ℤ → ℤ) → (ℤ → ℤ → ℤ) → ℤ → Line → Line
joined_by next low high m l = cond (eqb l.count 0) (line 1 m m) (line (next l.count) (low m l.smallest) (high m l.largest))

-- smallest and largest are swapped
abbrev pub swaps_ends : Reporter
swaps_ends = joining (joined_by (λ n. min (n + 1) most_jobs) greater lesser)

-- a count goes on to 0, as 32 bits do, or over its ceiling
abbrev pub wraps_counts : Reporter
wraps_counts = joining (joined_by (λ n. (n + 1) % 4294967296) lesser greater)

abbrev pub counts_on : Reporter
counts_on = joining (joined_by (λ n. n + 1) lesser greater)

-- the first margin joins the zeros of a line without jobs
abbrev pub starts_from_zero : Reporter
starts_from_zero = joining (λ m l. line (min (l.count + 1) most_jobs) (lesser m l.smallest) (greater m l.largest))

-- write status jobs stand in the line of programs, and programs in theirs
abbrev pub crossed : Report → Report
crossed r = record { status = r.program; program = r.status; small = r.small; sector = r.sector; chip = r.chip }

abbrev pub mixes_kinds : Reporter
mixes_kinds a r c m area s out =
    let x : ReportReply = our_report a (crossed r) c m area s out in
    record { run = x.run; report = crossed x.report }
