-- What the run's code keeps of the jobs that a script begins: whether a report is wanted, whether a job is followed, the ticks that it used, and the report so far.
-- `WatchLaws` shows that the report comes out as the list of jobs has it (RULES, The margin report).
use Rattle.std.specs.Prelude.{Option, None, Some, is_some, pos, ℕ, ◌+◌, Bool, true, false, cond, not, ◌||◌, List, ◌≡◌, eqb}
use Rattle.part.specs.Part.{Setting}
use Rattle.kinds.specs.Kinds.{TICK, TICKS, STAMP}
use Rattle.clock.specs.declared.Clock.{Clock}
use Rattle.clock.specs.Clock.{shows, moved_on}
use Rattle.chip.specs.declared.Chip.{Chip}
use Rattle.chip.specs.declared.Core.{Core}
use Rattle.chip.specs.declared.Record.{Record}
use Rattle.margins.specs.declared.Allowances.{Allowances}
use Rattle.margins.specs.declared.Line.{Line}
use Rattle.margins.specs.declared.Report.{Report}
use Rattle.margins.specs.Margins.{allowance_of, margin, line, counted}
use Rattle.script.specs.declared.Watch.{Watch as Watcher}
use Rattle.script.specs.Jobs.{is_two, stands, jobs_of}
use Rattle.script.specs.Report.{report_after}

-- ---- ticks of any kind

-- whether an event is ticks
abbrev pub ticking : ℕ → Bool
ticking kind = eqb kind TICKS || eqb kind TICK || eqb kind STAMP

-- how many, where the clock stands so; and the clock after an event
unfoldable pub ticks_of : Clock → ℕ → ℕ → ℕ
ticks_of k kind body = cond (eqb kind TICKS) body (cond (eqb kind TICK) 1 (moved_on k body))

unfoldable pub clock_by : Clock → ℕ → ℕ → Clock
clock_by k kind body = cond (eqb kind STAMP) (shows body) k

-- ---- the watch

-- whether a report is wanted, whether a job is followed, the ticks that it used so far, and the report so far
pub record Watch : Type 0 where
  pub wanted : Bool
  pub on : Bool
  pub used : ℕ
  pub report : Report

abbrev pub watch : Bool → Bool → ℕ → Report → Watch
watch wanted on used report = record { wanted = wanted; on = on; used = used; report = report }

-- a report without jobs
abbrev pub no_line : Line
no_line = line 0 (pos 0) (pos 0)

abbrev pub no_report : Report
no_report = record { status = no_line; program = no_line; small = no_line; sector = no_line; chip = no_line }

-- the ticks that the code keeps of the job that is followed; none where there is none
abbrev pub used_so_far : Option ℕ → ℕ
used_so_far None = 0
used_so_far (Some used) = used

-- what the code watches; where it watches nothing, no report is wanted
abbrev pub watched : Option Watcher → Watch
watched None = watch false false 0 no_report
watched (Some w) = watch true (is_some w.followed) (used_so_far w.followed) w.report

-- the allowances that it goes by; where it watches nothing, none is needed
abbrev pub allowances_of : Option Watcher → Allowances
allowances_of None = record { status = 0; program = 0; small = 0; sector = 0; chip = 0 }
allowances_of (Some w) = w.allowances

-- after an event that is no tick, which left this core and said this; no job is followed where no report is wanted
unfoldable pub after_event : Core → Record → Watch → Watch
after_event left said w =
    cond (not w.wanted) w
    (cond (not (stands left)) (watch w.wanted false 0 w.report)
    (cond (is_two said) (watch w.wanted true 0 w.report) w))

-- after n ticks, of which some worked, that found one core and left another
unfoldable pub after_ticks : Allowances → Core → Core → ℕ → ℕ → Watch → Watch
after_ticks a k left n worked w =
    cond (not w.on) w
    (cond (stands left) (watch w.wanted true (w.used + n) w.report)
    (watch w.wanted false 0 (counted k.job.kind (margin (allowance_of k.job.kind a) (w.used + worked)) w.report)))

-- the most ticks that a script of 65,536 bytes can give: three bytes for 65,535 of them
abbrev pub most_used : ℕ
most_used = 1431633920

-- what playing a script leaves of a report that it started from
abbrev pub Reports : Setting → Allowances → Chip → List ℕ → List ℕ → Report → Report → Type 0
Reports T a c m s r r' = r' ≡ report_after a (jobs_of T s c m) r
