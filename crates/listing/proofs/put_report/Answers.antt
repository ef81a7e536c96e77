-- `put_report` goes by the script's length: too long, only that line, else the run's text, for which there is room (`report_fits`).
use Rattle.std.proofs.Common.{arith}
use Rattle.listing.proofs.ReportLaws.{report_long, report_run}
use Rattle.listing.proofs.RoomLaws.{report_fits}
use Rattle.listing.proofs.put_report.Goals as goal

pub returns-then-s-gt-LONGEST : goal.returns-then-s-gt-LONGEST
returns-then-s-gt-LONGEST c = rw (report_long _ c.if-s-gt-LONGEST.true) c.put.ensures

-- the text has room for what is printed of a run
pub put_run-requires : goal.put_run-requires
put_run-requires c = omega (arith, c.requires, rw (← c.fresh.ensures) at (report_fits c.args.s.now c.if-s-gt-LONGEST.false))

pub returns : goal.returns
returns c = rw (report_run _ c.if-s-gt-LONGEST.false, ← c.fresh.ensures) c.put_run.ensures
