-- `put_run` puts line 1, runs the script, and puts the rest from the answer and the output, which is the run's text (`text_done`, `text_refused`).
use Rattle.std.proofs.Common.{arith, length-append}
use Rattle.listing.specs.Text.{part_line}
use Rattle.cells.specs.OutputLaws.{puts_as, puts_then, room_then}
use Rattle.listing.specs.Report.{run_text}
use Rattle.listing.proofs.ReportLaws.{text_done, text_refused}
use Rattle.listing.proofs.put_run.Goals as goal

pub put_number-requires : goal.put_number-requires
unfolding run_text part_line
put_number-requires c = simp length-append (omega (arith, simp length-append at c.requires))

pub put_done-requires : goal.put_done-requires
unfolding part_line
put_done-requires c = room_then _ c.put_number.ensures (omega (arith, rw (text_done _ _ _ _ _ _ c.in-Ok.ensures.0 c.in-Ok.ensures.2) at c.requires))

pub put_refused-requires : goal.put_refused-requires
unfolding part_line
put_refused-requires c = room_then _ c.put_number.ensures (omega (arith, rw (text_refused _ _ _ _ _ _ c.in-Err.ensures.0 c.in-Err.ensures.2) at c.requires))

pub returns-in-Ok : goal.returns-in-Ok
unfolding part_line
returns-in-Ok c = puts_as (text_done _ _ _ _ _ _ c.in-Ok.ensures.0 c.in-Ok.ensures.2) (puts_then c.put_number.ensures c.put_done.ensures)

pub returns-in-Err : goal.returns-in-Err
unfolding part_line
returns-in-Err c = puts_as (text_refused _ _ _ _ _ _ c.in-Err.ensures.0 c.in-Err.ensures.2) (puts_then c.put_number.ensures c.put_refused.ensures)
