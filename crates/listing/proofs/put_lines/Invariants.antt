-- `put_lines` puts a line at each event that yields a record: those of the events from the offset on are left to put, and their records stand in what is left of the output.
use Rattle.std.proofs.Common.{◌-◌, length}
use Rattle.cells.specs.Output.{Putting}
use Rattle.script.specs.Script.{events_from, events}
use Rattle.listing.specs.Output.{read_lines}
use Rattle.listing.proofs.put_lines.Given as goal

abbrev pub invariant-loop-offset : goal.invariant-loop-offset
invariant-loop-offset l = Putting l.initial.text (read_lines (events l.s) l.out 0) l.text (read_lines (events_from l.s l.offset) l.records 0)

abbrev pub decreases-loop-offset : goal.decreases-loop-offset
decreases-loop-offset l = length l.s - l.offset
