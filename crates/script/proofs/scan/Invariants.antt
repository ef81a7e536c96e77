-- `script::scan` meets its contract. No event passed was bad by the clock that it found, so the first bad one lies ahead; the room counted and the room ahead are the whole. A row of exchanges is never bad (`row_clean`) and is given its room (`row_room`); other frequent events that are good are passed one by one (`passed`). The longest row is one that was counted.
-- `script::scan` meets its contract. No event passed was bad by the clock that it found, so the first bad one lies ahead; the room counted and the room ahead are the whole. A row of exchanges is never bad (`row_clean`) and is given its room (`row_room`); other frequent events that are good are passed one by one (`passed`). The longest row is one that was counted.
use Rattle.std.proofs.Common.{◌≤◌, ◌+◌, ◌*◌, ◌-◌, length, ◌≡◌}
use Rattle.clock.specs.Clock.{unset}
use Rattle.script.specs.Script.{events, events_from, first_bad, room}
use Rattle.kinds.specs.Kinds.{most_room}
use Rattle.script.specs.Heard.{Known}
use Rattle.script.proofs.scan.Given as goal

abbrev pub invariant-loop-at : goal.invariant-loop-at
invariant-loop-at l = (l.at ≤ length l.s) × (l.space ≤ most_room * l.at) × (first_bad unset (events l.s) ≡ first_bad l.clock (events_from l.s l.at)) × (room (events l.s) ≡ l.space + room (events_from l.s l.at)) × Known l.s l.longest

abbrev pub decreases-loop-at : goal.decreases-loop-at
decreases-loop-at l = length l.s - l.at
