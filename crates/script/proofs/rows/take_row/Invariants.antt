-- `script::rows::take_row` meets its contract. Each byte goes to its load place (`slot_as`).
use Rattle.std.proofs.Common.{◌≡◌}
use Rattle.script.specs.Heard.{loaded_on}
use Rattle.script.proofs.rows.take_row.Given as goal

abbrev pub invariant-loop-i : goal.invariant-loop-i
invariant-loop-i l = l.load ≡ loaded_on l.script.bytes.now l.at l.slot l.i l.initial.load
