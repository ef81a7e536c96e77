-- `script::play` meets its contract. What is left of the script, run from here, comes to what the whole script comes to (`Playing`), and the jobs told from here on to the whole report if one is wanted (`Watching`); each turn is a stretch of it (`plays_on`, `watched_on`) or one event, ticks of any kind by `ticks_turn`, those that find nothing to do by `idle_turn`. Beside it stands whether a job runs or is followed.
use Rattle.std.proofs.Common.{◌-◌, ◌≡◌, ◌||◌, length}
use Rattle.part.specs.Part.{setting}
use Rattle.chip.specs.Chip.{whole, running}
use Rattle.script.specs.Watch.{watched, allowances_of}
use Rattle.script.proofs.Playing.{Playing, Watching}
use Rattle.script.proofs.play.Given as goal

abbrev pub invariant-loop-at : goal.invariant-loop-at
invariant-loop-at l = Playing (setting l.sectors l.area) l.script l.fn.chip l.initial.mem l.initial.out (whole l.core l.frame l.chip.load l.chip.held) l.mem l.out l.clock l.at l.pos l.ticks × (l.busy ≡ (running l.core || (watched l.watch).on)) × Watching (watched l.initial.watch).wanted (setting l.sectors l.area) (allowances_of l.initial.watch) l.script l.fn.chip l.initial.mem (watched l.initial.watch).report (whole l.core l.frame l.chip.load l.chip.held) l.mem l.clock l.at (watched l.watch) × (allowances_of l.watch ≡ allowances_of l.initial.watch)

abbrev pub decreases-loop-at : goal.decreases-loop-at
decreases-loop-at l = length l.script - l.at
