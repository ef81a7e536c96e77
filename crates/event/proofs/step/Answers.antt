-- `event::step` meets its contract. The check finds each kind but ticks, which are `tick` of every load, and what is no kind.
use Rattle.std.proofs.Common.{refl}
use Rattle.kinds.specs.Kinds.{SELECT, EXCHANGE, DESELECT, TICK, TICKS, WP, POWER, known_kind, kind_row, kind_row_in}
use Rattle.kinds.proofs.Laws.{not-kind, none_known, unknown_row}
use Rattle.event.specs.Event.{applied}
use Rattle.event.proofs.step.Goals as goal

pub returns-in-Ok-Tick : goal.returns-in-Ok-Tick
unfolding applied
returns-in-Ok-Tick c = rw (← c.in-Ok-Tick.ensures, c.in-Ok-Tick.field-0-is) (c.tick.ensures c.args.area.now _)

pub returns-in-Ok-Ticks : goal.returns-in-Ok-Ticks
unfolding applied
returns-in-Ok-Ticks c = rw (← c.in-Ok-Ticks.ensures, c.in-Ok-Ticks.field-0-is) (c.tick-in-Ok-Ticks.ensures c.args.area.now _)

pub returns-in-Err : goal.returns-in-Err
unfolding applied known_kind kind_row kind_row_in
returns-in-Err c =
    let none = none_known (unknown_row c.args.kind c.in-Err.ensures) in
    let no = not-kind c.args.kind none in
    rw (no SELECT refl, no EXCHANGE refl, no DESELECT refl, no TICK refl, no TICKS refl, no WP refl, no POWER refl, c.stays-in-Err.ensures)
