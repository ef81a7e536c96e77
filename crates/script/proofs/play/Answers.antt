use Rattle.std.proofs.Common.{Bool, refl, true, not, ◌&&◌, ◌||◌, ◌≡◌, sym, ◌∙◌, ap, arith, eqb, get_or, rules}
use borrow.Author.Tests.{not-true}
use Rattle.std.proofs.Math.Bool.{or-false}
use Rattle.cells.specs.Choice.{and_left, and_right, either_false}
use Rattle.kinds.specs.Kinds.{TICK, TICKS}
use Rattle.kinds.specs.Body.{next_at}
use Rattle.kinds.proofs.Laws.{step_inside}
use Rattle.chip.specs.Chip.{running}
use Rattle.margins.specs.Margins.{allowed}
use Rattle.event.specs.Event.{applied}
use Rattle.script.specs.Watch.{watched}
use Rattle.script.proofs.WatchLaws.{worked-most, not-ticking}
use Rattle.script.proofs.Playing.{starts, watch-starts, plays_on, ready, watched_on, good, finds_room, turns, ticks_turn, idle_turn, plain_idle_turn, ends, event_watched, modest_then, ticks_watched, idle_watched, plain_idle_watched, reports}
use Rattle.script.proofs.play.Goals as goal

pub loop-at-init : goal.loop-at-init
loop-at-init c = (
  rw c.no_stamp-clock.ensures (starts _ _ _ _ _ c.requires.3),
  c.is_running-busy.ensures ∙ sym (ap (λ (b : Bool). running c.args.chip.now.core || b) c.requires.1 ∙ or-false _),
  rw c.no_stamp-clock.ensures (watch-starts _ _ _ _ _ _ c.requires.1 c.requires.2),
  refl,
)

pub hear-went-requires : goal.hear-went-requires
hear-went-requires c = (ready c.loop-at.invariant.0 c.loop-at-test.true c.requires.5, c.if-kind.true)

pub loop-at-smaller-then-kind : goal.loop-at-smaller-then-kind
loop-at-smaller-then-kind c = omega (arith, (c.hear-went.ensures c.loop-at.chip.held).further, c.loop-at-test.true)

pub loop-at-preserved-then-kind : goal.loop-at-preserved-then-kind
loop-at-preserved-then-kind c = (plays_on c.loop-at.invariant.0 (c.hear-went.ensures c.loop-at.chip.held), c.loop-at.invariant.1, watched_on c.loop-at.invariant.2 (c.hear-went.ensures c.loop-at.chip.held).heard, c.loop-at.invariant.3)

pub select-went-requires : goal.select-went-requires
select-went-requires c = (ready c.loop-at.invariant.0 c.loop-at-test.true c.requires.5, c.if-kind-2.true)

pub loop-at-smaller-then-kind-2 : goal.loop-at-smaller-then-kind-2
loop-at-smaller-then-kind-2 c = omega (arith, (c.select-went.ensures c.args.area.now c.loop-at.chip.held).further, c.loop-at-test.true)

pub loop-at-preserved-then-kind-2 : goal.loop-at-preserved-then-kind-2
loop-at-preserved-then-kind-2 c = (plays_on c.loop-at.invariant.0 (c.select-went.ensures c.args.area.now c.loop-at.chip.held), c.loop-at.invariant.1, watched_on c.loop-at.invariant.2 (c.select-went.ensures c.args.area.now c.loop-at.chip.held).heard, c.loop-at.invariant.3)

pub loop-at-preserved-then-busy-kind : goal.loop-at-preserved-then-busy-kind
loop-at-preserved-then-busy-kind c =
    let next : c.next_at-at.result ≡ next_at c.args.script.now c.loop-at.at = c.next_at-at.ensures ∙ step_inside c.args.script.now c.loop-at.at c.loop-at-test.true in
    let kind = get_or c.args.script.now c.loop-at.at 0 in
    let both : (not c.loop-at.busy && eqb kind TICKS) ≡ true = c.if-busy-kind.true in
    let idle = (either_false (running c.loop-at.core) (watched c.loop-at.watch).on).0 (sym c.loop-at.invariant.1 ∙ not-true c.loop-at.busy (and_left (not c.loop-at.busy) (eqb kind TICKS) both)) in
    let plain = ap (λ (b : Bool). b || eqb kind TICK) (and_right (not c.loop-at.busy) (eqb kind TICKS) both) in (
      rw next (plain_idle_turn c.loop-at.invariant.0 c.loop-at-test.true plain idle.0),
      c.loop-at.invariant.1,
      rw next (plain_idle_watched c.loop-at.invariant.2 c.loop-at-test.true (good c.loop-at.invariant.0 c.loop-at-test.true).ranged plain idle.0 idle.1),
      c.loop-at.invariant.3,
    )

pub loop-at-preserved-then-not-busy : goal.loop-at-preserved-then-not-busy
loop-at-preserved-then-not-busy c =
    let next : c.next_at-at-then-is_ticking.result ≡ next_at c.args.script.now c.loop-at.at = c.next_at-at-then-is_ticking.ensures ∙ step_inside c.args.script.now c.loop-at.at c.loop-at-test.true in
    let idle = (either_false (running c.loop-at.core) (watched c.loop-at.watch).on).0 (sym c.loop-at.invariant.1 ∙ c.if-not-busy.true) in
    let ticking = sym c.is_ticking.ensures ∙ c.if-is_ticking.true in (
      rw next (idle_turn c.loop-at.invariant.0 c.loop-at-test.true ticking _ c.body_at-body.ensures.0 _ c.ticks_of-n.ensures.0 _ c.clock_after-clock.ensures idle.0),
      c.loop-at.invariant.1,
      rw next (idle_watched c.loop-at.invariant.2 c.loop-at-test.true ticking _ c.body_at-body.ensures.0 _ c.ticks_of-n.ensures.0 c.ticks_of-n.ensures.1 _ c.clock_after-clock.ensures idle.0 idle.1),
      c.loop-at.invariant.3,
    )

pub watch_ticks-requires : goal.watch_ticks-requires
watch_ticks-requires c =
    let ticking = sym c.is_ticking.ensures ∙ c.if-is_ticking.true in
    let modest = modest_then c.loop-at.invariant.2 c.loop-at-test.true ticking _ c.body_at-body.ensures.0 _ c.ticks_of-n.ensures.0 c.ticks_of-n.ensures.1 _ c.clock_after-clock.ensures in (
      ap allowed c.loop-at.invariant.3 ∙ c.requires.0,
      omega (arith, modest, (good c.loop-at.invariant.0 c.loop-at-test.true).inside, c.loop-at.invariant.0.short),
      omega (arith, c.ticks-t.ensures.working, worked-most c.args.known.sectors c.ticks_of-n.result c.loop-at.core),
    )

pub loop-at-preserved-then-is_ticking : goal.loop-at-preserved-then-is_ticking
loop-at-preserved-then-is_ticking c =
    let next : c.next_at-at-then-is_ticking.result ≡ next_at c.args.script.now c.loop-at.at = c.next_at-at-then-is_ticking.ensures ∙ step_inside c.args.script.now c.loop-at.at c.loop-at-test.true in
    let ticking = sym c.is_ticking.ensures ∙ c.if-is_ticking.true in (
      rw next (ticks_turn c.loop-at.invariant.0 c.loop-at-test.true ticking _ c.body_at-body.ensures.0 _ c.ticks_of-n.ensures.0 _ c.clock_after-clock.ensures _ _ _ _ c.ticks-t.ensures (search rules) c.ticks-t.auto.mem),
      (λ i. c.is_running.ensures i || c.follows.ensures i),
      rw (next, c.watch_ticks.ensures.0, c.loop-at.invariant.3) (ticks_watched c.loop-at.invariant.2 c.loop-at-test.true ticking _ c.body_at-body.ensures.0 _ c.ticks_of-n.ensures.0 c.ticks_of-n.ensures.1 _ c.clock_after-clock.ensures _ _ _ _ c.ticks-t.ensures),
      c.watch_ticks.ensures.1 ∙ c.loop-at.invariant.3,
    )

pub put-pos-requires : goal.put-pos-requires
put-pos-requires c = finds_room c.loop-at.invariant.0 c.loop-at-test.true _ (c.step-s.ensures ∙ ap (applied _ _ _ _) c.body_at-body.ensures.0)

pub loop-at-preserved : goal.loop-at-preserved
loop-at-preserved c =
    let next : c.next_at-at-in-loop-at.result ≡ next_at c.args.script.now c.loop-at.at = c.next_at-at-in-loop-at.ensures ∙ step_inside c.args.script.now c.loop-at.at c.loop-at-test.true in
    let other = sym c.is_ticking.ensures ∙ c.if-is_ticking.false in
    let does = c.step-s.ensures ∙ ap (applied _ _ _ _) c.body_at-body.ensures.0 in (
      rw next (turns c.loop-at.invariant.0 c.loop-at-test.true (not-ticking (get_or c.args.script.now c.loop-at.at 0) other).not_stamp _ _ _ does c.put-pos.ensures (search rules) c.step-s.auto.mem c.put-pos.auto.out),
      (λ i. c.is_running-in-loop-at.ensures i || c.follows-in-loop-at.ensures i),
      rw (next, c.watch_event.ensures.0) (event_watched c.loop-at.invariant.2 c.loop-at-test.true other _ _ _ _ _ _ _ does),
      c.watch_event.ensures.1 ∙ c.loop-at.invariant.3,
    )

pub returns : goal.returns
returns c = (ends c.loop-at.invariant.0 c.loop-at-test.false, c.loop-at.invariant.2.asked, reports c.loop-at.invariant.2 c.loop-at-test.false)
