use Rattle.std.proofs.Common.{ℕ, ◌≤◌, ◌<◌, ◌+◌, ◌*◌, add-zero, add_assoc, zero-add, arith, eqb, ltb, length, get_or, true, false, ◌&&◌, eq-eqb, eqb-true, ltb-true, ⊎_elim, subst, refl, ◌≡◌, sym, ◌∙◌, ap, rules}
use mathlib.Core.Bool.{false≢true}
use Rattle.kinds.specs.Body.{next_at}
use Rattle.kinds.proofs.Laws.{step_inside}
use Rattle.clock.specs.declared.Clock.{Clock}
use Rattle.clock.specs.Clock.{shows, went_back}
use Rattle.script.specs.Script.{events_from, event_at, fault_at, clock_after, first_bad, room, refusal_of, fault_by}
use Rattle.kinds.specs.Kinds.{SELECT, DESELECT, TICKS, EXCHANGE, STAMP, room_of, kind_row, kind_row_in}
use Rattle.cells.specs.Choice.{cond_yes, not_so, and_left, and_right}
use Rattle.script.proofs.Laws.{number_some, stamp-next, first_bad-none, first_bad-here, first_bad-later, as_written, well_back, well_forward, well_by_any, good_event, clock_stays, room-none, room-more, passed_well}
use Rattle.refusal.specs.Table.{number_of}
use Rattle.kinds.specs.Row.{exchanges_from}
use Rattle.kinds.proofs.RowLaws.{row-past, row_inside}
use Rattle.script.specs.Heard.{Known}
use Rattle.script.proofs.RowLaws.{row-some, row_clean, row_room}
use Rattle.script.proofs.scan.Goals as goal

pub loop-at-init : goal.loop-at-init
loop-at-init c = (search rules, search rules, ap (λ (k : Clock). first_bad k (events_from c.args.s.now 0)) (sym c.no_stamp-clock.ensures), sym (zero-add _), sym (row-past c.args.s.now (length c.args.s.now) (omega arith)))

pub overflow_mul-space : goal.overflow_mul-space
unfolding kind_row kind_row_in
overflow_mul-space c = omega (arith, ap (λ (r : ℕ). r * c.exchanges_from-n.result) c.room_of.ensures.0, c.exchanges_from-n.ensures, row_inside c.args.s.now c.loop-at.at c.loop-at.invariant.0, c.requires)

pub overflow_add-space : goal.overflow_add-space
unfolding kind_row kind_row_in
overflow_add-space c = omega (arith, ap (λ (r : ℕ). r * c.exchanges_from-n.result) c.room_of.ensures.0, c.exchanges_from-n.ensures, row_inside c.args.s.now c.loop-at.at c.loop-at.invariant.0, c.loop-at.invariant.1, c.requires)

pub overflow_mul-at : goal.overflow_mul-at
overflow_mul-at c = omega (arith, c.exchanges_from-n.ensures, row_inside c.args.s.now c.loop-at.at c.loop-at.invariant.0, c.requires)

pub overflow_add-at-then-s-at : goal.overflow_add-at-then-s-at
overflow_add-at-then-s-at c = omega (arith, c.exchanges_from-n.ensures, row_inside c.args.s.now c.loop-at.at c.loop-at.invariant.0, c.requires)

pub loop-at-smaller-then-s-at : goal.loop-at-smaller-then-s-at
loop-at-smaller-then-s-at c =
    let both : (eqb (get_or c.args.s.now c.loop-at.at 0) EXCHANGE && ltb (c.loop-at.at + 1) (length c.args.s.now)) ≡ true = c.if-s-at.true in
    let e : get_or c.args.s.now c.loop-at.at 0 ≡ EXCHANGE = eqb-true _ _ (and_left (eqb (get_or c.args.s.now c.loop-at.at 0) EXCHANGE) (ltb (c.loop-at.at + 1) (length c.args.s.now)) both) in
    let more : c.loop-at.at + 1 < length c.args.s.now = ltb-true _ _ (and_right (eqb (get_or c.args.s.now c.loop-at.at 0) EXCHANGE) (ltb (c.loop-at.at + 1) (length c.args.s.now)) both) in
    omega (arith, c.exchanges_from-n.ensures, row_inside c.args.s.now c.loop-at.at c.loop-at.invariant.0, row-some c.args.s.now c.loop-at.at e (omega arith))

pub loop-at-preserved-then-s-at : goal.loop-at-preserved-then-s-at
unfolding kind_row kind_row_in
loop-at-preserved-then-s-at c =
    let s = c.args.s.now in
    let at = c.loop-at.at in
    let n = c.exchanges_from-n.result in
    let is : n ≤ exchanges_from s at = omega (arith, c.exchanges_from-n.ensures) in
    let inside = row_inside s at c.loop-at.invariant.0 in (
      omega (arith, inside, c.exchanges_from-n.ensures),
      omega (arith, c.loop-at.invariant.1, ap (λ (r : ℕ). r * n) c.room_of.ensures.0),
      c.loop-at.invariant.2 ∙ row_clean s (λ i. (c.shared_slice_known-in-loop-at-1.given i).fits) at c.loop-at.invariant.0 c.loop-at.clock n is,
      c.loop-at.invariant.3 ∙ ap (λ (r : ℕ). c.loop-at.space + r) (row_room s (λ i. (c.shared_slice_known-in-loop-at-1.given i).fits) at c.loop-at.invariant.0 n is) ∙ rw c.room_of.ensures.0 (sym (add_assoc _ _ _)),
      ⊎_elim (λ e. subst (Known s) (sym e) c.loop-at.invariant.4) (λ e. subst (Known s) (sym e) c.exchanges_from-n.ensures) c.longer-longest.ensures,
    )

pub loop-at-preserved-then-is_good : goal.loop-at-preserved-then-is_good
unfolding kind_row kind_row_in
loop-at-preserved-then-is_good c =
    let p = passed_well c.loop-at.clock c.args.s.now c.loop-at.at TICKS 3 c.loop-at-test.true refl refl (sym c.is_good.ensures ∙ c.if-is_good.true) in (
      p.inside,
      omega (arith, c.loop-at.invariant.1),
      c.loop-at.invariant.2 ∙ p.bad_behind,
      c.loop-at.invariant.3 ∙ ap (λ (r : ℕ). c.loop-at.space + r) (p.room-behind ∙ zero-add _),
      c.loop-at.invariant.4,
    )

pub loop-at-preserved-then-is_good-2 : goal.loop-at-preserved-then-is_good-2
unfolding kind_row kind_row_in
loop-at-preserved-then-is_good-2 c =
    let p = passed_well c.loop-at.clock c.args.s.now c.loop-at.at DESELECT 2 c.loop-at-test.true refl refl (sym c.is_good-in-loop-at.ensures ∙ c.if-is_good-2.true) in (
      p.inside,
      omega (arith, c.loop-at.invariant.1, c.room_of-space.ensures.1),
      c.loop-at.invariant.2 ∙ p.bad_behind,
      c.loop-at.invariant.3 ∙ ap (λ (r : ℕ). c.loop-at.space + r) p.room-behind ∙ rw c.room_of-space.ensures.0 (sym (add_assoc _ _ _)),
      c.loop-at.invariant.4,
    )

pub loop-at-preserved-then-is_good-3 : goal.loop-at-preserved-then-is_good-3
unfolding kind_row kind_row_in
loop-at-preserved-then-is_good-3 c =
    let p = passed_well c.loop-at.clock c.args.s.now c.loop-at.at SELECT 1 c.loop-at-test.true refl refl (sym c.is_good-in-loop-at-2.ensures ∙ c.if-is_good-3.true) in (
      p.inside,
      omega (arith, c.loop-at.invariant.1),
      c.loop-at.invariant.2 ∙ p.bad_behind,
      c.loop-at.invariant.3 ∙ ap (λ (r : ℕ). c.loop-at.space + r) (p.room-behind ∙ zero-add _),
      c.loop-at.invariant.4,
    )

pub returns-then-went_back : goal.returns-then-went_back
returns-then-went_back c =
    let s = c.args.s.now in
    let at = c.loop-at.at in
    let good : (eqb (get_or s at 0) STAMP && eqb (fault_at s at) 0) ≡ true = sym c.is_good-in-loop-at-3.ensures ∙ c.if-is_good-4.true in
    let e : get_or s at 0 ≡ STAMP = eqb-true _ _ (and_left (eqb (get_or s at 0) STAMP) (eqb (fault_at s at) 0) good) in
    let well : fault_at s at ≡ 0 = eqb-true _ _ (and_right (eqb (get_or s at 0) STAMP) (eqb (fault_at s at) 0) good) in
    let is : fault_by c.loop-at.clock (event_at s at) ≡ 8 = well_back c.loop-at.clock s at well e (ap (went_back c.loop-at.clock) (sym c.body_at-stamp.ensures.0) ∙ sym c.went_back.ensures ∙ c.if-went_back.true) in
    ap (λ (n : ℕ). refusal_of n at) (sym is) ∙ sym (c.loop-at.invariant.2 ∙ first_bad-here _ _ _ c.loop-at-test.true (λ z. omega (arith, is, z)))

pub loop-at-preserved-then-is_good-4 : goal.loop-at-preserved-then-is_good-4
unfolding kind_row kind_row_in
loop-at-preserved-then-is_good-4 c =
    let s = c.args.s.now in
    let at = c.loop-at.at in
    let good : (eqb (get_or s at 0) STAMP && eqb (fault_at s at) 0) ≡ true = sym c.is_good-in-loop-at-3.ensures ∙ c.if-is_good-4.true in
    let e : get_or s at 0 ≡ STAMP = eqb-true _ _ (and_left (eqb (get_or s at 0) STAMP) (eqb (fault_at s at) 0) good) in
    let well : fault_at s at ≡ 0 = eqb-true _ _ (and_right (eqb (get_or s at 0) STAMP) (eqb (fault_at s at) 0) good) in
    let z : fault_by c.loop-at.clock (event_at s at) ≡ 0 = well_forward c.loop-at.clock s at well (ap (went_back c.loop-at.clock) (sym c.body_at-stamp.ensures.0) ∙ sym c.went_back.ensures ∙ c.if-went_back.false) in
    let next : next_at s at ≡ at + 3 = stamp-next s at e in
    let on : shows c.body_at-stamp.result ≡ clock_after c.loop-at.clock (event_at s at) = ap shows c.body_at-stamp.ensures.0 ∙ sym (cond_yes (eqb (get_or s at 0) STAMP) _ _ (eq-eqb _ _ e)) in (
      omega (arith, next, (good_event s at well).inside),
      omega (arith, c.loop-at.invariant.1),
      c.loop-at.invariant.2 ∙ first_bad-later c.loop-at.clock s at c.loop-at-test.true z ∙ (λ i. first_bad (sym on i) (events_from s (next i))),
      c.loop-at.invariant.3 ∙ ap (λ (r : ℕ). c.loop-at.space + r) (room-more s at c.loop-at-test.true ∙ (λ i. room_of (e i) + room (events_from s (next i))) ∙ zero-add _),
      c.loop-at.invariant.4,
    )

pub returns-in-Some : goal.returns-in-Some
returns-in-Some c =
    let why = c.in-Some.refusal in
    let is : fault_by c.loop-at.clock (event_at c.args.s.now c.loop-at.at) ≡ number_of why = as_written c.loop-at.clock c.args.s.now c.loop-at.at (number_of why) (number_some why) (sym c.in-Some.ensures) in
    ap (λ (n : ℕ). refusal_of n c.loop-at.at) (sym is) ∙ sym (c.loop-at.invariant.2 ∙ first_bad-here _ _ _ c.loop-at-test.true (λ z. number_some why (sym is ∙ z)))

pub loop-at-preserved : goal.loop-at-preserved
loop-at-preserved c =
    let s = c.args.s.now in
    let at = c.loop-at.at in
    let well : fault_at s at ≡ 0 = sym c.in_default.ensures in
    let next : c.next_at-at.result ≡ next_at s at = c.next_at-at.ensures ∙ step_inside s at c.loop-at-test.true in
    let no-stamp : eqb (get_or s at 0) STAMP ≡ false = not_so _ (λ stamp. false≢true (sym c.if-is_good-4.false ∙ c.is_good-in-loop-at-3.ensures ∙ (λ i. stamp i && eq-eqb _ _ well i))) in
    let z : fault_by c.loop-at.clock (event_at s at) ≡ 0 = well_by_any c.loop-at.clock s at well no-stamp in
    let same : clock_after c.loop-at.clock (event_at s at) ≡ c.loop-at.clock = clock_stays c.loop-at.clock (event_at s at) no-stamp in (
      omega (arith, next, (good_event s at well).inside),
      omega (arith, next, c.room_of-space-in-loop-at.ensures.1, c.loop-at.invariant.1),
      c.loop-at.invariant.2 ∙ first_bad-later c.loop-at.clock s at c.loop-at-test.true z ∙ (λ i. first_bad (same i) (events_from s (sym next i))),
      c.loop-at.invariant.3 ∙ ap (λ (r : ℕ). c.loop-at.space + r) (room-more s at c.loop-at-test.true) ∙ rw (next, c.room_of-space-in-loop-at.ensures.0) (sym (add_assoc _ _ _)),
      c.loop-at.invariant.4,
    )

pub returns : goal.returns
returns c = (
  record {
    clean = c.loop-at.invariant.2 ∙ first_bad-none _ _ _ c.loop-at-test.false;
    rooms = sym (c.loop-at.invariant.3 ∙ ap (λ (r : ℕ). c.loop-at.space + r) (room-none _ _ c.loop-at-test.false) ∙ add-zero _);
  },
  c.loop-at.invariant.4,
)
