use Rattle.std.proofs.Common.{◌+◌, ◌*◌, ◌≡◌, ◌-◌, sym, ap, ◌∙◌, ◌<◌, length, drop, length-drop, arith, leb-true, leb-false, rules}
use Rattle.std.proofs.lemmas.List.{take_all}
use Rattle.kinds.specs.Row.{exchanges_from}
use Rattle.kinds.proofs.RowLaws.{row-part, row_inside, row-stops}
use Rattle.kinds.proofs.Cuts.{cut_next, row_of_cut}
use Rattle.kinds.proofs.blocks_from.Goals as goal

pub loop-block-init : goal.loop-block-init
loop-block-init c =
    let from = c.args.at + 2 * c.args.known in
    let whole = take_all (length c.args.s.now - from) (drop from c.args.s.now) (omega (arith, length-drop from c.args.s.now)) in
    (search rules, cc (whole, c.into_iter-block-iterator.ensures.into_iter_gives, c.chunks_exact-block-items.ensures.rest), omega (arith, row_inside c.args.s.now c.args.at c.requires.0), search rules)

pub returns-then-block-n : goal.returns-then-block-n
returns-then-block-n c =
    let size = c.in-Some.ensures.steps.1.1 ∙ c.loop-block.invariant.0 in
    let next = cut_next c.args.s.now c.in-Some.block.now c.next.new.self.rest.now (c.args.at + 2 * c.loop-block.count) (sym c.loop-block.invariant.1 ∙ c.in-Some.ensures.steps.1.0) in
    (search rules, omega (arith, row-stops c.args.s.now c.args.at (c.loop-block.count + c.args.n - 1) (c.args.at + 2 * c.loop-block.count + (2 * c.args.n - 2)) (omega arith) (λ e. c.if-block-n.true (next.bytes (2 * c.args.n - 2) (omega (arith, size)) ∙ e))))

pub returns-then-not-are_exchanges : goal.returns-then-not-are_exchanges
returns-then-not-are_exchanges c =
    let size = c.in-Some.ensures.steps.1.1 ∙ c.loop-block.invariant.0 in
    let next = cut_next c.args.s.now c.in-Some.block.now c.next.new.self.rest.now (c.args.at + 2 * c.loop-block.count) (sym c.loop-block.invariant.1 ∙ c.in-Some.ensures.steps.1.0) in
    let few = leb-false c.args.n (exchanges_from c.args.s.now (c.args.at + 2 * c.loop-block.count)) (sym (row_of_cut _ _ _ _ _ next size) ∙ sym c.if-not-are_exchanges.ensures) in
    (search rules, omega (arith, few, row-part c.args.s.now c.args.at c.loop-block.count c.loop-block.invariant.3))

pub loop-block-preserved : goal.loop-block-preserved
loop-block-preserved c =
    let size = c.in-Some.ensures.steps.1.1 ∙ c.loop-block.invariant.0 in
    let next = cut_next c.args.s.now c.in-Some.block.now c.next.new.self.rest.now (c.args.at + 2 * c.loop-block.count) (sym c.loop-block.invariant.1 ∙ c.in-Some.ensures.steps.1.0) in
    let all = leb-true c.args.n (exchanges_from c.args.s.now (c.args.at + 2 * c.loop-block.count)) (sym (row_of_cut _ _ _ _ _ next size) ∙ sym c.if-not-are_exchanges.ensures) in
    let behind : c.args.at + 2 * c.loop-block.count + length c.in-Some.block.now ≡ c.args.at + 2 * (c.loop-block.count + c.args.n) = omega (arith, size) in
    (c.in-Some.ensures.steps.0 ∙ c.loop-block.invariant.0, next.behind ∙ rw behind, omega (arith, size, next.inside), omega (arith, all, row-part c.args.s.now c.args.at c.loop-block.count c.loop-block.invariant.3))

pub returns : goal.returns
returns c =
    let left : length (drop (c.args.at + 2 * c.loop-block.count) c.args.s.now) < 2 * c.args.n = omega (arith, c.in-None.ensures.steps, ap length c.loop-block.invariant.1) in
    (search rules, omega (arith, left, length-drop (c.args.at + 2 * c.loop-block.count) c.args.s.now, row_inside c.args.s.now c.args.at c.requires.0))
