use Rattle.std.proofs.Common.{ℕ, ◌+◌, ◌*◌, ◌≡◌, length, sym, ◌∙◌, ap, get_or, arith}
use Rattle.std.proofs.lemmas.List.{length_push}
use Rattle.kinds.proofs.RowLaws.{pair_longer}
use Rattle.kinds.proofs.Cuts.{cut_next}
use Rattle.kinds.proofs.are_exchanges.Goals as goal

pub loop-pair-preserved : goal.loop-pair-preserved
loop-pair-preserved c =
    let next = cut_next c.args.block.now c.in-Some.pair.now c.next.new.self.rest.now (2 * length c.loop-pair.yielded) (sym c.loop-pair.invariant.1 ∙ c.in-Some.ensures.steps.1.0) in
    let two = c.in-Some.ensures.steps.1.1 ∙ c.loop-pair.invariant.0 in
    let more = length_push c.loop-pair.yielded c.in-Some.pair in
    let behind : 2 * length c.loop-pair.yielded + length c.in-Some.pair.now ≡ 2 * (length c.loop-pair.yielded + 1) = omega (arith, two) in
    let first : 0 + 2 * length c.loop-pair.yielded ≡ 2 * length c.loop-pair.yielded = omega arith in
    let start : 2 * length c.loop-pair.yielded + 0 ≡ 0 + 2 * length c.loop-pair.yielded = omega arith in
    let kind = next.bytes 0 (omega (arith, two)) ∙ ap (λ (k : ℕ). get_or c.args.block.now k 0) start in
    let body = next.bytes 1 (omega (arith, two)) ∙ ap (λ (k : ℕ). get_or c.args.block.now (k + 1) 0) (sym first) in (
      c.in-Some.ensures.steps.0 ∙ c.loop-pair.invariant.0,
      rw more (next.behind ∙ rw behind),
      rw (more, kind, body) (pair_longer c.args.block.now 0 (length c.loop-pair.yielded) c.loop-pair.odd (c.type_inv.block (0 + 2 * length c.loop-pair.yielded)).fits (omega (arith, next.inside, two)) c.loop-pair.invariant.2),
    )
