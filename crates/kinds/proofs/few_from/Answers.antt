use Rattle.std.proofs.Common.{refl, arith, rules}
use Rattle.kinds.proofs.RowLaws.{row-reach, row-stops, row_inside}
use Rattle.kinds.proofs.few_from.Goals as goal

pub loop-count-init : goal.loop-count-init
loop-count-init c = omega (arith, row_inside c.args.s.now c.args.at c.requires.0)

pub returns-then-s-here-lt2 : goal.returns-then-s-here-lt2
returns-then-s-here-lt2 c = omega (arith, c.if-s-here-lt2.true, row_inside c.args.s.now c.args.at c.requires.0)

pub returns-then-s-here : goal.returns-then-s-here
returns-then-s-here c = omega (arith, row-stops c.args.s.now c.args.at c.loop-count.count _ refl c.if-s-here.true)

pub loop-count-preserved : goal.loop-count-preserved
loop-count-preserved c = (search rules, row-reach c.args.s.now c.args.at c.loop-count.count c.loop-count.invariant.1 c.if-s-here.false (omega (arith, c.if-s-here-lt2.false)))
