-- `kinds::exchanges_from` meets its contract. Each count goes on from the one before; fewer than sixteen are left for the last.
use Rattle.std.proofs.Common.{sym, arith}
use Rattle.kinds.proofs.RowLaws.{row-past, row_inside}
use Rattle.kinds.proofs.exchanges_from.Goals as goal

pub returns-then-s-at : goal.returns-then-s-at
returns-then-s-at c = sym (row-past c.args.s.now c.args.at c.if-s-at.true)

pub overflow_add-small : goal.overflow_add-small
overflow_add-small c = omega (arith, c.blocks_from-small.ensures.0, row_inside c.args.s.now c.args.at (omega (arith, c.if-s-at.false)))
