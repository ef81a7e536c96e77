-- `kinds::body_at` meets its contract. By the length of the body: one byte, two, or none.
use Rattle.std.proofs.Common.{sym, rules}
use Rattle.kinds.proofs.Laws.{body_past}
use Rattle.kinds.proofs.body_at.Goals as goal

pub returns-then-s-at : goal.returns-then-s-at
returns-then-s-at c = (sym (body_past c.args.s.now c.args.at c.if-s-at.true), search rules)
