-- `script::rows::put_floats` meets its contract. What is filled is so many bytes 80h (`floats_put`).
use Rattle.std.proofs.Common.{arith}
use Rattle.script.proofs.ReadLaws.{floats_put}
use Rattle.script.proofs.rows.put_floats.Goals as goal

pub returns : goal.returns
returns c = floats_put _ _ _ _ _ c.requires (omega arith) (c.fill.ensures.after (λ y e. e))
