-- `script::rows::place_on` meets its contract. n places on in one sum (`place-as`).
use Rattle.std.proofs.Common.{sym, ◌∙◌, lt-ltb, le-ltb}
use Rattle.cells.specs.Choice.{cond_yes, cond_no}
use Rattle.frame.specs.RowLaws.{place-as}
use Rattle.script.proofs.rows.place_on.Goals as goal

pub returns-then-up-cells : goal.returns-then-up-cells
returns-then-up-cells c = sym (place-as _ _ _ c.requires.0 c.requires.1 ∙ cond_yes _ _ _ (lt-ltb _ _ c.if-up-cells.true))

pub returns-else-up-cells : goal.returns-else-up-cells
returns-else-up-cells c = sym (place-as _ _ _ c.requires.0 c.requires.1 ∙ cond_no _ _ _ (le-ltb _ _ c.if-up-cells.false))
