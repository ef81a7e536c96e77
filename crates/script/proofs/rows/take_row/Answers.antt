use Rattle.std.proofs.Common.{ℕ, ◌+◌, ◌*◌, refl, sym, ap, ◌∙◌, add-one, get_or, set}
use Rattle.frame.specs.RowLaws.{slot_as}
use Rattle.script.specs.Heard.{loaded_on}
use Rattle.script.proofs.rows.take_row.Goals as goal

pub loop-i-init : goal.loop-i-init
unfolding loaded_on
loop-i-init c = refl

pub loop-i-preserved : goal.loop-i-preserved
unfolding loaded_on
loop-i-preserved c =
    let s = c.args.script.bytes.now in
    let at = c.args.at in
    let i = c.loop-i.i in
    (λ j. set (c.loop-i.invariant j) (sym (slot_as c.args.slot i c.ranges.slot.fits) j) (get_or s (at + 2 * i + 1) 0)) ∙ sym (ap (λ (n : ℕ). loaded_on s at c.args.slot n c.args.load.now) (add-one i))
