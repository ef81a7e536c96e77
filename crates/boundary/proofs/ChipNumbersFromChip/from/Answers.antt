-- `From<Chip> for ChipNumbers` gives the numbers of the definition. Every field is copied, a flag as a byte, the job's kind as two numbers.
use Rattle.std.proofs.Common.{Bool, true, false, ◌≡◌, refl, ◌∙◌}
use mir.Val.{bool_byte}
use Rattle.boundary.specs.Numbers.{flag_number, numbers_of}
use Rattle.boundary.proofs.ChipNumbersFromChip.from.Goals as goal

-- std's byte of a flag is the definition's
same : (b : Bool) → bool_byte b ≡ flag_number b
same true = refl
same false = refl

pub returns : goal.returns
unfolding numbers_of
returns c =
    rw
    (c.from.ensures ∙ same _, c.from-2.ensures ∙ same _, c.from-3.ensures ∙ same _, c.from-4.ensures ∙ same _, c.from-5.ensures ∙ same _, c.from-6.ensures ∙ same _, c.from-7.ensures ∙ same _, c.from-8.ensures ∙ same _, c.from-9.ensures ∙ same _, c.kind_number.ensures, c.kind_value.ensures)
