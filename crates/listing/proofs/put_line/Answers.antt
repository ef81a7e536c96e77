-- `put_line` puts the offset, and then the word by what the record is; where the line has room, each part of it has.
use Rattle.std.proofs.Common.{ap, ◌∙◌, arith, length-append}
use Rattle.listing.specs.Text.{line_of}
use Rattle.cells.specs.OutputLaws.{puts_then, puts_as, room_then}
use Rattle.listing.proofs.TextLaws.{line-nine}
use Rattle.listing.proofs.put_line.Goals as goal

pub put_number-requires : goal.put_number-requires
unfolding line_of
put_number-requires c = simp length-append (omega (arith, simp length-append at c.requires))

pub put-requires : goal.put-requires
unfolding line_of
put-requires c = room_then _ c.put_number.ensures (rw c.in-Nothing.is at c.requires)

pub put-requires-in-Floating : goal.put-requires-in-Floating
unfolding line_of
put-requires-in-Floating c = room_then _ c.put_number.ensures (rw c.in-Floating.is at c.requires)

pub put-requires-in-Driven : goal.put-requires-in-Driven
unfolding line_of
put-requires-in-Driven c = room_then _ c.put_number.ensures (rw c.in-Driven.is at c.requires)

pub put_number-requires-in-Verdict : goal.put_number-requires-in-Verdict
unfolding line_of
put_number-requires-in-Verdict c = room_then _ c.put_number.ensures (rw c.in-Verdict.is at c.requires)

pub put_number-requires-in-InTheWay : goal.put_number-requires-in-InTheWay
put_number-requires-in-InTheWay c =
    simp length-append (omega (arith, simp length-append at (room_then _ c.put_number.ensures (rw (ap (line_of c.args.offset) c.in-InTheWay.is ∙ line-nine _ _ _) at c.requires))))

pub put_number-requires-in-InTheWay-2 : goal.put_number-requires-in-InTheWay-2
put_number-requires-in-InTheWay-2 c =
    room_then _ c.put_number-in-InTheWay.ensures (room_then _ c.put_number.ensures (rw (ap (line_of c.args.offset) c.in-InTheWay.is ∙ line-nine _ _ _) at c.requires))

pub returns-in-Nothing : goal.returns-in-Nothing
unfolding line_of
returns-in-Nothing c = rw c.in-Nothing.is (puts_then c.put_number.ensures c.put.ensures)

pub returns-in-Floating : goal.returns-in-Floating
unfolding line_of
returns-in-Floating c = rw c.in-Floating.is (puts_then c.put_number.ensures c.put-in-Floating.ensures)

pub returns-in-Driven : goal.returns-in-Driven
unfolding line_of
returns-in-Driven c = rw (c.in-Driven.is, ← c.hex_digit.ensures, ← c.hex_digit-in-Driven.ensures) (puts_then c.put_number.ensures c.put-in-Driven.ensures)

pub returns-in-Verdict : goal.returns-in-Verdict
unfolding line_of
returns-in-Verdict c = rw c.in-Verdict.is (puts_then c.put_number.ensures c.put_number-in-Verdict.ensures)

pub returns-in-InTheWay : goal.returns-in-InTheWay
returns-in-InTheWay c =
    puts_as (ap (line_of c.args.offset) c.in-InTheWay.is ∙ line-nine _ _ _) (puts_then c.put_number.ensures (puts_then c.put_number-in-InTheWay.ensures c.put_number-in-InTheWay-2.ensures))
