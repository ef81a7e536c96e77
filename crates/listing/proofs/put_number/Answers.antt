-- `put_number` puts the label, the digits that `io::decimal` answers, which are the number in decimal, and the byte after them; where all has room, each part has.
use Rattle.std.proofs.Common.{◌∙◌, arith, length-append}
use Rattle.cells.specs.OutputLaws.{room_after, puts_then}
use Rattle.listing.proofs.TextLaws.{digits_decimal}
use Rattle.listing.proofs.put_number.Goals as goal

pub put-requires-2 : goal.put-requires-2
put-requires-2 c =
    rw (c.decimal-k.ensures.digits ∙ digits_decimal _ _ c.ranges.n.fits c.decimal-k.ensures.len) (omega (arith, room_after c.put.ensures, simp length-append at c.requires))

pub push-requires : goal.push-requires
push-requires c =
    omega (arith, room_after c.put.ensures, room_after (rw (c.decimal-k.ensures.digits ∙ digits_decimal _ _ c.ranges.n.fits c.decimal-k.ensures.len) at c.put-2.ensures), simp length-append at c.requires)

pub returns : goal.returns
returns c =
    puts_then (puts_then c.put.ensures (rw (c.decimal-k.ensures.digits ∙ digits_decimal _ _ c.ranges.n.fits c.decimal-k.ensures.len) at c.put-2.ensures)) c.push.ensures
