-- `put_refused` puts the refusal's number and its offset.
use Rattle.std.proofs.Common.{ℕ, ◌≤◌, List, ◌++◌, length, arith, length-append}
use Rattle.cells.specs.OutputLaws.{puts_then, room_then}
use Rattle.listing.specs.Text.{ascii, decimal_of, refused_line}
use Rattle.listing.proofs.put_refused.Goals as goal

-- where two rows fit, the first does
first : (k : ℕ) (xs ys : List ℕ) → length (xs ++ ys) ≤ k → length xs ≤ k
first k xs ys h = omega (arith, length-append xs ys)

pub put_number-requires : goal.put_number-requires
unfolding refused_line
put_number-requires c =
    first _ (ascii "answer " ++ decimal_of c.number.result ++ ascii " ") (ascii "at " ++ decimal_of c.args.no.offset ++ ascii "\n") (rw (← c.number.ensures) at c.requires)

pub put_number-requires-2 : goal.put_number-requires-2
unfolding refused_line
put_number-requires-2 c = room_then _ c.put_number.ensures (rw (← c.number.ensures) at c.requires)

pub returns : goal.returns
unfolding refused_line
returns c = rw (← c.number.ensures) (puts_then c.put_number.ensures c.put_number-2.ensures)
