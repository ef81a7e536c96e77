-- `put_done` puts the records' lines, then the last line.
use Rattle.cells.specs.OutputLaws.{puts_then, room_then}
use Rattle.listing.specs.Text.{done_line}
use Rattle.listing.proofs.put_done.Goals as goal

pub put_number-requires : goal.put_number-requires
unfolding done_line
put_number-requires c = room_then _ c.put_lines.ensures c.requires

pub returns : goal.returns
unfolding done_line
returns c = puts_then c.put_lines.ensures c.put_number.ensures
