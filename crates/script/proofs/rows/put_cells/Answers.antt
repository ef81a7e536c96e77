use Rattle.std.proofs.Common.{◌+◌, ◌*◌, sym, ap, add-zero, add-one, arith, length-set, rules}
use Rattle.cells.specs.PutLaws.{put_none, put_end, put_as, put_two, put_then}
use Rattle.frame.specs.Stream.{cells_up}
use Rattle.script.proofs.rows.put_cells.Goals as goal

pub loop-i-init : goal.loop-i-init
unfolding cells_up
loop-i-init c = (put_end (sym (add-zero _)) (put_none _ _), search rules)

pub loop-i-preserved : goal.loop-i-preserved
unfolding cells_up
loop-i-preserved c = (put_end (omega arith) (put_as (ap (cells_up _ _) (add-one c.loop-i.i)) (put_then c.loop-i.invariant.0 (put_two c.loop-i.out (c.args.pos + 2 * c.loop-i.i) 0x81 _))), simp (length-set) c.loop-i.invariant.1)
