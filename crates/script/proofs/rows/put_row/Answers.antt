-- `script::rows::put_row` meets its contract. Up to the top the cells stand one behind the other (`cells_up_lem`), past it they go on from 0 (`cells_over`).
use Rattle.std.proofs.Common.{◌+◌, ◌-◌, ◌≡◌, ap, ◌∙◌, arith, length}
use Rattle.cells.specs.PutLaws.{put_as, put_end, put_then}
use Rattle.frame.specs.Stream.{cells_on}
use Rattle.frame.specs.RowLaws.{cells_up_lem, cells_over}
use Rattle.script.proofs.rows.put_row.Goals as goal

pub returns-then-n-top : goal.returns-then-n-top
returns-then-n-top c = put_as (cells_up_lem c.args.mem.now (length c.args.mem.now) c.args.place c.args.n (omega (arith, c.requires.1, c.if-n-top.true))) c.put_cells.ensures

pub returns : goal.returns
returns c =
    let m = c.args.mem.now in
    let N = length m in
    let place = c.args.place in
    let n = c.args.n in
    let top = N - place in
    let parts : n ≡ top + (n - top) = omega (arith, c.requires.1, c.if-n-top.false) in
    put_as (ap (cells_on m N place) parts ∙ cells_over m N place top (n - top) (omega (arith, c.requires.1)) (omega (arith, c.requires.1)) (omega (arith, c.requires.2)))
    (put_end (omega (arith, parts)) (put_then c.put_cells-2.ensures c.put_cells-3.ensures))
