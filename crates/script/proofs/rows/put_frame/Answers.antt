-- `script::rows::put_frame` meets its contract. Header, cells and verdict are put one behind the other; their lengths add up (`records_length`).
use Rattle.std.proofs.Common.{◌-◌, ◌++◌, sym, mod-lt, arith, length}
use Rattle.cells.specs.PutLaws.{put_as, put_then, put_two, put_length}
use Rattle.chip.specs.declared.Record.TheVariants.{Verdict}
use Rattle.chip.specs.Record.{record_bytes}
use Rattle.frame.specs.Stream.{cells_on}
use Rattle.script.specs.Heard.{floats}
use Rattle.script.proofs.ReadLaws.{header-sizes, floats-length, records_length}
use Rattle.script.proofs.rows.put_frame.Goals as goal

pub put_header-data-requires : goal.put_header-data-requires
put_header-data-requires c =
    let sizes = header-sizes c.args.script.now c.args.at c.args.frame.header c.args.frame.count c.requires.0 in
    (sizes.0, sizes.1, omega (arith, c.requires.4, records_length c.args.sectors c.args.script.now c.args.mem.now c.args.at c.args.frame.header c.args.frame.count))

pub put_row-end-requires : goal.put_row-end-requires
put_row-end-requires c = (
  omega (arith, c.put_header-data.ensures.end, floats-length c.args.frame.header, c.requires.0.long, c.requires.4, records_length c.args.sectors c.args.script.now c.args.mem.now c.args.at c.args.frame.header c.args.frame.count, put_length c.put_header-data.ensures),
  rw (c.first_cell.ensures, ← c.requires.1) (mod-lt _ (omega (arith, c.requires.1, c.requires.2))),
  omega (arith, c.requires.3),
)

pub returns : goal.returns
returns c =
    let m = c.args.mem.now in
    let header = c.args.frame.header in
    let cell = c.first_cell.ensures in
    put_as (λ i. floats header ++ cells_on m (length m) (sym cell i) (c.args.frame.count - header) ++ record_bytes (Verdict 0))
    (put_then (put_then c.put_header-data.ensures c.put_row-end.ensures) (put_two _ c.put_row-end.result 0x82 0))
