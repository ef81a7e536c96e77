use Rattle.std.proofs.Common.{sym, ◌∙◌, drop, length}
use Rattle.cells.specs.OutputLaws.{putting_fits, putting_more, putting_ends}
use Rattle.chip.specs.Record.{record_bytes}
use Rattle.script.specs.Script.{events_from}
use Rattle.listing.specs.Text.{line_of}
use Rattle.listing.specs.Output.{read_lines}
use Rattle.listing.proofs.Listing.{silent, spoken, over}
use Rattle.listing.proofs.put_lines.Goals as goal

pub loop-offset-preserved-then-not-yields : goal.loop-offset-preserved-then-not-yields
loop-offset-preserved-then-not-yields c =
    rw (silent c.args.s.now c.loop-offset.records.now c.loop-offset.offset c.next_at-offset.result c.loop-offset-test.true c.next_at-offset.ensures (sym c.yields.ensures ∙ c.if-not-yields.true)) at c.loop-offset.invariant

pub put_line-requires : goal.put_line-requires
put_line-requires c =
    putting_fits c.loop-offset.invariant (line_of c.loop-offset.offset c.record_at-said.result) (read_lines (events_from c.args.s.now c.next_at-offset.result) (drop (length (record_bytes c.record_at-said.result)) c.loop-offset.records.now) 0)
    (spoken c.args.s.now c.loop-offset.records.now c.loop-offset.offset c.next_at-offset.result c.loop-offset-test.true c.next_at-offset.ensures (sym c.yields.ensures ∙ c.if-not-yields.false) c.record_at-said.result c.record_at-said.ensures)

pub loop-offset-preserved : goal.loop-offset-preserved
loop-offset-preserved c =
    rw (c.behind-records.ensures, c.record_length.ensures.0)
    (putting_more c.loop-offset.invariant (line_of c.loop-offset.offset c.record_at-said.result) (read_lines (events_from c.args.s.now c.next_at-offset.result) (drop (length (record_bytes c.record_at-said.result)) c.loop-offset.records.now) 0)
    (spoken c.args.s.now c.loop-offset.records.now c.loop-offset.offset c.next_at-offset.result c.loop-offset-test.true c.next_at-offset.ensures (sym c.yields.ensures ∙ c.if-not-yields.false) c.record_at-said.result c.record_at-said.ensures) c.put_line.ensures)

pub returns : goal.returns
returns c = putting_ends c.loop-offset.invariant (over c.args.s.now c.loop-offset.records.now c.loop-offset.offset c.loop-offset-test.false)
