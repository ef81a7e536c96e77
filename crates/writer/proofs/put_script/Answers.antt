use Rattle.std.proofs.Common.{sym, ◌∙◌, ◌≡◌, ℕ, ◌+◌, ◌<◌, Bool, true, false, eqb, List, length, arith, eqb-true}
use Rattle.std.proofs.lemmas.Bool.{eqb-false}
use Rattle.cells.specs.OutputLaws.{putting_starts, putting_fits, putting_more, putting_ends}
use Rattle.writer.specs.Writer.{piece, piece_script, program_script}
use Rattle.writer.proofs.Laws.{length-piece, length-script, script_next, script_none}
use Rattle.writer.proofs.put_script.Goals as goal

-- what the test for no bytes says
some : (left : List ℕ) (b : Bool) → b ≡ eqb (length left) 0 → b ≡ false → 0 < length left
some left b is not = omega (arith, eqb-false (length left) 0 (sym is ∙ not))

none : (left : List ℕ) (b : Bool) → b ≡ eqb (length left) 0 → b ≡ true → length left ≡ 0
none left b is so = eqb-true (length left) 0 (sym is ∙ so)

pub loop-left-init : goal.loop-left-init
loop-left-init c = (c.requires.0, putting_starts _ _ (omega (arith, c.requires.1, length-script c.args.address c.args.bytes.now)))

pub put_piece-requires : goal.put_piece-requires
put_piece-requires c = (
  omega (arith, c.loop-left.invariant.0),
  omega (
    arith,
    putting_fits c.loop-left.invariant.1 (piece_script (piece c.loop-left.here c.split_at.result.0.now)) (program_script (c.loop-left.here + length c.split_at.result.0.now) c.split_at.result.1.now)
        (script_next c.loop-left.here c.loop-left.left.now _ _ _ (some _ _ c.is_empty.ensures c.loop-left-test.true) c.in_page.ensures c.split_at.ensures.front c.split_at.ensures.back),
    length-piece (piece c.loop-left.here c.split_at.result.0.now),
  ),
)

pub loop-left-preserved : goal.loop-left-preserved
loop-left-preserved c = (
  omega (arith, c.loop-left.invariant.0, c.split_at.ensures.front_len, c.split_at.ensures.back_len),
  putting_more c.loop-left.invariant.1 _ _ (script_next c.loop-left.here c.loop-left.left.now _ _ _ (some _ _ c.is_empty.ensures c.loop-left-test.true) c.in_page.ensures c.split_at.ensures.front c.split_at.ensures.back) c.put_piece.ensures,
)

pub returns : goal.returns
returns c = putting_ends c.loop-left.invariant.1 (script_none _ _ (none _ _ c.is_empty.ensures c.loop-left-test.false))
