-- `script::rows::hear` meets its contract. A row of data bytes is heard byte by byte (`heard_loads`, `heard_row`), any other exchange is heard alone (`heard-exchange`).
use Rattle.std.proofs.Common.{ℕ, ◌+◌, ◌*◌, ◌≤◌, sym, subst, ◌∙◌, ap, arith, length}
use Rattle.part.specs.Part.{setting}
use Rattle.chip.specs.declared.Frame.{Frame}
use Rattle.chip.specs.declared.Chip.{Chip}
use Rattle.chip.specs.Chip.{whole}
use Rattle.chip.specs.Record.{record_bytes}
use Rattle.kinds.proofs.RowLaws.{row_inside}
use Rattle.frame.specs.Stream.{read_on, cells_on}
use Rattle.script.proofs.Laws.{exchange-next, stored-put}
use Rattle.script.specs.Heard.{Heard, floats}
use Rattle.script.proofs.HeardLaws.{heard-exchange, went_as}
use Rattle.script.proofs.RowLaws.{heard_row, heard_loads, row-some, row_rooms}
use Rattle.script.proofs.rows.hear.Goals as goal

pub load_row-requires : goal.load_row-requires
load_row-requires c =
    let s = c.args.script.bytes.now in
    let at = c.args.at in
    let from : at ≤ length s = omega (arith, c.requires.0.more) in
    let some = row-some s at c.requires.1 (omega (arith, c.requires.0.good.inside, exchange-next s at c.requires.1)) in (
      omega (arith, some, c.row_from-n.ensures),
      omega (arith, row_inside s at from, c.row_from-n.ensures),
      omega (arith, row_rooms s c.args.script.fits at from c.row_from-n.result (omega (arith, c.row_from-n.ensures)), c.requires.0.fits),
    )

pub returns-then-is_program : goal.returns-then-is_program
returns-then-is_program c = λ held.
    let T = setting c.args.sectors c.args.area.now in
    let s = c.args.script.bytes.now in
    let m = c.args.mem.now in
    let at = c.args.at in
    let f = c.args.frame in
    let n = c.row_from-n.result in
    let chip : Chip = whole c.args.core f c.args.load.now held in
    let some = row-some s at c.requires.1 (omega (arith, c.requires.0.good.inside, exchange-next s at c.requires.1)) in
    went_as c.load_row.ensures.1 (λ i. whole c.args.core (c.load_row.ensures.0 i) (c.load_row.ensures.2 i) held)
    (record {
      said = floats n;
      heard = heard_loads s c.args.script.fits at (omega (arith, c.requires.0.more)) T m chip (sym c.streams.ensures ∙ c.if-streams.true) (sym c.is_program.ensures ∙ c.if-is_program.true) n (omega (arith, c.row_from-n.ensures));
      stored = c.load_row.ensures.3;
      further = omega (arith, some, c.row_from-n.ensures);
    })

pub read_row-requires : goal.read_row-requires
read_row-requires c =
    let s = c.args.script.bytes.now in
    let at = c.args.at in
    let from : at ≤ length s = omega (arith, c.requires.0.more) in
    let some = row-some s at c.requires.1 (omega (arith, c.requires.0.good.inside, exchange-next s at c.requires.1)) in
    let inside = row_inside s at from in (
      c.if-frame-mem.true,
      omega (arith, some, c.row_from-n-then-frame-mem.ensures),
      omega (arith, inside, c.row_from-n-then-frame-mem.ensures, c.args.script.short, c.requires.0.part.some),
      omega (arith, inside, c.row_from-n-then-frame-mem.ensures, c.args.script.short),
      c.requires.0.part.most,
      omega (arith, row_rooms s c.args.script.fits at from c.row_from-n-then-frame-mem.result (omega (arith, c.row_from-n-then-frame-mem.ensures)), c.requires.0.fits),
    )

pub returns-then-frame-mem : goal.returns-then-frame-mem
returns-then-frame-mem c = λ held.
    let T = setting c.args.sectors c.args.area.now in
    let s = c.args.script.bytes.now in
    let m = c.args.mem.now in
    let at = c.args.at in
    let f = c.args.frame in
    let n = c.row_from-n-then-frame-mem.result in
    let chip : Frame → Chip = λ g. whole c.args.core g c.args.load.now held in
    let some = row-some s at c.requires.1 (omega (arith, c.requires.0.good.inside, exchange-next s at c.requires.1)) in
    went_as c.read_row.ensures.1 (ap chip c.read_row.ensures.0)
    (record {
      said = cells_on m (length m) f.place n;
      heard =
          subst (λ (N : ℕ). Heard T s m at (chip f) (at + 2 * n) (chip (read_on N n f)) (cells_on m N f.place n)) c.requires.0.part.sectors
          (heard_row s c.args.script.fits at (omega (arith, c.requires.0.more)) T m (chip f) (sym c.streams.ensures ∙ c.if-streams.true) (sym c.is_program.ensures ∙ c.if-is_program.false) n (omega (arith, c.row_from-n-then-frame-mem.ensures)));
      stored = c.read_row.ensures.2;
      further = omega (arith, some, c.row_from-n-then-frame-mem.ensures);
    })

pub bounds-script-at : goal.bounds-script-at
bounds-script-at c = omega (arith, c.requires.0.good.inside, exchange-next c.args.script.bytes.now c.args.at c.requires.1)

pub put-requires : goal.put-requires
put-requires c =
    let heard = heard-exchange (setting c.args.sectors c.args.area.now) c.args.script.bytes.now c.args.mem.now c.args.at (whole c.args.core c.args.frame c.args.load.now c.args.load.now) (omega (arith, c.requires.0.good.inside, exchange-next c.args.script.bytes.now c.args.at c.requires.1)) c.requires.1 (c.args.script.fits (c.args.at + 1)) _ _ _ c.exchange-e.ensures in
    omega (arith, heard.roomy, c.requires.0.fits)

pub returns : goal.returns
returns c = λ held.
    let heard = heard-exchange (setting c.args.sectors c.args.area.now) c.args.script.bytes.now c.args.mem.now c.args.at (whole c.args.core c.args.frame c.args.load.now held) (omega (arith, c.requires.0.good.inside, exchange-next c.args.script.bytes.now c.args.at c.requires.1)) c.requires.1 (c.args.script.fits (c.args.at + 1)) _ _ _ c.exchange-e.ensures in
    record { said = record_bytes c.exchange-e.result.said; heard = heard; stored = stored-put _ _ _ _ _ c.put.ensures (omega (arith, heard.roomy, c.requires.0.fits)); further = omega arith }
