-- Where nothing refuses it, the bytes lie on the part and the output has room for their script.
use Rattle.std.proofs.Common.{sym, arith, length}
use Rattle.part.proofs.Laws.{permitted-length}
use Rattle.writer.proofs.Laws.{length-script}
use Rattle.writer.proofs.Refusals.{refused-when}
use Rattle.writer.proofs.write_program.Goals as goal

pub write_script-requires : goal.write_script-requires
write_script-requires c =
    let ok = (refused-when c.args.n c.args.address c.args.bytes.now (length c.args.out.now)).none.0 (sym c.in_ok-check.ensures) in
    (omega (arith, ok.3, permitted-length c.args.n ok.0), omega (arith, ok.4, length-script c.args.address c.args.bytes.now))
