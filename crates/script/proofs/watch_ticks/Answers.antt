-- `script::watch_ticks` meets its contract. The margin of a job that ended fits.
use Rattle.std.proofs.Common.{Option, ap, sym, ◌∙◌, arith}
use Rattle.margins.specs.Margins.{allowed}
use Rattle.margins.specs.Laws.{allowed-most}
use Rattle.script.specs.declared.Watch.{Watch as Watcher}
use Rattle.script.specs.Watch.{watched, used_so_far, allowances_of}
use Rattle.script.proofs.watch_ticks.Goals as goal

pub margin-early-requires : goal.margin-early-requires
margin-early-requires c =
    let used = ap (λ (w : Option Watcher). (watched w).used) c.in-Some.is ∙ ap used_so_far c.in-Some-followed.is in
    let good = sym (ap (λ (w : Option Watcher). allowed (allowances_of w)) c.in-Some.is) ∙ c.requires.0 in
    (omega (arith, c.allowance_of.ensures, allowed-most c.args.core.job.kind c.in-Some.watch.allowances good), omega (arith, used, c.requires.1, c.requires.2))
