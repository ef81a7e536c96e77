-- `legal::is_blank` meets its contract. What has been seen, and the look from there on, are the whole look.
use Rattle.std.proofs.Common.{◌≡◌, ◌&&◌, drop}
use Rattle.legal.specs.Legal.{is_blank}
use Rattle.legal.proofs.is_blank.Given as goal

abbrev pub invariant-loop-b : goal.invariant-loop-b
invariant-loop-b l = is_blank l.load ≡ (l.blank && is_blank (drop l.b-index l.load))
