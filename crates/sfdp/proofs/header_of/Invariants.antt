-- `sfdp::header_of` meets its contract. The look has passed `i` headers that lack the identity, so the look from header i on is the whole look.
use Rattle.std.proofs.Common.{◌-◌, ◌≡◌}
use Rattle.sfdp.specs.Reader.{header_count, first_from, header_of}
use Rattle.sfdp.proofs.header_of.Given as goal

abbrev pub invariant-loop-i : goal.invariant-loop-i
invariant-loop-i l = header_of l.area l.identity ≡ first_from l.area l.identity l.i (header_count l.area - l.i)
