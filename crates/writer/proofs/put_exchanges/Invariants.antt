-- `put_exchanges` puts two bytes for each byte: after some of them, the exchanges of the others are left to put.
use Rattle.std.proofs.Common.{drop}
use Rattle.cells.specs.Output.{Putting}
use Rattle.writer.specs.Writer.{exchanges_of}
use Rattle.writer.proofs.put_exchanges.Given as goal

abbrev pub invariant-loop-byte : goal.invariant-loop-byte
invariant-loop-byte l = Putting l.initial.out (exchanges_of l.bytes) l.out (exchanges_of (drop l.byte-index l.bytes))
