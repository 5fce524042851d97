use Rattle.std.proofs.Common.{◌-◌, ℕ, List, length}
use Rattle.amqp_wire.specs.Codec.{Fed}
use Rattle.amqp_transport.proofs.reading.advance.Given as goal

abbrev pub invariant-reads : goal.invariant-reads
invariant-reads g l = (bytes : List ℕ) × Fed g.L.Link l.fn.codec bytes l.codec

abbrev pub decreases-reads : goal.decreases-reads
decreases-reads g l = l.codec.decoder - length l.codec.input
