use Rattle.amqp_wire.specs.Reading.{ReadOn}
use Rattle.amqp_wire.specs.declared.reading.Wait.TheVariants.{Over}
use Rattle.amqp_wire.proofs.reading.read_all.Given as goal

abbrev pub invariant-reads : goal.invariant-reads
invariant-reads g l = ReadOn g.L.Link l.fn.codec l.fn.reads_left Over l.codec l.reads_left

abbrev pub decreases-reads : goal.decreases-reads
decreases-reads g l = l.reads_left
