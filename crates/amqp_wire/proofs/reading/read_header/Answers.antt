use Rattle.amqp_wire.specs.declared.reading.Wait.TheVariants.{Over, Stopped, Spent}
use Rattle.amqp_wire.proofs.ReadingOn.{read_on_none, read_on_then}
use Rattle.amqp_wire.proofs.reading.read_header.Goals as goal

pub reads-init : goal.reads-init
reads-init g c = read_on_none g.L.Link c.args.codec.now c.args.reads_left.now

pub reads-preserved : goal.reads-preserved
reads-preserved g c =
    let r = rw c.in-Ok-Over.field-0-is at c.in-Ok-Over.ensures.read in
    read_on_then g.L.Link c.args.codec.now c.reads.codec c.read_once.new.codec c.args.reads_left.now c.reads.reads_left c.read_once.new.reads_left Over Over c.reads.invariant r

pub returns-in-Ok-Stopped-clause-read : goal.returns-in-Ok-Stopped-clause-read
returns-in-Ok-Stopped-clause-read g c =
    let r = rw c.in-Ok-Stopped.field-0-is at c.in-Ok-Stopped.ensures.read in
    read_on_then g.L.Link c.args.codec.now c.reads.codec c.read_once.new.codec c.args.reads_left.now c.reads.reads_left c.read_once.new.reads_left Over (Stopped c.in-Ok-Stopped.stop) c.reads.invariant r

pub returns-in-Ok-Spent-clause-read : goal.returns-in-Ok-Spent-clause-read
returns-in-Ok-Spent-clause-read g c =
    let r = rw c.in-Ok-Spent.field-0-is at c.in-Ok-Spent.ensures.read in
    read_on_then g.L.Link c.args.codec.now c.reads.codec c.read_once.new.codec c.args.reads_left.now c.reads.reads_left c.read_once.new.reads_left Over Spent c.reads.invariant r

pub returns-in-Err-clause-read : goal.returns-in-Err-clause-read
returns-in-Err-clause-read g c =
    read_on_then g.L.Link c.args.codec.now c.reads.codec c.read_once.new.codec c.args.reads_left.now c.reads.reads_left c.read_once.new.reads_left Over Over c.reads.invariant c.in-Err.ensures.read
