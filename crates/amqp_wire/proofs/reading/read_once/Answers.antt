use Rattle.std.proofs.Common.{◌-◌, arith}
use Rattle.amqp_wire.proofs.ReadingOn.{read_on_more, read_on_stop}
use Rattle.amqp_wire.proofs.reading.read_once.Goals as goal

pub returns-in-More-clause-read : goal.returns-in-More-clause-read
returns-in-More-clause-read g c =
    let f = rw c.in-More.is at c.in_ok-fill.ensures.filled in
    read_on_more g.L.Link c.args.codec.now c.fill.new.self c.args.reads_left.now (c.args.reads_left.now - 1) f.0 f.1 f.2 f.3 c.fill.ensures.rest (omega arith)

pub returns-in-Stopped-clause-read : goal.returns-in-Stopped-clause-read
returns-in-Stopped-clause-read g c =
    let f = rw c.in-Stopped.is at c.in_ok-fill.ensures.filled in
    read_on_stop g.L.Link c.args.codec.now c.fill.new.self c.args.reads_left.now c.in-Stopped.stop f.0 f.1 c.fill.ensures.rest
