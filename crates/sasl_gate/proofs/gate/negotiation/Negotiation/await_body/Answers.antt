use Rattle.amqp_wire.specs.declared.reading.Wait.TheVariants.{Over}
use Rattle.sasl_gate.specs.Steps.{step_in}
use Rattle.sasl_gate.proofs.GateSteps.{alive_frames, arrived, read_more}
use Rattle.sasl_gate.proofs.gate.negotiation.Negotiation.await_body.Goals as goal

pub returns-in-Ok-clause-stepped : goal.returns-in-Ok-clause-stepped
returns-in-Ok-clause-stepped g c =
    let phase = rw (← c.self.view_is) at c.requires.phase in
    let turn = rw (← c.self.view_is) at c.requires.turn in
    let out = rw (← c.self.view_is) at c.requires.flushed in
    rw (← c.self.view_is) (arrived g.L.Link g.X.Exchange _ c.read_front.new.codec c.in-Ok.arrival.front c.in-Ok.arrival.wait c.args.reads_left.now c.read_front.new.reads_left (step_in c.on_arrival.result) c.on_arrival.new.self
    phase out turn (g.met.X.Exchange.same_self c.self.inside.exchange) c.in-Ok.ensures.read c.in-Ok.ensures.front c.in-Ok.ensures.known (c.on_arrival.ensures.arrived c.read_front.new.reads_left))

pub returns-in-Err-clause-stepped : goal.returns-in-Err-clause-stepped
returns-in-Err-clause-stepped g c =
    let phase = rw (← c.self.view_is) at c.requires.phase in
    rw (← c.self.view_is) (read_more g.L.Link g.X.Exchange _ c.read_front.new.codec Over c.args.reads_left.now c.read_front.new.reads_left (alive_frames _ phase) (g.met.X.Exchange.same_self c.self.inside.exchange) c.in-Err.ensures.read)
