use Rattle.std.proofs.Common.{◌∙◌}
use Rattle.amqp_wire.specs.declared.reading.Wait.TheVariants.{Over}
use Rattle.sasl_gate.specs.Steps.{step_in}
use Rattle.sasl_gate.proofs.GateSteps.{alive_header, rests_header, read_then, read_stopped, read_spent, read_more}
use Rattle.sasl_gate.proofs.gate.negotiation.Negotiation.await_header.Goals as goal

pub returns-in-Ok-Over-clause-stepped : goal.returns-in-Ok-Over-clause-stepped
returns-in-Ok-Over-clause-stepped g c =
    let phase = rw (← c.self.view_is) at c.requires.phase in
    let r = rw c.in-Ok-Over.field-0-is at c.in-Ok-Over.ensures.read in
    let st = c.on_header.ensures.stepped c.read_header.new.reads_left in
    rw (← c.self.view_is) (read_then g.L.Link g.X.Exchange _ c.read_header.new.codec c.on_header.new.self Over c.args.reads_left.now c.read_header.new.reads_left c.read_header.new.reads_left (step_in c.on_header.result)
    (alive_header _ phase) (g.met.X.Exchange.same_self c.self.inside.exchange) st.goes.kept r st)

pub returns-in-Ok-Stopped-clause-stepped : goal.returns-in-Ok-Stopped-clause-stepped
returns-in-Ok-Stopped-clause-stepped g c =
    let phase = rw (← c.self.view_is) at c.requires.phase in
    let r = rw c.in-Ok-Stopped.field-0-is at c.in-Ok-Stopped.ensures.read in
    let out = rw (← c.self.view_is) at c.requires.flushed in
    let less = rw c.in-Ok-Stopped.field-0-is at c.in-Ok-Stopped.ensures.less in
    let rests = rests_header g.X.Exchange c.read_header.new.codec _ c.self.inside.exchange phase (r.output ∙ out) (less (λ e. cc)) in
    rw (← c.self.view_is) (read_stopped g.L.Link g.X.Exchange _ c.read_header.new.codec c.in-Ok-Stopped.stop c.args.reads_left.now c.read_header.new.reads_left c.on_stop.result c.on_stop.new.self
    (alive_header _ phase) (g.met.X.Exchange.same_self c.self.inside.exchange) rests r c.on_stop.ensures)

pub returns-in-Ok-Spent-clause-stepped : goal.returns-in-Ok-Spent-clause-stepped
returns-in-Ok-Spent-clause-stepped g c =
    let phase = rw (← c.self.view_is) at c.requires.phase in
    let r = rw c.in-Ok-Spent.field-0-is at c.in-Ok-Spent.ensures.read in
    let out = rw (← c.self.view_is) at c.requires.flushed in
    let less = rw c.in-Ok-Spent.field-0-is at c.in-Ok-Spent.ensures.less in
    let rests = rests_header g.X.Exchange c.read_header.new.codec _ c.self.inside.exchange phase (r.output ∙ out) (less (λ e. cc)) in
    rw (← c.self.view_is) (read_spent g.L.Link g.X.Exchange _ c.read_header.new.codec c.args.reads_left.now c.read_header.new.reads_left (alive_header _ phase) (g.met.X.Exchange.same_self c.self.inside.exchange) rests r)

pub returns-in-Err-clause-stepped : goal.returns-in-Err-clause-stepped
returns-in-Err-clause-stepped g c =
    let phase = rw (← c.self.view_is) at c.requires.phase in
    rw (← c.self.view_is) (read_more g.L.Link g.X.Exchange _ c.read_header.new.codec Over c.args.reads_left.now c.read_header.new.reads_left (alive_header _ phase) (g.met.X.Exchange.same_self c.self.inside.exchange) c.in-Err.ensures.read)
