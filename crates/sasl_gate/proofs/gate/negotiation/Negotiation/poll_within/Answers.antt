use Rattle.sasl_gate.specs.declared.gate.negotiation.Step.TheVariants.{Goes}
use Rattle.sasl_gate.proofs.Negotiations.{stepped_then}
use Rattle.sasl_gate.proofs.GateSteps.{polled_waits, polled_ends, polled_memory}
use Rattle.sasl_gate.proofs.gate.negotiation.Negotiation.poll_within.Goals as goal

pub steps-preserved : goal.steps-preserved
steps-preserved g c =
    let st = rw c.in-Ok-Goes.field-0-is at c.in-Ok-Goes.ensures.stepped in
    let same = g.met.X.Exchange.same_then c.args.self.now.exchange c.steps.self.exchange c.step.new.self.exchange c.steps.invariant.goes.kept st.goes.kept in
    stepped_then g.L.Link g.X.Exchange c.args.self.now c.steps.self c.step.new.self c.args.reads_left.now c.steps.reads_left c.step.new.reads_left c.steps.invariant.events Goes same c.steps.invariant.goes st

pub returns-in-Ok-Waits : goal.returns-in-Ok-Waits
returns-in-Ok-Waits g c =
    let st = rw c.in-Ok-Waits.field-0-is at c.in-Ok-Waits.ensures.stepped in
    let same = g.met.X.Exchange.same_then c.args.self.now.exchange c.steps.self.exchange c.step.new.self.exchange c.steps.invariant.goes.kept st.goes.kept in
    polled_waits g.L.Link g.X.Exchange c.args.self.now c.steps.self c.step.new.self c.args.reads_left.now c.steps.reads_left c.step.new.reads_left same c.steps.invariant st

pub returns-in-Ok-Ends : goal.returns-in-Ok-Ends
returns-in-Ok-Ends g c =
    let st = rw c.in-Ok-Ends.field-0-is at c.in-Ok-Ends.ensures.stepped in
    let same = g.met.X.Exchange.same_then c.args.self.now.exchange c.steps.self.exchange c.step.new.self.exchange c.steps.invariant.goes.kept st.goes.kept in
    polled_ends g.L.Link g.X.Exchange c.args.self.now c.steps.self c.step.new.self c.args.reads_left.now c.steps.reads_left c.step.new.reads_left c.answer.result same c.steps.invariant st c.answer.ensures

pub returns-in-Err : goal.returns-in-Err
returns-in-Err g c =
    let st = c.in-Err.ensures.stepped in
    let same = g.met.X.Exchange.same_then c.args.self.now.exchange c.steps.self.exchange c.step.new.self.exchange c.steps.invariant.goes.kept st.goes.kept in
    polled_memory g.L.Link g.X.Exchange c.args.self.now c.steps.self c.step.new.self c.args.reads_left.now c.steps.reads_left c.step.new.reads_left c.in-Err.error same c.steps.invariant st
