use Rattle.std.proofs.Common.{refl}
use Rattle.sasl_gate.specs.Steps.{step_in}
use Rattle.sasl_gate.proofs.GateSteps.{flushed_then, flushed_full, flushed_failed, flushed_memory}
use Rattle.sasl_gate.proofs.gate.negotiation.Negotiation.step.Goals as goal

pub returns-in-None-clause-stepped : goal.returns-in-None-clause-stepped
returns-in-None-clause-stepped g c =
    let alive = rw (← c.self.view_is) at c.if-has_failed.ensures.alive refl in
    let st = c.advance.ensures.stepped in
    rw (← c.self.view_is) (flushed_then g.L.Link g.X.Exchange _ c.flush.new.self c.advance.new.self c.args.reads_left.now c.advance.new.reads_left (step_in c.advance.result) alive (g.met.X.Exchange.same_self c.self.inside.exchange) st.goes.kept c.in-None.ensures st)

pub returns-in-Some-Full-clause-stepped : goal.returns-in-Some-Full-clause-stepped
returns-in-Some-Full-clause-stepped g c =
    let alive = rw (← c.self.view_is) at c.if-has_failed.ensures.alive refl in
    let f = rw c.in-Some-Full.field-0-is at c.in-Some-Full.ensures in
    rw (← c.self.view_is) (flushed_full g.L.Link g.X.Exchange _ c.flush.new.self c.args.reads_left.now alive (g.met.X.Exchange.same_self c.self.inside.exchange) f)

pub returns-in-Some-Failed-clause-stepped : goal.returns-in-Some-Failed-clause-stepped
returns-in-Some-Failed-clause-stepped g c =
    let alive = rw (← c.self.view_is) at c.if-has_failed.ensures.alive refl in
    let f = rw c.in-Some-Failed.field-0-is at c.in-Some-Failed.ensures in
    rw (← c.self.view_is, c.fail.ensures.failed, c.fail.ensures.ends) (flushed_failed g.L.Link g.X.Exchange _ c.flush.new.self c.args.reads_left.now alive (g.met.X.Exchange.same_self c.self.inside.exchange) f)

pub returns-in-Some-Memory-clause-stepped : goal.returns-in-Some-Memory-clause-stepped
returns-in-Some-Memory-clause-stepped g c =
    let alive = rw (← c.self.view_is) at c.if-has_failed.ensures.alive refl in
    let f = rw c.in-Some-Memory.field-0-is at c.in-Some-Memory.ensures in
    rw (← c.self.view_is) (flushed_memory g.L.Link g.X.Exchange _ c.flush.new.self c.args.reads_left.now alive (g.met.X.Exchange.same_self c.self.inside.exchange) f)
