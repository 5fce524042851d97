use Rattle.sasl_gate.specs.declared.gate.negotiation.Step.TheVariants.{Goes}
use Rattle.sasl_gate.specs.Steps.{Stepped, measure_of}
use Rattle.sasl_gate.proofs.gate.negotiation.Negotiation.poll_within.Given as goal

abbrev pub invariant-steps : goal.invariant-steps
invariant-steps g l = Stepped g.L.Link g.X.Exchange l.fn.self l.fn.reads_left Goes l.self l.reads_left

abbrev pub decreases-steps : goal.decreases-steps
decreases-steps g l = measure_of g.X.Exchange l.self
