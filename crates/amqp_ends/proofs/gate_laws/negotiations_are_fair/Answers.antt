use Rattle.amqp_ends.proofs.GateFair.{negotiation_fair}
use Rattle.amqp_ends.proofs.gate_laws.negotiations_are_fair.Goals as goal

pub returns : goal.returns
returns c = negotiation_fair
