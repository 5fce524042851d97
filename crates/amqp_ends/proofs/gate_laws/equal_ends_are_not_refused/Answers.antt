use Rattle.amqp_ends.proofs.Agreed.{agreed_not}
use Rattle.amqp_ends.proofs.gate_laws.equal_ends_are_not_refused.Goals as goal

pub returns : goal.returns
returns c = agreed_not
