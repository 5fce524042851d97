use Rattle.amqp_ends.proofs.Passes.{both_through}
use Rattle.amqp_ends.proofs.gate_laws.equal_ends_pass.Goals as goal

pub returns : goal.returns
returns c = both_through
