use Rattle.amqp_ends.proofs.Told.{both_told}
use Rattle.amqp_ends.proofs.gate_laws.refusals_are_told.Goals as goal

pub returns : goal.returns
returns c = both_told
