use Rattle.amqp_pairs.proofs.Joining.{begun}
use Rattle.amqp_pairs.proofs.joining_laws.begun_ends_are_joined.Goals as goal

pub returns : goal.returns
returns c = begun
