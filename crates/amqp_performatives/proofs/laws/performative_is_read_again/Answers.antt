use Rattle.amqp_performatives.specs.Performative.{performative_again}
use Rattle.amqp_performatives.proofs.laws.performative_is_read_again.Goals as goal

pub returns : goal.returns
returns c = performative_again
