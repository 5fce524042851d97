use Rattle.amqp_ends.proofs.Wants.{wants}
use Rattle.amqp_ends.proofs.rest_laws.calls_wait_for_the_other.Goals as goal

pub returns : goal.returns
returns c = wants
