use Rattle.amqp_value.proofs.Complete.{begins_no_other}
use Rattle.amqp_value.proofs.laws.spelling_begins_no_other.Goals as goal

pub returns : goal.returns
returns c = begins_no_other
