use Rattle.amqp_ends.proofs.Closes.{says_no_close}
use Rattle.amqp_ends.proofs.end_laws.closes_are_called.Goals as goal

pub returns : goal.returns
returns c = says_no_close
