use Rattle.amqp_ends.proofs.Quiet.{closes_do_not_wait}
use Rattle.amqp_ends.proofs.rest_laws.closes_do_not_wait.Goals as goal

pub returns : goal.returns
returns c = closes_do_not_wait
