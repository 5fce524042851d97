use Rattle.amqp_ends.proofs.Quiet.{headers_do_not_wait}
use Rattle.amqp_ends.proofs.rest_laws.headers_do_not_wait.Goals as goal

pub returns : goal.returns
returns c = headers_do_not_wait
