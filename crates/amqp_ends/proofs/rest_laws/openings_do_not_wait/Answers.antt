use Rattle.amqp_ends.proofs.Quiet.{openings_do_not_wait}
use Rattle.amqp_ends.proofs.rest_laws.openings_do_not_wait.Goals as goal

pub returns : goal.returns
returns c = openings_do_not_wait
