use Rattle.amqp_ends.proofs.Sizes.{never_refused}
use Rattle.amqp_ends.proofs.end_laws.sizes_are_within.Goals as goal

pub returns : goal.returns
returns c = never_refused
