use Rattle.amqp_ends.proofs.Honesty.{honest_replies}
use Rattle.amqp_ends.proofs.end_laws.replies_are_honest.Goals as goal

pub returns : goal.returns
returns c = honest_replies
