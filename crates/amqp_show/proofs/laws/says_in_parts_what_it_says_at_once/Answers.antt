use Rattle.amqp_show.proofs.Joined.{speaks_joined}
use Rattle.amqp_show.proofs.laws.says_in_parts_what_it_says_at_once.Goals as goal

pub returns : goal.returns
returns c = speaks_joined
