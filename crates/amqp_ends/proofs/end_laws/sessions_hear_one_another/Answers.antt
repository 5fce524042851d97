use Rattle.amqp_ends.proofs.Streams.{sessions_hear}
use Rattle.amqp_ends.proofs.end_laws.sessions_hear_one_another.Goals as goal

pub returns : goal.returns
returns c = sessions_hear
