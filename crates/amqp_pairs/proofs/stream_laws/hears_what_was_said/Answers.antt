use Rattle.amqp_pairs.proofs.Streams.{first_said}
use Rattle.amqp_pairs.proofs.stream_laws.hears_what_was_said.Goals as goal

pub returns : goal.returns
returns c = first_said
