use Rattle.amqp_pairs.proofs.Streams.{all_said}
use Rattle.amqp_pairs.proofs.stream_laws.hears_all_that_was_said.Goals as goal

pub returns : goal.returns
returns c = all_said
