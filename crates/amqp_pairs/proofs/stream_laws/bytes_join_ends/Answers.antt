use Rattle.amqp_pairs.proofs.Bytes.{joined}
use Rattle.amqp_pairs.proofs.stream_laws.bytes_join_ends.Goals as goal

pub returns : goal.returns
returns c = joined
