use Rattle.amqp_pairs.proofs.Bytes.{rest}
use Rattle.amqp_pairs.proofs.stream_laws.bytes_come_to_rest.Goals as goal

pub returns : goal.returns
returns c = rest
