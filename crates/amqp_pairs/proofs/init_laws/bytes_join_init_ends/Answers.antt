use Rattle.amqp_pairs.proofs.Bytes.{init_joined}
use Rattle.amqp_pairs.proofs.init_laws.bytes_join_init_ends.Goals as goal

pub returns : goal.returns
returns c = init_joined
