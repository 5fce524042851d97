use Rattle.amqp_ends.proofs.GateReplies.{replies_fair}
use Rattle.amqp_ends.proofs.gate_laws.replies_are_fair.Goals as goal

pub returns : goal.returns
returns c = replies_fair
