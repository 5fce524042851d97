use Rattle.amqp_conversation.proofs.Bad.{bad_says_nothing}
use Rattle.amqp_conversation.proofs.said.bad_bytes_say_nothing.Goals as goal

pub returns : goal.returns
returns c = bad_says_nothing
