use Rattle.amqp_session_world.proofs.Traces.{connections_answer}
use Rattle.amqp_session_world.proofs.laws.connections_answer.Goals as goal

pub returns : goal.returns
returns c = connections_answer
