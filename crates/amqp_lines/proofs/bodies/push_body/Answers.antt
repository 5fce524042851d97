use Rattle.amqp_lines.proofs.Payloads.{adds_body}
use Rattle.amqp_lines.proofs.bodies.push_body.Goals as goal

pub returns : goal.returns
returns c = adds_body c.args.body.now _ _ _ c.in_ok-push_performative.ensures c.in_ok-push_behind.ensures
