use Rattle.amqp_end.proofs.Goes.{on_any}
use Rattle.amqp_end.proofs.Rests.{said_still}
use Rattle.amqp_end.proofs.end.End.look_at_fault.Goals as goal

pub returns-clause-said : goal.returns-clause-said
returns-clause-said g c = on_any c.look_at_links.result (said_still c.args.self.now c.look_at_links.new.self c.look_at_links.ensures.connection c.look_at_links.ensures.sessions)
