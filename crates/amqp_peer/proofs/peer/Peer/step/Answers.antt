use Rattle.std.proofs.Common.{Ok, ap}
use Rattle.amqp_peer.proofs.peer.Peer.step.Goals as goal

pub returns-in-Ok-clause-more : goal.returns-in-Ok-clause-more
returns-in-Ok-clause-more g c = λ e. c.in-Ok.ensures.more (ap Ok (cc e))

pub returns-in-Ok-clause-rests : goal.returns-in-Ok-clause-rests
returns-in-Ok-clause-rests g c = λ e. c.in-Ok.ensures.rests (ap Ok (cc e))

pub returns-in-Ok-clause-hands : goal.returns-in-Ok-clause-hands
returns-in-Ok-clause-hands g c = λ e. c.in-Ok.ensures.hands (ap Ok (cc e))

pub returns-in-Ok-clause-hands_last : goal.returns-in-Ok-clause-hands_last
returns-in-Ok-clause-hands_last g c = λ e. c.in-Ok.ensures.hands_last (ap Ok (cc e))
