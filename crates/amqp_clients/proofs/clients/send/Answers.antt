use Rattle.amqp_clients.proofs.Owned.{has_sent}
use Rattle.amqp_clients.proofs.clients.send.Goals as goal

pub returns-in-Ok-sent : goal.returns-in-Ok-sent
returns-in-Ok-sent g c = record {
  done = λ is. has_sent _ _ _ _ c.in-Ok-sent.refused c.in-Ok.ensures.client c.in-Ok-sent.ensures.delivered (c.ending_of_sent.ensures.done is);
}
