use Rattle.amqp_clients.proofs.Owned.{client_over}
use Rattle.amqp_clients.proofs.clients.dial.Goals as goal

pub returns-in-Ok-client : goal.returns-in-Ok-client
returns-in-Ok-client g c =
    let e = c.in-Ok-client.ensures in
    record { client = client_over _ c.in-Ok-client.end e.connection e.sessions e.links e.replies e.last }
