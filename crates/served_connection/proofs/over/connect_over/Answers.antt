use Rattle.amqp_peer.specs.declared.peer.PeerKind.TheVariants.{Client}
use Rattle.served_connection.specs.ServeLaws.History.{IsFresh}
use Rattle.served_connection.proofs.over.connect_over.Goals as goal

pub returns-in-Ok-clause-done : goal.returns-in-Ok-clause-done
returns-in-Ok-clause-done g c = λ is.
    let e = c.in-Ok.ensures in
    let fresh : IsFresh c.args.link Client c.in-Ok.end = record { connection = e.connection; sessions = e.sessions; links = e.links; replies = e.replies; last = e.last } in
    record { old = c.in-Ok.end; new = c.connect_on.new.end; fresh = fresh; sent = c.connect_on.ensures.bytes c.args.link Client fresh is }
