use Rattle.amqp_peer.specs.declared.peer.PeerKind.TheVariants.{Listener}
use Rattle.served_connection.specs.ServeLaws.History.{IsFresh}
use Rattle.served_connection.proofs.over.serve_over.Goals as goal

pub returns-in-Ok-clause-done : goal.returns-in-Ok-clause-done
returns-in-Ok-clause-done g c = λ is.
    let e = c.in-Ok.ensures in
    let fresh : IsFresh c.args.link Listener c.in-Ok.end = record { connection = e.connection; sessions = e.sessions; links = e.links; replies = e.replies; last = e.last } in
    record { old = c.in-Ok.end; new = c.serve_on.new.end; fresh = fresh; served = c.serve_on.ensures.bytes c.args.link Listener fresh is }
