use Rattle.amqp_peer.proofs.Turns.{queue_step, note_step, on_ok}
use Rattle.amqp_peer.proofs.peer.Peer.queue_close.Goals as goal

pub returns-in-Ok-clause-ok : goal.returns-in-Ok-clause-ok
returns-in-Ok-clause-ok g c = rw (← c.self.view_is) (λ at p. queue_step g.L.Link at _ c.close.new.self c.args.condition c.in-Ok.field-0 p (rw c.error_for.ensures at c.in-Ok.ensures.closed))

pub returns-in-Err-clause-ok : goal.returns-in-Err-clause-ok
returns-in-Err-clause-ok g c = rw (← c.self.view_is) (on_ok c.note_close.result (λ n at p. note_step g.L.Link at _ c.close.new.self c.args.condition c.in-Err.error c.note_close.new.self p (rw c.error_for.ensures at c.in-Err.ensures.closed) n) c.note_close.ensures.ok)
