use Rattle.std.proofs.Common.{◌^◌, sym}
use Rattle.amqp_peer.specs.Peering.{Has}
use Rattle.amqp_peer.proofs.Advances.{rested_then}
use Rattle.amqp_peer.proofs.Turns.{on_ok, connect_begins, connect_ended}
use Rattle.amqp_peer.proofs.peer.Peer.connect.Goals as goal

pub returns-in-Ok-clause-ok : goal.returns-in-Ok-clause-ok
returns-in-Ok-clause-ok g c =
    let req = rw (← c.self.view_is) at c.requires in
    rw (← c.self.view_is) (on_ok c.go_on.result (λ r. rested_then g.L.Link c.args.at 0 (2 ^ 62) (Has _) _ _ c.go_on.new.self (connect_begins g.L.Link c.args.at _ c.connect.new.self c.in-Ok.field-0 req c.in-Ok.ensures.connected) r) c.go_on.ensures.ok)

pub returns-in_ok-error-in-Err-clause-ok : goal.returns-in_ok-error-in-Err-clause-ok
returns-in_ok-error-in-Err-clause-ok g c =
    let req = rw (← c.self.view_is) at c.requires in
    let ended = rw c.open_error_of.ensures at c.finish.ensures.ok in
    rw (← c.self.view_is) (on_ok c.finish.result (λ e. connect_ended g.L.Link c.args.at _ c.finish.new.self c.connect.new.self c.in-Err.error c.in_ok-error-in-Err.error req c.in-Err.ensures.connected (sym c.in_ok-error-in-Err.ensures) e) ended)
