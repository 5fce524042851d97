use Rattle.std.proofs.Common.{◌^◌, arith}
use Rattle.amqp_peer.specs.Peering.{Has}
use Rattle.amqp_peer.proofs.Advances.{rested_then, rested_more}
use Rattle.amqp_peer.proofs.Turns.{on_ok, open_waits, open_ended, open_exchanged}
use Rattle.amqp_peer.proofs.peer.Peer.open.Goals as goal

pub returns-in-Ok-Pending-clause-ok : goal.returns-in-Ok-Pending-clause-ok
returns-in-Ok-Pending-clause-ok g c =
    let req = rw (← c.self.view_is) at c.requires in
    let run = rw c.in-Ok-Pending.field-0-is at c.in-Ok-Pending.ensures.ran in
    rw (← c.self.view_is) (rested_more g.L.Link c.args.at (2 ^ 62) (2 ^ 63) (Has _) _ _ (omega arith) (open_waits g.L.Link c.args.at _ c.run.new.self c.run.new.reads_left req run))

pub returns-in-Ok-Exchanged-clause-ok : goal.returns-in-Ok-Exchanged-clause-ok
returns-in-Ok-Exchanged-clause-ok g c =
    let req = rw (← c.self.view_is) at c.requires in
    let run = rw c.in-Ok-Exchanged.field-0-is at c.in-Ok-Exchanged.ensures.ran in
    rw (← c.self.view_is) (on_ok c.connect.result (λ r. rested_then g.L.Link c.args.at (2 ^ 62) (2 ^ 62) (Has _) _ _ c.connect.new.self ((open_exchanged g.L.Link c.args.at _ c.run.new.self c.run.new.reads_left req run).1) r) c.connect.ensures.ok)

pub returns-in-Ok-Failed-clause-ok : goal.returns-in-Ok-Failed-clause-ok
returns-in-Ok-Failed-clause-ok g c =
    let req = rw (← c.self.view_is) at c.requires in
    let run = rw c.in-Ok-Failed.field-0-is at c.in-Ok-Failed.ensures.ran in
    rw (← c.self.view_is) (on_ok c.finish.result (λ e. open_ended g.L.Link c.args.at _ c.finish.new.self c.run.new.self c.run.new.reads_left c.in-Ok-Failed.error req run e) c.finish.ensures.ok)
