use Rattle.amqp_opening.proofs.Openings.{ran_after, ran_error, moves_polled, keeps_polled}
use Rattle.amqp_opening.proofs.opening.Opening.negotiate.Goals as goal

pub returns-in-Ok-Passed : goal.returns-in-Ok-Passed
returns-in-Ok-Passed g c =
    let stage = rw (← c.self.view_is) at c.requires in
    let p = rw c.in-Ok-Passed.field-0-is at c.in-Ok-Passed.ensures in
    let e = c.on_passed.ensures in
    let same = g.met.X.Exchange.same_then c.self.inside.negotiation.exchange c.poll_within.new.self.exchange c.on_passed.new.self.negotiation.exchange p.goes.kept e.moves.kept in
    rw (← c.self.view_is) (ran_after g.L.Link g.X.Exchange _ _ c.on_passed.new.self c.args.reads_left.now c.poll_within.new.reads_left c.on_passed.new.reads_left p.events c.on_passed.result same
    (moves_polled g.L.Link g.X.Exchange _ c.poll_within.new.self c.args.reads_left.now c.poll_within.new.reads_left p.events p.goes) (keeps_polled g.L.Link g.X.Exchange _ c.poll_within.new.self c.args.reads_left.now c.poll_within.new.reads_left p.events stage p.goes) e)

pub returns-in-None : goal.returns-in-None
returns-in-None g c =
    let stage = rw (← c.self.view_is) at c.requires in
    let i = c.in-None.ensures in
    rw (← c.self.view_is, c.fail.ensures.ended, c.fail.ensures.result) (ran_error g.L.Link g.X.Exchange _ c.poll_within.new.self c.args.reads_left.now c.poll_within.new.reads_left c.in-Err.error stage c.in-Err.ensures i)
