use Rattle.amqp_wire.specs.declared.reading.Wait.TheVariants.{Over}
use Rattle.amqp_opening.proofs.Openings.{ran_spent, ran_stopped, ran_after, moves_read, keeps_read}
use Rattle.amqp_opening.proofs.opening.Opening.await_header.Goals as goal

pub returns-in-Ok-Over : goal.returns-in-Ok-Over
returns-in-Ok-Over g c =
    let stage = rw (← c.self.view_is) at c.requires.stage in
    let r = rw (c.in-Ok-Over.field-0-is, c.codec_mut.ensures.value) at c.in-Ok-Over.ensures.read in
    let same = g.met.X.Exchange.same_self c.self.inside.negotiation.exchange in
    let e = c.on_header.ensures c.read_header.new.reads_left in
    rw (← c.self.view_is) (ran_after g.L.Link g.X.Exchange _ _ c.on_header.new.self c.args.reads_left.now c.read_header.new.reads_left c.read_header.new.reads_left r.events c.on_header.result
    e.moves.kept (moves_read g.L.Link g.X.Exchange _ c.read_header.new.codec Over c.args.reads_left.now c.read_header.new.reads_left same r) (keeps_read g.L.Link g.X.Exchange _ c.read_header.new.codec Over c.args.reads_left.now c.read_header.new.reads_left stage r) e)

pub returns-in-Ok-Spent : goal.returns-in-Ok-Spent
returns-in-Ok-Spent g c =
    let stage = rw (← c.self.view_is) at c.requires.stage in
    let r = rw (c.in-Ok-Spent.field-0-is, c.codec_mut.ensures.value) at c.in-Ok-Spent.ensures.read in
    let out = rw (← c.self.view_is) at c.requires.flushed in
    let less = rw c.in-Ok-Spent.field-0-is at c.in-Ok-Spent.ensures.less in
    rw (← c.self.view_is) (ran_spent g.L.Link g.X.Exchange _ c.read_header.new.codec c.args.reads_left.now c.read_header.new.reads_left stage (g.met.X.Exchange.same_self c.self.inside.negotiation.exchange) out (less (λ e. cc)) r)

pub returns-in-Ok-Stopped : goal.returns-in-Ok-Stopped
returns-in-Ok-Stopped g c =
    let stage = rw (← c.self.view_is) at c.requires.stage in
    let r = rw (c.in-Ok-Stopped.field-0-is, c.codec_mut.ensures.value) at c.in-Ok-Stopped.ensures.read in
    let out = rw (← c.self.view_is) at c.requires.flushed in
    let less = rw c.in-Ok-Stopped.field-0-is at c.in-Ok-Stopped.ensures.less in
    rw (← c.self.view_is) (ran_stopped g.L.Link g.X.Exchange _ c.read_header.new.codec c.in-Ok-Stopped.stop c.args.reads_left.now c.read_header.new.reads_left c.on_stop.result c.on_stop.new.self stage
    (g.met.X.Exchange.same_self c.self.inside.negotiation.exchange) out (less (λ e. cc)) r c.on_stop.ensures)
