use Rattle.std.proofs.Common.{None, Some}
use Rattle.amqp_wire.specs.declared.link.Held.TheVariants.{Memory}
use Rattle.sasl_gate.proofs.Negotiations.{flush_events}
use Rattle.amqp_opening.proofs.Openings.{ran_full, ran_failed, ran_after, ran_memory, moves_flushed, keeps_flushed}
use Rattle.amqp_opening.proofs.opening.Opening.exchange_headers.Goals as goal

pub returns-in-None : goal.returns-in-None
returns-in-None g c =
    let stage = rw (← c.self.view_is) at c.requires in
    let f = rw c.codec_mut.ensures.value at c.in-None.ensures in
    let same = g.met.X.Exchange.same_self c.self.inside.negotiation.exchange in
    rw (← c.self.view_is) (ran_after g.L.Link g.X.Exchange _ _ c.await_header.new.self c.args.reads_left.now c.args.reads_left.now c.await_header.new.reads_left (flush_events f.bytes None) c.await_header.result
    c.await_header.ensures.moves.kept (moves_flushed g.L.Link g.X.Exchange _ c.flush.new.self None c.args.reads_left.now same f) (keeps_flushed g.L.Link g.X.Exchange _ c.flush.new.self None stage f) c.await_header.ensures)

pub returns-in-Some-Full : goal.returns-in-Some-Full
returns-in-Some-Full g c =
    let stage = rw (← c.self.view_is) at c.requires in
    let f = rw (c.in-Some-Full.field-0-is, c.codec_mut.ensures.value) at c.in-Some-Full.ensures in
    rw (← c.self.view_is) (ran_full g.L.Link g.X.Exchange _ c.flush.new.self c.args.reads_left.now stage (g.met.X.Exchange.same_self c.self.inside.negotiation.exchange) f)

pub returns-in-Some-Failed : goal.returns-in-Some-Failed
returns-in-Some-Failed g c =
    let stage = rw (← c.self.view_is) at c.requires in
    let f = rw (c.in-Some-Failed.field-0-is, c.codec_mut.ensures.value) at c.in-Some-Failed.ensures in
    rw (← c.self.view_is, c.fail.ensures.ended, c.fail.ensures.result) (ran_failed g.L.Link g.X.Exchange _ c.flush.new.self c.args.reads_left.now stage (g.met.X.Exchange.same_self c.self.inside.negotiation.exchange) f)

pub returns-in-Some-Memory : goal.returns-in-Some-Memory
returns-in-Some-Memory g c =
    let f = rw (c.in-Some-Memory.field-0-is, c.codec_mut.ensures.value) at c.in-Some-Memory.ensures in
    let same = g.met.X.Exchange.same_self c.self.inside.negotiation.exchange in
    rw (← c.self.view_is) (ran_memory g.L.Link g.X.Exchange _ _ c.args.reads_left.now c.args.reads_left.now (flush_events f.bytes (Some Memory)) _ (moves_flushed g.L.Link g.X.Exchange _ c.flush.new.self (Some Memory) c.args.reads_left.now same f))
