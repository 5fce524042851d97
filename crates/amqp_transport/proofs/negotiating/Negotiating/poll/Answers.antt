use Rattle.std.proofs.Common.{refl, Some, None}
use Rattle.amqp_wire.specs.declared.link.Held.TheVariants.{Full, Failed, Memory}
use Rattle.amqp_transport.proofs.negotiating.Negotiating.poll.Goals as goal

pub returns-in-None : goal.returns-in-None
returns-in-None g c = rw (← c.self.view_is) (record { mid = c.flush.new.self; held = None; flushed = c.in-None.ensures; answer = c.read.ensures })

pub returns-in-Some-Full : goal.returns-in-Some-Full
returns-in-Some-Full g c =
    let f = rw c.in-Some-Full.field-0-is at c.in-Some-Full.ensures in
    rw (← c.self.view_is) (record { mid = c.flush.new.self; held = Some Full; flushed = f; answer = (refl, refl) })

pub returns-in-Some-Failed : goal.returns-in-Some-Failed
returns-in-Some-Failed g c =
    let f = rw c.in-Some-Failed.field-0-is at c.in-Some-Failed.ensures in
    rw (← c.self.view_is) (record { mid = c.flush.new.self; held = Some Failed; flushed = f; answer = (refl, refl) })

pub returns-in-Some-Memory : goal.returns-in-Some-Memory
returns-in-Some-Memory g c =
    let f = rw c.in-Some-Memory.field-0-is at c.in-Some-Memory.ensures in
    rw (← c.self.view_is) (record { mid = c.flush.new.self; held = Some Memory; flushed = f; answer = (tt, refl) })
