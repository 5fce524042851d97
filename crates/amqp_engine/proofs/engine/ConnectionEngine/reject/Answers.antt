use Rattle.std.proofs.Common.{inl, refl}
use Rattle.amqp_engine.proofs.engine.ConnectionEngine.reject.Goals as goal

pub returns-in-Ok-put_close : goal.returns-in-Ok-put_close
returns-in-Ok-put_close g c =
    let p = rw c.in-Ok.ensures at c.in-Ok-put_close.ensures in
    inl (refl, p.1, p.2, p.3)
