use Rattle.std.proofs.Common.{refl}
use Rattle.amqp_receiver.proofs.delivering.decoded.Goals as goal

pub returns-in-Ok : goal.returns-in-Ok
returns-in-Ok c = (c.into_parts-info.ensures.0, refl, c.into_parts-info.ensures.1, rw c.into_parts-info.ensures.2 at c.in-Ok.ensures)
