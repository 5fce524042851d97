use Rattle.amqp_ends.proofs.Faced.{faced_called, faced_inside, faced_none, faced_other, faced_polled}
use Rattle.amqp_ends.proofs.gate_laws.ends_face_when_they_tell.Goals as goal

pub returns : goal.returns
returns c = record { none = faced_none; called = faced_called; polled = faced_polled; inside = faced_inside; other = faced_other }
