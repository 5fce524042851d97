use Rattle.std.proofs.Common.{ℕ, List, sym, subst}
use Rattle.amqp_sasl_bodies.specs.SaslBytes.{SpellsSasl}
use Rattle.amqp_transport.proofs.Refused.{holds_of_none}
use Rattle.amqp_transport.proofs.frames.SaslFramesFrameKind.decode.Goals as goal

pub returns-in-Err-clause-none : goal.returns-in-Err-clause-none
returns-in-Err-clause-none c = λ e x s. holds_of_none (SpellsSasl c.as_slice.result.now) c.in-Err.error c.in-Err.ensures e x (subst (λ (z : List ℕ). SpellsSasl z x) (sym c.as_slice.ensures) s)
