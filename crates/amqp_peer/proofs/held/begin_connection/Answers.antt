use Rattle.std.proofs.Common.{refl, ap, ◌∙◌, subst, Ok, Err}
use Rattle.amqp_transport.specs.Wire.{Wire}
use Rattle.amqp_engine.specs.Calls.{OpensTo}
use Rattle.amqp_peer.specs.declared.held.Held.TheVariants.{Unopened}
use Rattle.amqp_peer.proofs.Bound.{bound_is}
use Rattle.amqp_peer.proofs.held.begin_connection.Goals as goal

pub returns-in-Ok-clause-connecting : goal.returns-in-Ok-clause-connecting
returns-in-Ok-clause-connecting g c =
    let t = c.bind_to_framed_codec-transport in
    (c.in-Ok.engine, refl, subst (λ (w : Wire _). OpensTo w c.args.prepared.end (Ok c.in-Ok.engine)) (bound_is t.result c.args.opening.negotiation.codec c.args.prepared.idle c.milliseconds-idle.result c.args.at c.milliseconds-idle.ensures (t.ensures.codec ∙ c.into_codec.ensures) t.ensures.clock t.ensures.kept) c.in-Ok.ensures)

pub returns-in-Err-clause-connecting : goal.returns-in-Err-clause-connecting
returns-in-Err-clause-connecting g c =
    let t = c.bind_to_framed_codec-transport in
    (c.in-Err.transport, ap (λ z. Unopened z) c.into_framed_codec.ensures, subst (λ (w : Wire _). OpensTo w c.args.prepared.end (Err (c.in-Err.error, c.in-Err.transport))) (bound_is t.result c.args.opening.negotiation.codec c.args.prepared.idle c.milliseconds-idle.result c.args.at c.milliseconds-idle.ensures (t.ensures.codec ∙ c.into_codec.ensures) t.ensures.clock t.ensures.kept) c.in-Err.ensures)
