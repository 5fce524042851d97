use Rattle.std.proofs.Common.{refl}
use Rattle.amqp_sasl_bodies.specs.declared.sasl_body.SaslBody.TheVariants.{Mechanisms, Challenge, Outcome}
use Rattle.sasl_exchange.proofs.ScramServers.{received_other}
use Rattle.sasl_exchange.proofs.scram_server.ScramServerExchangeExchange.on_body.Goals as goal

pub returns-in-Mechanisms : goal.returns-in-Mechanisms
returns-in-Mechanisms g c =
    let r = received_other g.P.ScramCredentialProvider.stored c.args.self.now (Mechanisms c.in-Mechanisms.field-0) refl c.requires in
    rw (c.in-Mechanisms.is, c.refuse.ensures) (record { taken = r.taken; less = r.less; same = r.same; refused = tt; kept = tt; err = tt })

pub returns-in-Challenge : goal.returns-in-Challenge
returns-in-Challenge g c =
    let r = received_other g.P.ScramCredentialProvider.stored c.args.self.now (Challenge c.in-Challenge.field-0) refl c.requires in
    rw (c.in-Challenge.is, c.refuse-in-Challenge.ensures) (record { taken = r.taken; less = r.less; same = r.same; refused = tt; kept = tt; err = tt })

pub returns : goal.returns
returns g c =
    let r = received_other g.P.ScramCredentialProvider.stored c.args.self.now (Outcome c.in-Outcome.field-0) refl c.requires in
    rw (c.in-Outcome.is, c.refuse-in-Outcome.ensures) (record { taken = r.taken; less = r.less; same = r.same; refused = tt; kept = tt; err = tt })
