use Rattle.std.proofs.Common.{refl}
use Rattle.std.proofs.lemmas.Bool.{false≢true}
use Rattle.sasl_exchange.proofs.InitServers.{anonymous_passes, plain_passes, plain_known, plain_formless}
use Rattle.sasl_exchange.proofs.init_server.InitCheck.takes.Goals as goal

pub returns-in_default : goal.returns-in_default
returns-in_default g c =
    let named = rw c.in_default.is at c.requires in
    rw c.in_default.is (λ t. anonymous_passes c.args.init.now named, λ p. refl)

pub returns-in-Some-read_plain : goal.returns-in-Some-read_plain
returns-in-Some-read_plain g c =
    let message = rw c.as_slice.ensures at c.in-Some-read_plain.ensures.found in
    let named = rw c.in-Plain.is at c.requires in
    rw c.in-Plain.is (
      λ t. plain_passes (g.Q.PlainCredentialProvider.passwords c.in-Plain.provider) c.args.init.now c.in-Some.text c.in-Some-read_plain.message.user.now
          c.in-Some-read_plain.message.password.now named c.in-Some.is message (c.has_password.ensures.0 t).0 (c.has_password.ensures.0 t).1,
      λ p. c.has_password.ensures.1 (plain_known (g.Q.PlainCredentialProvider.passwords c.in-Plain.provider) c.args.init.now c.in-Some.text
          c.in-Some-read_plain.message.user.now c.in-Some-read_plain.message.password.now c.in-Some.is message p),
    )

pub returns-in-None : goal.returns-in-None
returns-in-None g c =
    let missing = rw c.as_slice.ensures at c.in-None.ensures.missing in
    rw c.in-Plain.is (
      λ t. absurd (false≢true t),
      λ p. absurd (plain_formless (g.Q.PlainCredentialProvider.passwords c.in-Plain.provider) c.args.init.now c.in-Some.text c.in-Some.is missing p),
    )
