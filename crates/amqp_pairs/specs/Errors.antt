-- Why a client can refuse a body of a listener to which it is joined.
use Rattle.std.specs.Prelude.{◌≡◌, ◌≢◌, None}
use Rattle.amqp_sasl_bodies.specs.declared.sasl_body.SaslBody.{SaslBody}
use Rattle.amqp_sasl_bodies.specs.declared.sasl_code.SaslCode.TheVariants as sasl
use Rattle.sasl_exchange.specs.declared.error.NegotiationError.{NegotiationError}
use Rattle.sasl_exchange.specs.declared.error.NegotiationError.TheVariants.{Memory, ProtocolHeaderMismatch, NotImplemented, SaslError, ScramError, Io, DecodeError, IllegalState, FramingError}
use Rattle.sasl_exchange.specs.declared.exchange.Turn.TheVariants.{Refuse, Pass}
use Rattle.sasl_scram.specs.declared.error.ScramErrorKind.TheVariants as scram
use Rattle.sasl_exchange.specs.ScramClient.{ClientEnd}
use Rattle.sasl_exchange.specs.ScramBodies.{outcome_body}
use Rattle.sasl_exchange.specs.ScramServer.{ServerEnd, server_turn}
use Rattle.sasl_scram.specs.States.{Account}
use Rattle.amqp_pairs.specs.Joined.{IsOtherAccount}

-- the listener told the client that it refuses another account
pub record IsTold (x : ClientEnd) (y : ServerEnd Account) (body : SaslBody) : Type 0 where
  pub body_is : body ≡ outcome_body sasl.Auth None
  pub refuses : server_turn y ≡ Refuse sasl.Auth
  pub other : IsOtherAccount x y.server.provider

-- a listener with another password for this user took the client's proof
pub record IsCollided (x : ClientEnd) (y : ServerEnd Account) : Type 0 where
  pub passes : server_turn y ≡ Pass
  pub user : x.client.user ≡ y.server.provider.user
  pub password : x.client.password ≢ y.server.provider.password

-- the errors with which a client can refuse the next body of the listener: those of an outcome that refuses, which may come at any
-- time (OASIS AMQP 1.0, part 5, section 5.3.3.6), and of another signature
abbrev pub MayRefuse : ClientEnd → ServerEnd Account → SaslBody → NegotiationError → Type 0
MayRefuse x y body (Memory a) = ⊥
MayRefuse x y body (ProtocolHeaderMismatch h) = ⊥
MayRefuse x y body NotImplemented = ⊥
MayRefuse x y body (SaslError code payload) = (code ≡ sasl.Auth) × (payload ≡ None) × IsTold x y body
MayRefuse x y body (ScramError kind) = (kind ≡ scram.Signature) × IsCollided x y
MayRefuse x y body (Io kind) = ⊥
MayRefuse x y body DecodeError = ⊥
MayRefuse x y body IllegalState = ⊥
MayRefuse x y body FramingError = ⊥
