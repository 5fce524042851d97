-- The two ends of a SASL exchange whose client says all in its init, with ANONYMOUS (RFC 4505) or PLAIN (RFC 4616), joined by a stream of
-- bodies each way.
use Rattle.std.specs.Prelude.{◌≡◌, ◌≢◌, ◌⊎◌, List, ◌++◌, Some, None, ⊤}
use Rattle.amqp_sasl_bodies.specs.declared.sasl_body.SaslBody.{SaslBody}
use Rattle.amqp_sasl_bodies.specs.declared.sasl_code.SaslCode.{SaslCode}
use Rattle.amqp_sasl_bodies.specs.declared.sasl_code.SaslCode.TheVariants as sasl
use Rattle.amqp_opening.specs.Authentication.{passwords_for}
use Rattle.sasl_exchange.specs.declared.error.NegotiationError.{NegotiationError}
use Rattle.sasl_exchange.specs.declared.error.NegotiationError.TheVariants.{Memory, ProtocolHeaderMismatch, NotImplemented, SaslError, ScramError, Io, DecodeError, IllegalState, FramingError}
use Rattle.sasl_exchange.specs.declared.exchange.Turn.TheVariants.{Refuse}
use Rattle.sasl_exchange.specs.declared.init_server.InitCheck.{InitCheck}
use Rattle.sasl_exchange.specs.declared.init_server.InitCheck.TheVariants as init_check
use Rattle.sasl_exchange.specs.declared.init_server.InitServerStage.{InitServerStage}
use Rattle.sasl_exchange.specs.declared.init_server.InitServerStage.TheVariants as server_stage
use Rattle.sasl_exchange.specs.Credentials.{Credentials, anonymous, plain, scram, IsAllowedTexts}
use Rattle.sasl_exchange.specs.InitClient.{InitClientEnd, init_client_holds}
use Rattle.sasl_exchange.specs.InitServer.{InitServerEnd, check_name, init_server_holds, init_server_turn}
use Rattle.sasl_exchange.specs.InitTexts.{anonymous_name, plain_name, plain_of}
use Rattle.sasl_exchange.specs.ScramBodies.{outcome_body}
use Rattle.sasl_scram.specs.States.{Account}

-- a client that says these credentials in its init: with ANONYMOUS nothing (RFC 4505, section 2), with PLAIN its user and its password
-- (RFC 4616, section 2)
abbrev pub SaysIn : Credentials → InitClientEnd → Type 0
SaysIn anonymous x = (x.mechanism ≡ anonymous_name) × (x.response ≡ None)
SaysIn (plain user password) x = (x.mechanism ≡ plain_name) × (x.response ≡ Some (plain_of user password))
SaysIn (scram hash user password nonce) x = ⊥

-- a client that says these credentials, which are in the profile, and a listener of the same mechanism, with PLAIN with one user; and what
-- each was given, and what it sent
pub record AreInitEnds (c : Credentials) (x : InitClientEnd) (y : InitServerEnd Account) (client_given client_sent listener_given listener_sent : List SaslBody) : Type 0 where
  pub says : SaysIn c x
  pub texts_are : IsAllowedTexts c
  pub same_mechanism : x.mechanism ≡ check_name y.check
  pub client : init_client_holds x client_given client_sent
  pub listener : init_server_holds passwords_for y listener_given listener_sent

-- two such ends, and the bodies in flight: those that the one sent and the other has not taken. A body that a client refuses is not
-- taken
pub record AreInitJoined (c : Credentials) (x : InitClientEnd) (y : InitServerEnd Account)
    (client_given client_sent listener_given listener_sent to_client to_listener : List SaslBody) : Type 0 where
  pub ends : AreInitEnds c x y client_given client_sent listener_given listener_sent
  pub reads_listener : client_given ++ to_client ≡ listener_sent
  pub reads_client : listener_given ++ to_listener ≡ client_sent

-- a law of all such ends that are joined: of what the client says, of both ends, what the client was given and sent, what the listener was
-- given and sent, and what is in flight to the client and to the listener
abbrev pub ForInitJoined : (Credentials → InitClientEnd → InitServerEnd Account → List SaslBody → List SaslBody → List SaslBody → List SaslBody
    → List SaslBody → List SaslBody → Type 0) → Type 0
ForInitJoined P = (c : Credentials) (x : InitClientEnd) (y : InitServerEnd Account) (gc sc gl sl fc fl : List SaslBody)
    → AreInitJoined c x y gc sc gl sl fc fl → P c x y gc sc gl sl fc fl

-- with PLAIN, user and password of the client are those of the listener (RFC 4616, section 2); with ANONYMOUS there are none
abbrev pub HasSameAccount : Credentials → InitCheck Account → Type 0
HasSameAccount anonymous check = ⊤
HasSameAccount (plain user password) init_check.Anonymous = ⊥
HasSameAccount (plain user password) (init_check.Plain account) = (user ≡ account.user) × (password ≡ account.password)
HasSameAccount (scram hash user password nonce) check = ⊥

-- with PLAIN, one of them is not
abbrev pub HasOtherAccount : Credentials → InitCheck Account → Type 0
HasOtherAccount anonymous check = ⊥
HasOtherAccount (plain user password) init_check.Anonymous = ⊥
HasOtherAccount (plain user password) (init_check.Plain account) = (user ≢ account.user) ⊎ (password ≢ account.password)
HasOtherAccount (scram hash user password nonce) check = ⊥

-- the listener has told that it refuses with this code, or owes that
abbrev pub IsRefusingWith : SaslCode → InitServerStage → Type 0
IsRefusingWith code server_stage.OwesMechanisms = ⊥
IsRefusingWith code server_stage.AwaitsInit = ⊥
IsRefusingWith code (server_stage.OwesOutcome other) = (other ≡ code) × (code ≢ sasl.Ok)
IsRefusingWith code (server_stage.Told other) = (other ≡ code) × (code ≢ sasl.Ok)

-- the listener told the client that it refuses another account (OASIS AMQP 1.0, part 5, section 5.3.3.6)
pub record IsInitTold (c : Credentials) (y : InitServerEnd Account) (body : SaslBody) : Type 0 where
  pub body_is : body ≡ outcome_body sasl.Auth None
  pub refuses : init_server_turn y ≡ Refuse sasl.Auth
  pub other : HasOtherAccount c y.check

-- the errors with which a client can refuse the next body of the listener: that of an outcome that refuses, told without data (OASIS AMQP
-- 1.0, part 5, section 5.3.3.6)
abbrev pub MayRefuseInit : Credentials → InitServerEnd Account → SaslBody → NegotiationError → Type 0
MayRefuseInit c y body (Memory a) = ⊥
MayRefuseInit c y body (ProtocolHeaderMismatch h) = ⊥
MayRefuseInit c y body NotImplemented = ⊥
MayRefuseInit c y body (SaslError code payload) = (code ≡ sasl.Auth) × (payload ≡ None) × IsInitTold c y body
MayRefuseInit c y body (ScramError kind) = ⊥
MayRefuseInit c y body (Io kind) = ⊥
MayRefuseInit c y body DecodeError = ⊥
MayRefuseInit c y body IllegalState = ⊥
MayRefuseInit c y body FramingError = ⊥
