-- The client's gate: what was read and written where it passes (OASIS AMQP 1.0, part 5, section 5.3).
use Rattle.std.specs.Prelude.{◌≡◌, ◌++◌, ℕ, List, [], ◌∷◌, Option, Some, None, Result, Ok, Contains}
use Rattle.sasl_exchange.specs.amqp_sasl_bodies.declared.sasl_body.SaslBody.{SaslBody}
use Rattle.sasl_exchange.specs.amqp_sasl_bodies.declared.sasl_code.SaslCode.TheVariants as sasl
use Rattle.amqp_wire.specs.declared.link.Link.{Ghosts}
use Rattle.amqp_wire.specs.Events.{LinkEvent, read_of, wrote_of}
use Rattle.sasl_scram.specs.declared.error.ScramErrorKind.TheVariants.{TextNotAllowed}
use Rattle.sasl_scram.specs.declared.hash.ScramHash.{ScramHash}
use Rattle.sasl_scram.specs.Check.{ClientCheck}
use Rattle.sasl_scram.specs.Hashes.{digest_of, block_of, output_of, mechanism_of}
use Rattle.sasl_scram.specs.Texts.{client_first_of}
use Rattle.sasl_exchange.specs.declared.client.ClientExchange.{ClientExchange}
use Rattle.sasl_exchange.specs.declared.client.ClientExchange.TheVariants.{Scram, Init}
use Rattle.sasl_exchange.specs.declared.error.NegotiationError.{NegotiationError}
use Rattle.sasl_exchange.specs.declared.error.NegotiationError.TheVariants.{Memory, ProtocolHeaderMismatch, NotImplemented, SaslError, ScramError, Io, DecodeError, IllegalState, FramingError}
use Rattle.sasl_exchange.specs.AnyClient.{any_client_mechanism}
use Rattle.sasl_exchange.specs.Credentials.{Credentials, anonymous, plain, scram}
use Rattle.sasl_exchange.specs.InitTexts.{anonymous_name, plain_name, plain_of}
use Rattle.sasl_exchange.specs.ScramBodies.{mechanisms_body, init_body, challenge_body, response_body, outcome_body}
use Rattle.sasl_exchange.specs.ScramClient.{ClientEnd, IsFinal}
use Rattle.sasl_gate.specs.declared.gate.negotiation.GatePoll.{GatePoll}
use Rattle.sasl_gate.specs.declared.gate.negotiation.GatePoll.TheVariants as poll
use Rattle.sasl_gate.specs.Frames.{Heard, said, IsOnlySasl}
use Rattle.sasl_gate.specs.Negotiation.{Negotiating, Has, Polled}

-- ---- with SCRAM

-- what was read and written says that the listener knows the password: the exchange is whole, and its check holds
pub record ClientPassed (hash : ScramHash) (user password nonce : List ℕ) (hostname : Option (List ℕ)) (wrote read : List ℕ) : Type 0 where
  pub names : List (List ℕ)
  pub server_first : List ℕ
  pub client_final : List ℕ
  pub server_final : List ℕ
  pub told : List SaslBody
  pub replied : List SaslBody
  pub more : List ℕ
  pub rest : List ℕ
  pub wrote_is : wrote ≡ said (init_body (mechanism_of hash) (Some (client_first_of user nonce)) hostname ∷ response_body client_final ∷ replied) ++ more
  pub read_is : Heard read (mechanisms_body names ∷ challenge_body server_first ∷ told) rest
  pub final : IsFinal server_final told replied
  pub listed : Contains names (mechanism_of hash)
  pub check : ClientCheck (digest_of hash) (block_of hash) (output_of hash) user password nonce (client_first_of user nonce) server_first client_final server_final

-- that of an end
abbrev pub HasClientPassed : ClientEnd → List LinkEvent → Type 0
HasClientPassed x events = ClientPassed x.hash x.client.user x.client.password x.client.nonce x.hostname (wrote_of events) (read_of events)

-- ---- with a mechanism whose client says all in its init

-- what was read and written: the client's init went out, and outcome `Ok` came back. It says nothing of the listener, which shows
-- nothing in these mechanisms
pub record InitClientPassed (mechanism : List ℕ) (response hostname : Option (List ℕ)) (wrote read : List ℕ) : Type 0 where
  pub names : List (List ℕ)
  pub payload : Option (List ℕ)
  pub more : List ℕ
  pub rest : List ℕ
  pub wrote_is : wrote ≡ said (init_body mechanism response hostname ∷ []) ++ more
  pub read_is : Heard read (mechanisms_body names ∷ outcome_body sasl.Ok payload ∷ []) rest
  pub listed : Contains names mechanism

-- ---- with any of the mechanisms

-- why a gate is not made, by what would be true of allowed credentials
abbrev pub IsStartRefusal : Type 0 → NegotiationError → Type 0
IsStartRefusal Allowed (Memory a) = Allowed
IsStartRefusal Allowed (ProtocolHeaderMismatch h) = ⊥
IsStartRefusal Allowed NotImplemented = ⊥
IsStartRefusal Allowed (SaslError code payload) = ⊥
IsStartRefusal Allowed (ScramError kind) = (kind ≡ TextNotAllowed) × (¬ Allowed)
IsStartRefusal Allowed (Io kind) = ⊥
IsStartRefusal Allowed DecodeError = ⊥
IsStartRefusal Allowed IllegalState = ⊥
IsStartRefusal Allowed FramingError = ⊥

-- what was read and written says what the mechanism of an end promises
abbrev pub HasAnyClientPassed : ClientExchange → List LinkEvent → Type 0
HasAnyClientPassed (Scram x) events = HasClientPassed x events
HasAnyClientPassed (Init x) events = InitClientPassed x.mechanism x.response x.hostname (wrote_of events) (read_of events)

-- the same of an end that was made for these credentials and this host
abbrev pub AnyClientPassed : Credentials → Option (List ℕ) → List ℕ → List ℕ → Type 0
AnyClientPassed anonymous hostname wrote read = InitClientPassed anonymous_name None hostname wrote read
AnyClientPassed (plain user password) hostname wrote read = InitClientPassed plain_name (Some (plain_of user password)) hostname wrote read
AnyClientPassed (scram hash user password nonce) hostname wrote read = ClientPassed hash user password nonce hostname wrote read

-- a poll of a gate, and what it says of the whole history: only SASL was written, and where it passed, the check holds
pub record ClientPolled {L : Type 0} (link : Ghosts L) (old : Negotiating L ClientExchange) (left : ℕ) (result : Result GatePoll NegotiationError) (new : Negotiating L ClientExchange) (left' : ℕ) : Type 0 where
  pub polled : Polled link any_client_mechanism old left result new left'
  pub only_sasl : (before : List LinkEvent) → Has any_client_mechanism old before → IsOnlySasl (wrote_of (polled.events ++ before))
  pub passed : result ≡ Ok poll.Passed → (before : List LinkEvent) → Has any_client_mechanism old before → HasAnyClientPassed old.exchange (polled.events ++ before)
