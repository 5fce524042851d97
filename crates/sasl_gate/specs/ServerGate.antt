-- The listener's gate: what was read and written where it passes (OASIS AMQP 1.0, part 5, section 5.3). `passwords` and `stored`
-- are what its providers have.
use Rattle.std.specs.Prelude.{◌≡◌, ◌++◌, ℕ, List, [], ◌∷◌, Option, Some, None, Result, Ok}
use Rattle.sasl_exchange.specs.amqp_sasl_bodies.declared.sasl_body.SaslBody.{SaslBody}
use Rattle.sasl_exchange.specs.amqp_sasl_bodies.declared.sasl_code.SaslCode.TheVariants as sasl
use Rattle.amqp_wire.specs.declared.link.Link.{Ghosts}
use Rattle.amqp_wire.specs.Codec.{Codec}
use Rattle.amqp_wire.specs.Events.{LinkEvent, read_of, wrote_of}
use Rattle.sasl_scram.specs.declared.hash.ScramHash.{ScramHash}
use Rattle.sasl_scram.specs.declared.stored.StoredPassword.{StoredPassword}
use Rattle.sasl_scram.specs.Check.{ServerCheck}
use Rattle.sasl_scram.specs.Hashes.{digest_of, block_of, output_of, mechanism_of}
use Rattle.sasl_exchange.specs.declared.acceptor.SaslAcceptor.{SaslAcceptor}
use Rattle.sasl_exchange.specs.declared.error.NegotiationError.{NegotiationError}
use Rattle.sasl_exchange.specs.declared.init_server.InitCheck.{InitCheck}
use Rattle.sasl_exchange.specs.declared.server.ServerExchange.{ServerExchange}
use Rattle.sasl_exchange.specs.declared.server.ServerExchange.TheVariants.{Scram, Init}
use Rattle.sasl_exchange.specs.AnyServer.{Passwords, StoredPasswords, any_server_mechanism, IsServerBegun}
use Rattle.sasl_exchange.specs.InitServer.{check_mechanisms, IsPassing}
use Rattle.sasl_exchange.specs.ScramBodies.{init_body, challenge_body, response_body, outcome_body}
use Rattle.sasl_exchange.specs.ScramServer.{ServerEnd, own_mechanisms}
use Rattle.sasl_gate.specs.declared.gate.negotiation.GatePoll.{GatePoll}
use Rattle.sasl_gate.specs.declared.gate.negotiation.GatePoll.TheVariants as poll
use Rattle.sasl_gate.specs.Frames.{Heard, said, IsOnlySasl}
use Rattle.sasl_gate.specs.Gates.{started}
use Rattle.sasl_gate.specs.Negotiation.{Negotiating, Has, Polled}

-- ---- with SCRAM

-- what was read and written says that the client knows the password of a user: the exchange is whole, and its check
-- holds. `stored` is what the provider has
pub record ServerPassed (hash : ScramHash) (stored : List ℕ → Option StoredPassword) (nonce wrote read : List ℕ) : Type 0 where
  pub user : List ℕ
  pub hostname : Option (List ℕ)
  pub client_first : List ℕ
  pub server_first : List ℕ
  pub client_final : List ℕ
  pub server_final : List ℕ
  pub more : List ℕ
  pub rest : List ℕ
  pub wrote_is : wrote ≡ said (own_mechanisms hash ∷ challenge_body server_first ∷ outcome_body sasl.Ok (Some server_final) ∷ []) ++ more
  pub read_is : Heard read (init_body (mechanism_of hash) (Some client_first) hostname ∷ response_body client_final ∷ []) rest
  pub check : ServerCheck (digest_of hash) (block_of hash) (output_of hash) stored nonce user client_first server_first client_final server_final

-- that of an end
abbrev pub HasServerPassed : {P : Type 0} → (P → List ℕ → Option StoredPassword) → ServerEnd P → List LinkEvent → Type 0
HasServerPassed stored x events = ServerPassed x.hash (stored x.server.provider) x.server.nonce (wrote_of events) (read_of events)

-- ---- with a mechanism whose client says all in its init

-- what was read and written: one body was read, which passes, and outcome `Ok` was told
pub record InitServerPassed {Q : Type 0} (passwords : Q → List ℕ → Option (List ℕ)) (check : InitCheck Q) (wrote read : List ℕ) : Type 0 where
  pub body : SaslBody
  pub more : List ℕ
  pub rest : List ℕ
  pub wrote_is : wrote ≡ said (check_mechanisms check ∷ outcome_body sasl.Ok None ∷ []) ++ more
  pub read_is : Heard read (body ∷ []) rest
  pub passing : IsPassing passwords check body

-- ---- with any of the mechanisms

-- a gate that begins for an acceptor, over a codec
pub record IsServerStarted {L Q P : Type 0} (codec : Codec L) (acceptor : SaslAcceptor Q P) (gate : Negotiating L (ServerExchange Q P)) : Type 0 where
  pub begun : IsServerBegun acceptor gate.exchange
  pub started_is : gate ≡ started codec gate.exchange

-- what was read and written says what the mechanism of an end promises
abbrev pub HasAnyServerPassed : {Q P : Type 0} → Passwords Q → StoredPasswords P → ServerExchange Q P → List LinkEvent → Type 0
HasAnyServerPassed passwords stored (Scram x) events = HasServerPassed stored x events
HasAnyServerPassed passwords stored (Init x) events = InitServerPassed passwords x.check (wrote_of events) (read_of events)

-- a poll of a gate, and what it says of the whole history: only SASL was written, and where it passed, the check holds
pub record ServerPolled {L Q P : Type 0} (link : Ghosts L) (passwords : Passwords Q) (stored : StoredPasswords P) (old : Negotiating L (ServerExchange Q P)) (left : ℕ)
    (result : Result GatePoll NegotiationError) (new : Negotiating L (ServerExchange Q P)) (left' : ℕ) : Type 0 where
  pub polled : Polled link (any_server_mechanism passwords stored) old left result new left'
  pub only_sasl : (before : List LinkEvent) → Has (any_server_mechanism passwords stored) old before → IsOnlySasl (wrote_of (polled.events ++ before))
  pub passed : result ≡ Ok poll.Passed → (before : List LinkEvent) → Has (any_server_mechanism passwords stored) old before
      → HasAnyServerPassed passwords stored old.exchange (polled.events ++ before)
