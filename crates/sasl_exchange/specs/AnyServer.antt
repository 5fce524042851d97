-- The listener's end of a SASL negotiation with any of the mechanisms. `passwords` and `stored` are what its providers have.
use Rattle.std.specs.Prelude.{◌≡◌, ℕ, List, Option, ⊤}
use Rattle.amqp_sasl_bodies.specs.declared.sasl_body.SaslBody.{SaslBody}
use Rattle.amqp_sasl_bodies.specs.declared.sasl_code.SaslCode.{SaslCode}
use Rattle.sasl_exchange.specs.declared.acceptor.SaslAcceptor.{SaslAcceptor}
use Rattle.sasl_exchange.specs.declared.acceptor.SaslAcceptor.TheVariants.{NoSasl, Anonymous, Plain, ScramSha1, ScramSha256, ScramSha512}
use Rattle.sasl_exchange.specs.declared.error.NegotiationError.{NegotiationError}
use Rattle.sasl_exchange.specs.declared.exchange.Exchange.{Ghosts as Mechanism}
use Rattle.sasl_exchange.specs.declared.exchange.Turn.{Turn}
use Rattle.sasl_exchange.specs.declared.exchange.Turn.TheVariants.{Refuse}
use Rattle.sasl_exchange.specs.declared.init_server.InitCheck.TheVariants as check
use Rattle.sasl_exchange.specs.declared.server.ServerExchange.{ServerExchange}
use Rattle.sasl_exchange.specs.declared.server.ServerExchange.TheVariants.{Scram, Init}
use Rattle.sasl_scram.specs.declared.hash.ScramHash.TheVariants.{Sha1, Sha256, Sha512}
use Rattle.sasl_scram.specs.declared.stored.StoredPassword.{StoredPassword}
use Rattle.sasl_exchange.specs.Exchange.{refused_with}
use Rattle.sasl_exchange.specs.InitServer.{init_server_holds, init_server_causes, init_server_owes, init_server_turn, init_server_left, InitServerSame, init_server_refusal, init_server_same_self, init_server_same_then, init_server_begun}
use Rattle.sasl_scram.specs.Profile.{IsNonce}
use Rattle.sasl_exchange.specs.ScramServer.{server_holds, server_causes, server_owes, server_turn, server_left, ServerSame, server_refusal, server_same_self, server_same_then, server_begun}

-- what a provider has of a user's password
abbrev pub Passwords : Type 0 → Type 0
Passwords Q = Q → List ℕ → Option (List ℕ)

-- what a provider has stored for a user
abbrev pub StoredPasswords : Type 0 → Type 0
StoredPasswords P = P → List ℕ → Option StoredPassword

-- the bodies that an end was given and those that it sent
abbrev pub any_server_holds : {Q P : Type 0} → Passwords Q → StoredPasswords P → ServerExchange Q P → List SaslBody → List SaslBody → Type 0
any_server_holds passwords stored (Scram x) given sent = server_holds stored x given sent
any_server_holds passwords stored (Init x) given sent = init_server_holds passwords x given sent

-- why an end fails, by what it was given and what it sent
abbrev pub any_server_causes : {Q P : Type 0} → Passwords Q → StoredPasswords P → ServerExchange Q P → NegotiationError → List SaslBody → List SaslBody → Type 0
any_server_causes passwords stored (Scram x) e given sent = server_causes stored x e given sent
any_server_causes passwords stored (Init x) e given sent = init_server_causes passwords x e given sent

-- the body that an end owes
abbrev pub any_server_owes : {Q P : Type 0} → ServerExchange Q P → SaslBody → Type 0
any_server_owes (Scram x) body = server_owes x body
any_server_owes (Init x) body = init_server_owes x body

abbrev pub any_server_turn : {Q P : Type 0} → ServerExchange Q P → Turn
any_server_turn (Scram x) = server_turn x
any_server_turn (Init x) = init_server_turn x

abbrev pub any_server_left : {Q P : Type 0} → ServerExchange Q P → ℕ
any_server_left (Scram x) = server_left x
any_server_left (Init x) = init_server_left x

-- two ends have the same mechanism and the same users
abbrev pub any_server_same : {Q P : Type 0} → ServerExchange Q P → ServerExchange Q P → Type 0
any_server_same (Scram x) (Scram y) = ServerSame x y
any_server_same (Scram x) (Init y) = ⊥
any_server_same (Init x) (Scram y) = ⊥
any_server_same (Init x) (Init y) = InitServerSame x y

-- the listener's end as a mechanism
abbrev pub any_server_mechanism : {Q P : Type 0} → Passwords Q → StoredPasswords P → Mechanism (ServerExchange Q P)
any_server_mechanism passwords stored = record {
  holds = any_server_holds passwords stored;
  causes = any_server_causes passwords stored;
  owes = any_server_owes;
  turn_of = any_server_turn;
  left = any_server_left;
  same = any_server_same;
}

-- ---- the laws of the mechanism

pub any_server_refusal : {Q P : Type 0} (passwords : Passwords Q) (stored : StoredPasswords P) (x : ServerExchange Q P) (code : SaslCode) (given sent : List SaslBody)
    → any_server_turn x ≡ Refuse code → any_server_holds passwords stored x given sent → any_server_causes passwords stored x (refused_with code) given sent
any_server_refusal passwords stored (Scram x) code given sent h held = server_refusal stored x code given sent h held
any_server_refusal passwords stored (Init x) code given sent h held = init_server_refusal passwords x code given sent h held

pub any_server_same_self : {Q P : Type 0} (x : ServerExchange Q P) → any_server_same x x
any_server_same_self (Scram x) = server_same_self x
any_server_same_self (Init x) = init_server_same_self x

pub any_server_same_then : {Q P : Type 0} (x y z : ServerExchange Q P) → any_server_same x y → any_server_same y z → any_server_same x z
any_server_same_then (Scram x) (Scram y) (Scram z) p q = server_same_then x y z p q
any_server_same_then (Scram x) (Scram y) (Init z) p q = absurd q
any_server_same_then (Scram x) (Init y) z p q = absurd p
any_server_same_then (Init x) (Scram y) z p q = absurd p
any_server_same_then (Init x) (Init y) (Scram z) p q = absurd q
any_server_same_then (Init x) (Init y) (Init z) p q = init_server_same_then x y z p q

-- ---- the ends of an exchange

-- an acceptor has a mechanism, and its nonce, where it has one, has its form (RFC 5802, section 7)
abbrev pub HasMechanism : {Q P : Type 0} → SaslAcceptor Q P → Type 0
HasMechanism NoSasl = ⊥
HasMechanism Anonymous = ⊤
HasMechanism (Plain q) = ⊤
HasMechanism (ScramSha1 p nonce) = IsNonce nonce
HasMechanism (ScramSha256 p nonce) = IsNonce nonce
HasMechanism (ScramSha512 p nonce) = IsNonce nonce

-- an end of the mechanism of an acceptor that has read and written nothing
abbrev pub IsServerBegun : {Q P : Type 0} → SaslAcceptor Q P → ServerExchange Q P → Type 0
IsServerBegun NoSasl x = ⊥
IsServerBegun Anonymous x = x ≡ Init (init_server_begun check.Anonymous)
IsServerBegun (Plain q) x = x ≡ Init (init_server_begun (check.Plain q))
IsServerBegun (ScramSha1 p nonce) x = x ≡ Scram (server_begun Sha1 p nonce)
IsServerBegun (ScramSha256 p nonce) x = x ≡ Scram (server_begun Sha256 p nonce)
IsServerBegun (ScramSha512 p nonce) x = x ≡ Scram (server_begun Sha512 p nonce)
