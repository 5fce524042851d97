-- The client's end of a SASL negotiation with any of the mechanisms.
use Rattle.std.specs.Prelude.{◌≡◌, ℕ, List, Option, Some, None}
use Rattle.amqp_sasl_bodies.specs.declared.sasl_body.SaslBody.{SaslBody}
use Rattle.amqp_sasl_bodies.specs.declared.sasl_code.SaslCode.{SaslCode}
use Rattle.sasl_exchange.specs.declared.client.ClientExchange.{ClientExchange}
use Rattle.sasl_exchange.specs.declared.client.ClientExchange.TheVariants.{Scram, Init}
use Rattle.sasl_exchange.specs.declared.error.NegotiationError.{NegotiationError}
use Rattle.sasl_exchange.specs.declared.exchange.Exchange.{Ghosts as Mechanism}
use Rattle.sasl_exchange.specs.declared.exchange.Turn.{Turn}
use Rattle.sasl_exchange.specs.declared.exchange.Turn.TheVariants.{Refuse}
use Rattle.sasl_exchange.specs.ScramClient.{client_holds, client_causes, client_owes, client_turn, client_left, ClientSame, client_refusal, client_same_self, client_same_then, client_begun}
use Rattle.sasl_exchange.specs.Credentials.{Credentials, anonymous, plain, scram}
use Rattle.sasl_exchange.specs.Exchange.{refused_with}
use Rattle.sasl_exchange.specs.InitClient.{init_client_holds, init_client_causes, init_client_owes, init_client_turn, init_client_left, InitClientSame, init_client_refusal, init_client_same_self, init_client_same_then, init_client_begun}
use Rattle.sasl_exchange.specs.InitTexts.{anonymous_name, plain_name, plain_of}

-- the bodies that an end was given and those that it sent
abbrev pub any_client_holds : ClientExchange → List SaslBody → List SaslBody → Type 0
any_client_holds (Scram x) given sent = client_holds x given sent
any_client_holds (Init x) given sent = init_client_holds x given sent

-- why an end fails, by what it was given and what it sent
abbrev pub any_client_causes : ClientExchange → NegotiationError → List SaslBody → List SaslBody → Type 0
any_client_causes (Scram x) e given sent = client_causes x e given sent
any_client_causes (Init x) e given sent = init_client_causes x e given sent

-- the body that an end owes
abbrev pub any_client_owes : ClientExchange → SaslBody → Type 0
any_client_owes (Scram x) body = client_owes x body
any_client_owes (Init x) body = init_client_owes x body

abbrev pub any_client_turn : ClientExchange → Turn
any_client_turn (Scram x) = client_turn x
any_client_turn (Init x) = init_client_turn x

abbrev pub any_client_left : ClientExchange → ℕ
any_client_left (Scram x) = client_left x
any_client_left (Init x) = init_client_left x

-- two ends were made for the same
abbrev pub any_client_same : ClientExchange → ClientExchange → Type 0
any_client_same (Scram x) (Scram y) = ClientSame x y
any_client_same (Scram x) (Init y) = ⊥
any_client_same (Init x) (Scram y) = ⊥
any_client_same (Init x) (Init y) = InitClientSame x y

-- the client's end as a mechanism
abbrev pub any_client_mechanism : Mechanism ClientExchange
any_client_mechanism = record {
  holds = any_client_holds;
  causes = any_client_causes;
  owes = any_client_owes;
  turn_of = any_client_turn;
  left = any_client_left;
  same = any_client_same;
}

-- ---- the laws of the mechanism

pub any_client_refusal : (x : ClientExchange) (code : SaslCode) (given sent : List SaslBody) → any_client_turn x ≡ Refuse code
    → any_client_holds x given sent → any_client_causes x (refused_with code) given sent
any_client_refusal (Scram x) code given sent h held = client_refusal x code given sent h held
any_client_refusal (Init x) code given sent h held = init_client_refusal x code given sent h held

pub any_client_same_self : (x : ClientExchange) → any_client_same x x
any_client_same_self (Scram x) = client_same_self x
any_client_same_self (Init x) = init_client_same_self x

pub any_client_same_then : (x y z : ClientExchange) → any_client_same x y → any_client_same y z → any_client_same x z
any_client_same_then (Scram x) (Scram y) (Scram z) p q = client_same_then x y z p q
any_client_same_then (Scram x) (Scram y) (Init z) p q = absurd q
any_client_same_then (Scram x) (Init y) z p q = absurd p
any_client_same_then (Init x) (Scram y) z p q = absurd p
any_client_same_then (Init x) (Init y) (Scram z) p q = absurd q
any_client_same_then (Init x) (Init y) (Init z) p q = init_client_same_then x y z p q

-- ---- the ends of an exchange

-- an end that has read and written nothing
abbrev pub any_client_begun : Credentials → Option (List ℕ) → ClientExchange
any_client_begun anonymous hostname = Init (init_client_begun anonymous_name None hostname)
any_client_begun (plain user password) hostname = Init (init_client_begun plain_name (Some (plain_of user password)) hostname)
any_client_begun (scram hash user password nonce) hostname = Scram (client_begun hash user password nonce hostname)
