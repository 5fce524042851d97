-- The client's end with any of the mechanisms.
use Rattle.std.proofs.Common.{◌≡◌, ◌≤◌, arith, List, [], length, sym, subst}
use Rattle.amqp_sasl_bodies.specs.declared.sasl_body.SaslBody.{SaslBody}
use Rattle.sasl_exchange.specs.declared.client.ClientExchange.{ClientExchange}
use Rattle.sasl_exchange.specs.declared.client.ClientExchange.TheVariants.{Scram, Init}
use Rattle.sasl_scram.specs.declared.error.ScramErrorKind.{ScramErrorKind}
use Rattle.sasl_scram.specs.declared.error.ScramErrorKind.TheVariants.{TextNotAllowed}
use Rattle.sasl_exchange.specs.AnyClient.{any_client_holds}
use Rattle.sasl_scram.specs.Refusals.{IsTextRefusal}
use Rattle.sasl_exchange.proofs.ScramClients.{client_few}
use Rattle.sasl_exchange.proofs.InitClients.{init_client_few}

-- ---- ends that are not made

-- SCRAM's refusal of a text, as one of all mechanisms
pub text_refused : (Allowed : Type 0) (kind : ScramErrorKind) → (kind ≡ TextNotAllowed) × (¬ Allowed) → IsTextRefusal Allowed kind
text_refused Allowed kind r = subst (λ (k : ScramErrorKind). IsTextRefusal Allowed k) (sym r.0) r.1

-- ---- how many bodies a client sends

-- three at most
pub any_client_few : (x : ClientExchange) (given sent : List SaslBody) → any_client_holds x given sent → length sent ≤ 3
any_client_few (Scram x) given sent h = client_few x given sent h
any_client_few (Init x) given sent h = let few = init_client_few x given sent h in omega (arith, few)
