-- The exchanges that calls begin.
use Rattle.std.proofs.Common.{◌≡◌, ℕ, List, [], Option, Some, refl, sym, ◌∙◌}
use Rattle.sasl_gate.specs.sasl_exchange.declared.client.ClientExchange.{ClientExchange}
use Rattle.sasl_gate.specs.sasl_exchange.declared.client.ClientExchange.TheVariants as client
use Rattle.sasl_gate.specs.sasl_exchange.declared.error.NegotiationError.{NegotiationError}
use Rattle.sasl_gate.specs.sasl_exchange.declared.server.ServerExchange.{ServerExchange}
use Rattle.sasl_gate.specs.sasl_exchange.declared.server.ServerExchange.TheVariants as server
use Rattle.sasl_scram.specs.declared.error.ScramErrorKind.{ScramErrorKind}
use Rattle.sasl_scram.specs.declared.error.ScramErrorKind.TheVariants as scram
use Rattle.sasl_gate.specs.sasl_exchange.AnyClient.{any_client_begun, any_client_holds, any_client_same}
use Rattle.sasl_gate.specs.sasl_exchange.AnyServer.{any_server_same}
use Rattle.sasl_gate.specs.sasl_exchange.Credentials.{Credentials, IsAllowedTexts, HasNonce}
use Rattle.sasl_gate.specs.sasl_exchange.Credentials as own
use Rattle.sasl_scram.specs.Refusals.{IsTextRefusal}
use Rattle.sasl_scram.specs.States.{Account}
use Rattle.amqp_opening.specs.Admission.{Admission}
use Rattle.amqp_opening.specs.Admission as admitted
use Rattle.amqp_opening.specs.Authentication.{account_in, IsAllowedAccount, IsClientMade, IsListenerMade, IsAccountRefusal, IsErrorOf}

-- ---- a client's

-- user and password are in the profile
texts_account : (c : Credentials) → IsAllowedTexts c → IsAllowedAccount (account_in c)
texts_account own.anonymous t = tt
texts_account (own.plain user password) t = t
texts_account (own.scram hash user password nonce) t = t

account_texts : (c : Credentials) → IsAllowedAccount (account_in c) → IsAllowedTexts c
account_texts own.anonymous t = tt
account_texts (own.plain user password) t = t
account_texts (own.scram hash user password nonce) t = t

-- an end that has begun is that of its call
pub client_made : (c : Credentials) (hostname : Option (List ℕ)) → HasNonce c → IsAllowedTexts c → IsClientMade c hostname (any_client_begun c hostname)
client_made own.anonymous hostname n t = record { mechanism_is = refl; response_is = refl; hostname_is = refl; asked = tt }
client_made (own.plain user password) hostname n t = record { mechanism_is = refl; response_is = refl; hostname_is = refl; asked = t }
client_made (own.scram hash user password nonce) hostname n t = record { hash_is = refl; user_is = refl; password_is = refl; nonce_is = refl; hostname_is = refl; asked = (t.0, t.1, n) }

-- it has read and written nothing
pub client_begins : (c : Credentials) (hostname : Option (List ℕ)) → any_client_holds (any_client_begun c hostname) [] []
client_begins own.anonymous hostname = (refl, refl)
client_begins (own.plain user password) hostname = (refl, refl)
client_begins (own.scram hash user password nonce) hostname = (refl, refl)

-- a text that is refused
refused : (account : Option (List ℕ × List ℕ)) (kind : ScramErrorKind) (e : NegotiationError) → IsTextRefusal (IsAllowedAccount account) kind → IsErrorOf kind e → IsAccountRefusal account e
refused account (scram.Memory a) e h is = rw is tt
refused account scram.TextNotAllowed e h is = rw is (refl, h)
refused account scram.Malformed e h is = absurd h
refused account scram.NonceMismatch e h is = absurd h
refused account scram.Iterations e h is = absurd h
refused account scram.Base64 e h is = absurd h
refused account scram.Signature e h is = absurd h
refused account scram.UserUnknown e h is = absurd h
refused account scram.ProofMismatch e h is = absurd h

texts_refusal : (c : Credentials) (kind : ScramErrorKind) → IsTextRefusal (IsAllowedTexts c) kind → IsTextRefusal (IsAllowedAccount (account_in c)) kind
texts_refusal c (scram.Memory a) h = texts_account c h
texts_refusal c scram.TextNotAllowed h = λ t. h (account_texts c t)
texts_refusal c scram.Malformed h = absurd h
texts_refusal c scram.NonceMismatch h = absurd h
texts_refusal c scram.Iterations h = absurd h
texts_refusal c scram.Base64 h = absurd h
texts_refusal c scram.Signature h = absurd h
texts_refusal c scram.UserUnknown h = absurd h
texts_refusal c scram.ProofMismatch h = absurd h

pub client_refused : (c : Credentials) (kind : ScramErrorKind) (e : NegotiationError) → IsTextRefusal (IsAllowedTexts c) kind → IsErrorOf kind e → IsAccountRefusal (account_in c) e
client_refused c kind e h is = refused (account_in c) kind e (texts_refusal c kind h) is

-- ---- the exchange stays that of the call

pub same_client : (c : Credentials) (hostname : Option (List ℕ)) (x y : ClientExchange) → any_client_same x y → IsClientMade c hostname x → IsClientMade c hostname y
same_client own.anonymous hostname (client.Scram x) y s m = absurd m
same_client own.anonymous hostname (client.Init x) (client.Scram y) s m = absurd s
same_client own.anonymous hostname (client.Init x) (client.Init y) s m =
    record { mechanism_is = sym s.mechanism ∙ m.mechanism_is; response_is = sym s.response ∙ m.response_is; hostname_is = sym s.hostname ∙ m.hostname_is; asked = m.asked }
same_client (own.plain user password) hostname (client.Scram x) y s m = absurd m
same_client (own.plain user password) hostname (client.Init x) (client.Scram y) s m = absurd s
same_client (own.plain user password) hostname (client.Init x) (client.Init y) s m =
    record { mechanism_is = sym s.mechanism ∙ m.mechanism_is; response_is = sym s.response ∙ m.response_is; hostname_is = sym s.hostname ∙ m.hostname_is; asked = m.asked }
same_client (own.scram hash user password nonce) hostname (client.Scram x) (client.Scram y) s m =
    record { hash_is = sym s.hash ∙ m.hash_is; user_is = sym s.user ∙ m.user_is; password_is = sym s.password ∙ m.password_is; nonce_is = sym s.nonce ∙ m.nonce_is; hostname_is = sym s.hostname ∙ m.hostname_is; asked = m.asked }
same_client (own.scram hash user password nonce) hostname (client.Scram x) (client.Init y) s m = absurd s
same_client (own.scram hash user password nonce) hostname (client.Init x) y s m = absurd m

pub same_listener : (d : Admission) (x y : ServerExchange Account Account) → any_server_same x y → IsListenerMade d x → IsListenerMade d y
same_listener admitted.anonymous (server.Scram x) y s m = absurd m
same_listener admitted.anonymous (server.Init x) (server.Scram y) s m = absurd s
same_listener admitted.anonymous (server.Init x) (server.Init y) s m = record { check_is = sym s.check ∙ m.check_is; asked = m.asked }
same_listener (admitted.plain user password) (server.Scram x) y s m = absurd m
same_listener (admitted.plain user password) (server.Init x) (server.Scram y) s m = absurd s
same_listener (admitted.plain user password) (server.Init x) (server.Init y) s m = record { check_is = sym s.check ∙ m.check_is; asked = m.asked }
same_listener (admitted.scram hash user password salt iterations nonce) (server.Scram x) (server.Scram y) s m =
    record { hash_is = sym s.hash ∙ m.hash_is; account = sym s.provider ∙ m.account; nonce_is = sym s.nonce ∙ m.nonce_is; asked = m.asked }
same_listener (admitted.scram hash user password salt iterations nonce) (server.Scram x) (server.Init y) s m = absurd s
same_listener (admitted.scram hash user password salt iterations nonce) (server.Init x) y s m = absurd m
