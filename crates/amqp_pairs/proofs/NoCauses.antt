-- An end that was given nothing has no cause to refuse, and why a listener fails.
use Rattle.std.proofs.Common.{◌≡◌, ◌≢◌, ℕ, List, [], ◌∷◌, ◌++◌, Option, Some, None, refl, sym, ◌∙◌}
use Rattle.amqp_sasl_bodies.specs.declared.sasl_body.SaslBody.{SaslBody}
use Rattle.amqp_sasl_bodies.specs.declared.sasl_code.SaslCode.{SaslCode}
use Rattle.amqp_sasl_bodies.specs.declared.sasl_code.SaslCode.TheVariants as sasl
use Rattle.amqp_opening.specs.Authentication.{passwords_for, stored_for}
use Rattle.sasl_exchange.specs.declared.client.ClientExchange.{ClientExchange}
use Rattle.sasl_exchange.specs.declared.client.ClientExchange.TheVariants as client
use Rattle.sasl_exchange.specs.declared.error.NegotiationError.{NegotiationError}
use Rattle.sasl_exchange.specs.declared.error.NegotiationError.TheVariants.{Memory, ProtocolHeaderMismatch, NotImplemented, SaslError, ScramError, Io, DecodeError, IllegalState, FramingError}
use Rattle.sasl_exchange.specs.declared.server.ServerExchange.TheVariants as server
use Rattle.sasl_scram.specs.declared.error.ScramErrorKind.{ScramErrorKind}
use Rattle.sasl_scram.specs.declared.hash.ScramHash.{ScramHash}
use Rattle.sasl_scram.specs.declared.stored.StoredPassword.{StoredPassword}
use Rattle.sasl_exchange.specs.AnyClient.{any_client_causes}
use Rattle.sasl_exchange.specs.AnyServer.{any_server_causes}
use Rattle.sasl_exchange.specs.ScramClient.{ClientEnd, IsScramCause, by_challenge, by_final, by_no_signature, client_causes}
use Rattle.sasl_exchange.specs.Exchange.{refused_with}
use Rattle.sasl_exchange.specs.InitClient.{InitClientEnd, init_client_causes}
use Rattle.sasl_exchange.specs.InitServer.{InitServerEnd, init_server_causes}
use Rattle.sasl_exchange.specs.ScramBodies.{challenge_body, mechanisms_body, outcome_body}
use Rattle.sasl_exchange.specs.ScramServer.{ServerEnd, IsRefusalCause, by_client_first, by_client_final, by_mechanism, by_no_response, by_order, by_other_body, server_causes}
use Rattle.sasl_scram.specs.States.{Account}
use Rattle.amqp_pairs.specs.Mechanisms.{HasRefusalCause, Listening}
use Rattle.amqp_pairs.proofs.Bodies.{in_none}

-- ---- a client that was given nothing

nothing_is : (given front : List SaslBody) (body : SaslBody) → given ≡ [] → given ≡ front ++ body ∷ [] → ⊥
nothing_is given front body none is = in_none front [] body (sym is ∙ none)

scram_not_yet : (x : ClientEnd) (kind : ScramErrorKind) (given sent : List SaslBody) → given ≡ [] → IsScramCause x kind given sent → ⊥
scram_not_yet x kind given sent none (by_challenge names text is m r) = nothing_is given (mechanisms_body names ∷ []) (challenge_body text) none is
scram_not_yet x kind given sent none (by_final names first final signature text body how is s a r) =
    nothing_is given (mechanisms_body names ∷ challenge_body first ∷ []) body none is
scram_not_yet x kind given sent none (by_no_signature names first is k) = nothing_is given (mechanisms_body names ∷ challenge_body first ∷ []) (outcome_body sasl.Ok None) none is

pub no_cause_yet : (x : ClientEnd) (e : NegotiationError) (given sent : List SaslBody) → given ≡ [] → client_causes x e given sent → ⊥
no_cause_yet x (Memory a) given sent none c = c
no_cause_yet x (ProtocolHeaderMismatch h) given sent none c = c
no_cause_yet x NotImplemented given sent none (names, is, not) = nothing_is given [] (mechanisms_body names) none is
no_cause_yet x (SaslError code payload) given sent none (before, is, ne) = nothing_is given before (outcome_body code payload) none is
no_cause_yet x (ScramError kind) given sent none c = scram_not_yet x kind given sent none c
no_cause_yet x (Io kind) given sent none c = c
no_cause_yet x DecodeError given sent none c = c
no_cause_yet x IllegalState given sent none d = nothing_is given d.before d.body none d.given_is
no_cause_yet x FramingError given sent none c = c

init_no_cause_yet : (x : InitClientEnd) (e : NegotiationError) (given sent : List SaslBody) → given ≡ [] → init_client_causes x e given sent → ⊥
init_no_cause_yet x (Memory a) given sent none c = c
init_no_cause_yet x (ProtocolHeaderMismatch h) given sent none c = c
init_no_cause_yet x NotImplemented given sent none (names, is, not) = nothing_is given [] (mechanisms_body names) none is
init_no_cause_yet x (SaslError code payload) given sent none (before, is, ne) = nothing_is given before (outcome_body code payload) none is
init_no_cause_yet x (ScramError kind) given sent none c = c
init_no_cause_yet x (Io kind) given sent none c = c
init_no_cause_yet x DecodeError given sent none c = c
init_no_cause_yet x IllegalState given sent none d = nothing_is given d.before d.body none d.given_is
init_no_cause_yet x FramingError given sent none c = c

pub any_no_cause_yet : (x : ClientExchange) (e : NegotiationError) (given sent : List SaslBody) → given ≡ [] → any_client_causes x e given sent → ⊥
any_no_cause_yet (client.Scram x) e given sent none c = no_cause_yet x e given sent none c
any_no_cause_yet (client.Init x) e given sent none c = init_no_cause_yet x e given sent none c

-- ---- a listener that was given nothing

pub no_refusal_yet : (hash : ScramHash) (stored : List ℕ → Option StoredPassword) (own : List ℕ) (code : SaslCode) (given : List SaslBody) → given ≡ [] → IsRefusalCause hash stored own code given → ⊥
no_refusal_yet hash stored own code given none (by_client_first text hostname kind g m r c) = in_none [] [] _ (sym g ∙ none)
no_refusal_yet hash stored own code given none (by_client_final cf user whole first text hostname keys answers kind g m r c) = in_none [] _ _ (sym g ∙ none)
no_refusal_yet hash stored own code given none (by_mechanism name response hostname g ne c) = in_none [] [] _ (sym g ∙ none)
no_refusal_yet hash stored own code given none (by_no_response name hostname g c) = in_none [] [] _ (sym g ∙ none)
no_refusal_yet hash stored own code given none (by_order before body g is not c) = in_none before [] body (sym g ∙ none)
no_refusal_yet hash stored own code given none (by_other_body before body g not c) = in_none before [] body (sym g ∙ none)

pub none_to_refuse : (y : Listening) (code : SaslCode) (given : List SaslBody) → given ≡ [] → HasRefusalCause y code given → ⊥
none_to_refuse (server.Scram y) code given none c = no_refusal_yet y.hash (stored_for y.server.provider) y.server.nonce code given none c
none_to_refuse (server.Init y) code given none (ne, body, g, judged) = in_none [] [] body (sym g ∙ none)

-- ---- a listener with SCRAM has no cause for the code `Ok`

pub refusal_not_ok : (hash : ScramHash) (stored : List ℕ → Option StoredPassword) (own : List ℕ) (code : SaslCode) (given : List SaslBody) → IsRefusalCause hash stored own code given → code ≢ sasl.Ok
refusal_not_ok hash stored own code given (by_client_first text hostname kind g m r c) e = let both : sasl.Auth ≡ sasl.Ok = sym c ∙ e in cc
refusal_not_ok hash stored own code given (by_client_final cf user whole first text hostname keys answers kind g m r c) e = let both : sasl.Auth ≡ sasl.Ok = sym c ∙ e in cc
refusal_not_ok hash stored own code given (by_mechanism name response hostname g ne c) e = let both : sasl.Auth ≡ sasl.Ok = sym c ∙ e in cc
refusal_not_ok hash stored own code given (by_no_response name hostname g c) e = let both : sasl.Auth ≡ sasl.Ok = sym c ∙ e in cc
refusal_not_ok hash stored own code given (by_order before body g is not c) e = let both : sasl.Auth ≡ sasl.Ok = sym c ∙ e in cc
refusal_not_ok hash stored own code given (by_other_body before body g not c) e = let both : sasl.Sys ≡ sasl.Ok = sym c ∙ e in cc

-- ---- a listener fails with the code of an outcome, which it had a cause to tell

abbrev pub IsRefused : Listening → NegotiationError → List SaslBody → Type 0
IsRefused y e given = (code : SaslCode) × (e ≡ refused_with code) × HasRefusalCause y code given

scram_refused : (y : ServerEnd Account) (e : NegotiationError) (given sent : List SaslBody) → server_causes stored_for y e given sent → IsRefused (server.Scram y) e given
scram_refused y (Memory a) given sent c = absurd c
scram_refused y (ProtocolHeaderMismatch h) given sent c = absurd c
scram_refused y NotImplemented given sent c = absurd c
scram_refused y (SaslError code None) given sent c = (code, refl, c.cause)
scram_refused y (SaslError code (Some payload)) given sent c = absurd c
scram_refused y (ScramError kind) given sent c = absurd c
scram_refused y (Io kind) given sent c = absurd c
scram_refused y DecodeError given sent c = absurd c
scram_refused y IllegalState given sent c = absurd c
scram_refused y FramingError given sent c = absurd c

init_refused : (y : InitServerEnd Account) (e : NegotiationError) (given sent : List SaslBody) → init_server_causes passwords_for y e given sent → IsRefused (server.Init y) e given
init_refused y (Memory a) given sent c = absurd c
init_refused y (ProtocolHeaderMismatch h) given sent c = absurd c
init_refused y NotImplemented given sent c = absurd c
init_refused y (SaslError code None) given sent (ne, h) = (code, refl, (ne, h.body, h.given_is, h.judged))
init_refused y (SaslError code (Some payload)) given sent c = absurd c
init_refused y (ScramError kind) given sent c = absurd c
init_refused y (Io kind) given sent c = absurd c
init_refused y DecodeError given sent c = absurd c
init_refused y IllegalState given sent c = absurd c
init_refused y FramingError given sent c = absurd c

pub any_refused : (y : Listening) (e : NegotiationError) (given sent : List SaslBody) → any_server_causes passwords_for stored_for y e given sent → IsRefused y e given
any_refused (server.Scram y) e given sent c = scram_refused y e given sent c
any_refused (server.Init y) e given sent c = init_refused y e given sent c
