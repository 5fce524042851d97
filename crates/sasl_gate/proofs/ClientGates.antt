-- The client's gate: what it wrote, and what it passes on.
use Rattle.std.proofs.Common.{◌≡◌, ℕ, List, [], ◌∷◌, ◌++◌, Option, Result, refl, sym, ap, ◌∙◌, subst}
use Rattle.std.proofs.lemmas.List.{append-nil}
use Rattle.std.specs.declared.alloc.AllocError.{AllocError}
use Rattle.sasl_exchange.specs.amqp_sasl_bodies.declared.sasl_body.SaslBody.{SaslBody}
use Rattle.amqp_wire.specs.declared.link.Link.{Ghosts}
use Rattle.amqp_wire.specs.Events.{LinkEvent, read_of, wrote_of}
use Rattle.sasl_scram.specs.declared.error.ScramErrorKind.{ScramErrorKind}
use Rattle.sasl_scram.specs.declared.error.ScramErrorKind.TheVariants.{Memory, TextNotAllowed, Malformed, NonceMismatch, Iterations, Base64, Signature, UserUnknown, ProofMismatch}
use Rattle.sasl_scram.specs.declared.hash.ScramHash.{ScramHash}
use Rattle.sasl_scram.specs.Refusals.{IsTextRefusal}
use Rattle.sasl_exchange.specs.declared.client.ClientExchange.{ClientExchange}
use Rattle.sasl_exchange.specs.declared.client.ClientExchange.TheVariants.{Scram, Init}
use Rattle.sasl_exchange.specs.declared.error.NegotiationError.{NegotiationError}
use Rattle.sasl_exchange.specs.declared.error.NegotiationError.TheVariants.{ScramError}
use Rattle.sasl_exchange.specs.AnyClient.{any_client_same, any_client_mechanism, any_client_begun}
use Rattle.sasl_exchange.specs.Credentials.{Credentials, anonymous, plain, scram}
use Rattle.sasl_exchange.specs.InitClient.{InitClientEnd, own_init, HasPassed as HasInitPassed, InitClientSame, init_client_mechanism}
use Rattle.sasl_exchange.specs.ScramBodies.{response_body}
use Rattle.sasl_exchange.specs.ScramClient.{ClientEnd, client_init, HasPassed, ClientSame, client_mechanism}
use Rattle.sasl_exchange.proofs.InitClients.{init_client_passes}
use Rattle.sasl_exchange.proofs.ScramClients.{client_passes}
use Rattle.sasl_gate.specs.declared.gate.negotiation.GatePoll.{GatePoll}
use Rattle.sasl_gate.specs.ClientGate.{ClientPassed, HasClientPassed, InitClientPassed, IsStartRefusal, HasAnyClientPassed, AnyClientPassed, ClientPolled}
use Rattle.sasl_gate.specs.Frames.{Heard, said}
use Rattle.sasl_gate.specs.Negotiation.{Negotiating, Has, IsPassed, IsPollAnswer, Polled}
use Rattle.sasl_gate.proofs.Gates.{only_sasl, Whole, passed_whole}

-- ---- gates that are not made

-- a refused text, as an error of a gate
pub start_refused : (Allowed : Type 0) (kind : ScramErrorKind) → ((a : AllocError) → kind ≡ Memory a → ⊥) → IsTextRefusal Allowed kind → IsStartRefusal Allowed (ScramError kind)
start_refused Allowed (Memory a) other r = absurd (other a refl)
start_refused Allowed TextNotAllowed other r = (refl, r)
start_refused Allowed Malformed other r = absurd r
start_refused Allowed NonceMismatch other r = absurd r
start_refused Allowed Iterations other r = absurd r
start_refused Allowed Base64 other r = absurd r
start_refused Allowed Signature other r = absurd r
start_refused Allowed UserUnknown other r = absurd r
start_refused Allowed ProofMismatch other r = absurd r

-- ---- with SCRAM

-- the exchange is whole, and its check holds
pub client_passed : (x : ClientEnd) (rest wrote read : List ℕ) → Whole client_mechanism x rest wrote read
    → ClientPassed x.hash x.client.user x.client.password x.client.nonce x.hostname wrote read
client_passed x rest wrote read w =
    let k : HasPassed x w.given w.sent = client_passes x w.given w.sent w.turn w.held in
    record {
      names = k.names;
      server_first = k.server_first;
      client_final = k.client_final;
      server_final = k.server_final;
      told = k.told;
      replied = k.replied;
      more = [];
      rest = rest;
      wrote_is = w.wrote_is ∙ ap said k.sent_is ∙ sym (append-nil (said (client_init x ∷ response_body k.client_final ∷ k.replied)));
      read_is = subst (λ (u : List SaslBody). Heard read u rest) k.given_is w.heard;
      final = k.final;
      listed = k.listed;
      check = k.check;
    }

client_same : (x y : ClientEnd) (events : List LinkEvent) → ClientSame x y → HasClientPassed y events → HasClientPassed x events
client_same x y events s h =
    subst (λ (k : ScramHash). ClientPassed k x.client.user x.client.password x.client.nonce x.hostname (wrote_of events) (read_of events)) (sym s.hash)
    (subst (λ (u : List ℕ). ClientPassed y.hash u x.client.password x.client.nonce x.hostname (wrote_of events) (read_of events)) (sym s.user)
    (subst (λ (u : List ℕ). ClientPassed y.hash y.client.user u x.client.nonce x.hostname (wrote_of events) (read_of events)) (sym s.password)
    (subst (λ (u : List ℕ). ClientPassed y.hash y.client.user y.client.password u x.hostname (wrote_of events) (read_of events)) (sym s.nonce)
    (subst (λ (u : Option (List ℕ)). ClientPassed y.hash y.client.user y.client.password y.client.nonce u (wrote_of events) (read_of events)) (sym s.hostname) h))))

-- ---- with a mechanism whose client says all in its init

-- the exchange is whole
pub init_client_passed : (x : InitClientEnd) (rest wrote read : List ℕ) → Whole init_client_mechanism x rest wrote read
    → InitClientPassed x.mechanism x.response x.hostname wrote read
init_client_passed x rest wrote read w =
    let k : HasInitPassed x w.given w.sent = init_client_passes x w.given w.sent w.turn w.held in
    record {
      names = k.names;
      payload = k.payload;
      more = [];
      rest = rest;
      wrote_is = w.wrote_is ∙ ap said k.sent_is ∙ sym (append-nil (said (own_init x ∷ [])));
      read_is = subst (λ (u : List SaslBody). Heard read u rest) k.given_is w.heard;
      listed = k.listed;
    }

init_client_same : (x y : InitClientEnd) (wrote read : List ℕ) → InitClientSame x y → InitClientPassed y.mechanism y.response y.hostname wrote read
    → InitClientPassed x.mechanism x.response x.hostname wrote read
init_client_same x y wrote read s h =
    subst (λ (u : List ℕ). InitClientPassed u x.response x.hostname wrote read) (sym s.mechanism)
    (subst (λ (u : Option (List ℕ)). InitClientPassed y.mechanism u x.hostname wrote read) (sym s.response)
    (subst (λ (u : Option (List ℕ)). InitClientPassed y.mechanism y.response u wrote read) (sym s.hostname) h))

-- ---- with any of the mechanisms

any_passed : (x : ClientExchange) (rest : List ℕ) (events : List LinkEvent) → Whole any_client_mechanism x rest (wrote_of events) (read_of events) → HasAnyClientPassed x events
any_passed (Scram x) rest events w = client_passed x rest (wrote_of events) (read_of events)
    (record { given = w.given; sent = w.sent; heard = w.heard; wrote_is = w.wrote_is; held = w.held; turn = w.turn })
any_passed (Init x) rest events w = init_client_passed x rest (wrote_of events) (read_of events)
    (record { given = w.given; sent = w.sent; heard = w.heard; wrote_is = w.wrote_is; held = w.held; turn = w.turn })

any_same : (x y : ClientExchange) (events : List LinkEvent) → any_client_same x y → HasAnyClientPassed y events → HasAnyClientPassed x events
any_same (Scram x) (Scram y) events s h = client_same x y events s h
any_same (Scram x) (Init y) events s h = absurd s
any_same (Init x) (Scram y) events s h = absurd s
any_same (Init x) (Init y) events s h = init_client_same x y (wrote_of events) (read_of events) s h

-- a gate that passed: the exchange is whole, and its check holds
pub any_client_passed : {L : Type 0} (n : Negotiating L ClientExchange) (events : List LinkEvent) → Has any_client_mechanism n events → IsPassed any_client_mechanism n
    → HasAnyClientPassed n.exchange events
any_client_passed n events h passed = any_passed n.exchange n.codec.input events (passed_whole any_client_mechanism n events h passed)

-- what a poll says of the whole history
pub client_polled : {L : Type 0} (link : Ghosts L) (old : Negotiating L ClientExchange) (left : ℕ) (result : Result GatePoll NegotiationError) (new : Negotiating L ClientExchange) (left' : ℕ)
    → Polled link any_client_mechanism old left result new left' → ClientPolled link old left result new left'
client_polled link old left result new left' p = record {
  polled = p;
  only_sasl = λ before h. only_sasl any_client_mechanism new (p.events ++ before) (p.goes.grows before h);
  passed = λ e before h. any_same old.exchange new.exchange (p.events ++ before) p.goes.kept
      (any_client_passed new (p.events ++ before) (p.goes.grows before h) (subst (λ (r : Result GatePoll NegotiationError). IsPollAnswer any_client_mechanism p.events new left' r) e p.answer));
}

begun_passed : (c : Credentials) (hostname : Option (List ℕ)) (events : List LinkEvent) → HasAnyClientPassed (any_client_begun c hostname) events
    → AnyClientPassed c hostname (wrote_of events) (read_of events)
begun_passed anonymous hostname events h = h
begun_passed (plain user password) hostname events h = h
begun_passed (scram hash user password nonce) hostname events h = h

-- what an end says that has passed, in words of its credentials
pub passed_for : (c : Credentials) (hostname : Option (List ℕ)) (x : ClientExchange) (events : List LinkEvent) → any_client_same (any_client_begun c hostname) x
    → HasAnyClientPassed x events → AnyClientPassed c hostname (wrote_of events) (read_of events)
passed_for c hostname x events s h = begun_passed c hostname events (any_same (any_client_begun c hostname) x events s h)
