-- An end writes at most three frames of a SASL layer.
use Rattle.std.proofs.Common.{◌≡◌, ◌≤◌, inl, inr, ℕ, List, [], ◌++◌, length, Option, Some, None, refl, ap, arith}
use Rattle.std.proofs.lemmas.List.Elements.{All-nil}
use Rattle.amqp_sasl_bodies.specs.declared.sasl_body.SaslBody.{SaslBody}
use Rattle.amqp_opening.specs.declared.authentication.Authentication.{Authentication}
use Rattle.amqp_opening.specs.declared.authentication.Authentication.TheVariants.{Idle, Client, Listener}
use Rattle.amqp_opening.specs.declared.authentication.SaslCall.{SaslCall}
use Rattle.amqp_opening.specs.Authentication.{passwords_for, stored_for, holds_by}
use Rattle.sasl_gate.specs.Frames.{HasSaslFrame, sasl_header}
use Rattle.sasl_exchange.proofs.AnyClients.{any_client_few}
use Rattle.sasl_exchange.proofs.AnyServers.{any_server_few}
use Rattle.amqp_peer.specs.History.{Local, made_in, wrote_in}
use Rattle.amqp_peer.specs.Layers.{layer_in, HasExchange, HasLayer}
use Rattle.amqp_ends.specs.Quiet.{HasFewFrames, IsFewOf, IsFew}

-- a mechanism sends three bodies at most: a client with SCRAM its init, a response, and where it read the end of the exchange as a challenge
-- an empty response (part 5, section 5.3.3)
sends_few : (x : Authentication) (given sent : List SaslBody) → holds_by x given sent → length sent ≤ 3
sends_few Idle given sent h = absurd h
sends_few (Client x) given sent h = any_client_few x given sent h
sends_few (Listener y) given sent h = any_server_few passwords_for stored_for y given sent h

few_exchanged : (c : SaslCall) (h : List Local) → HasExchange c h → HasFewFrames h
few_exchanged c h k = record {
  bodies = k.sent;
  few = sends_few k.x k.given k.sent k.held;
  framed = k.framed;
  out = k.out;
  after = k.after;
  wrote = k.wrote;
  behind = elim k.behind [ inl e ↦ inl e | inr e ↦ inr e.1 ];
}

-- nothing was written
few_unwritten : (h : List Local) → wrote_in h ≡ [] → HasFewFrames h
few_unwritten h e = record {
  bodies = [];
  few = omega arith;
  framed = All-nil HasSaslFrame;
  out = sasl_header;
  after = [];
  wrote = ap (λ (u : List ℕ). u ++ sasl_header) e;
  behind = inl refl;
}

few_of : (c : Option SaslCall) (h : List Local) → HasLayer c h → IsFewOf c h
few_of None h k = tt
few_of (Some c) h (inl k) = few_exchanged c h k
few_of (Some c) h (inr k) = few_unwritten h k.1

pub few_frames : (h : List Local) → HasLayer (layer_in (made_in h)) h → IsFew h
few_frames h k = few_of (layer_in (made_in h)) h k
