-- Two ends with SCRAM of the same account that read one another's bytes fail only by their links, or for a body of their own.
use Rattle.std.proofs.Common.{ℕ, List}
use Rattle.amqp_sasl_bodies.specs.declared.sasl_body.SaslBody.{SaslBody}
use Rattle.amqp_opening.specs.Authentication.{stored_for}
use Rattle.amqp_wire.specs.Events.{LinkEvent, read_of}
use Rattle.sasl_exchange.specs.declared.client.ClientExchange.TheVariants as client
use Rattle.sasl_exchange.specs.declared.error.NegotiationError.{NegotiationError}
use Rattle.sasl_exchange.specs.declared.server.ServerExchange.TheVariants as server
use Rattle.sasl_exchange.specs.ScramClient.{ClientEnd, client_causes, client_owes, client_turn}
use Rattle.sasl_gate.specs.Negotiation.{IsCaused, IsCauseAfter, IsHeard}
use Rattle.sasl_exchange.specs.ScramServer.{ServerEnd, server_causes, server_owes, server_turn}
use Rattle.sasl_scram.specs.States.{Account}
use Rattle.amqp_pairs.specs.Failures.{IsFollowed, IsOwnCause}
use Rattle.amqp_pairs.specs.Joined.{AreEnds, IsSameAccount}
use Rattle.amqp_pairs.specs.Streams.{IsSaid}
use Rattle.amqp_pairs.proofs.Failing.{fails_on_its_own}
use Rattle.amqp_pairs.proofs.Failures.{client_does_not, listener_does_not}
use Rattle.amqp_pairs.proofs.Frames.{header_taken}
use Rattle.amqp_pairs.proofs.Passing.{client_frame, listener_frame}

module _ (x : ClientEnd) (y : ServerEnd Account) (salt : List ℕ) (count : ℕ) (gc sc gl sl : List SaslBody) (e : NegotiationError) (events : List LinkEvent) where
  module _ (tc al lr tl ac : List ℕ) (ends : AreEnds x y salt count gc sc gl sl) (same : IsSameAccount x y.server.provider) (s : IsSaid (read_of events) tc al sl)
      (follows : IsFollowed (server_turn y) al) (h : IsHeard lr gl) (t : IsSaid lr tl ac sc) where
    pub client_own : (c : IsCaused (client_causes x) (client_owes x) e events) → IsCauseAfter (client_causes x) (client_owes x) (client_turn x) e events gc sc c
        → IsOwnCause (client_causes x) (client_owes x) e events c
    client_own =
        fails_on_its_own (client_causes x) (client_owes x) (client_turn x) e events gc sc gl sl (header_taken (read_of events) tc al sl e s)
        (λ rest. client_frame (client.Scram x) (server.Scram y) gc sc gl sl e events rest tc al lr tl ac ends.client ends.listener s follows h t)
        (client_does_not x y salt count gc sc gl sl e events tc al lr tl ac ends same s h t)

  module _ (cr tc al tl ac : List ℕ) (ends : AreEnds x y salt count gc sc gl sl) (same : IsSameAccount x y.server.provider) (h : IsHeard cr gc) (s : IsSaid cr tc al sl)
      (t : IsSaid (read_of events) tl ac sc) (follows : IsFollowed (client_turn x) ac) where
    pub listener_own : (c : IsCaused (server_causes stored_for y) (server_owes y) e events) → IsCauseAfter (server_causes stored_for y) (server_owes y) (server_turn y) e events gl sl c
        → IsOwnCause (server_causes stored_for y) (server_owes y) e events c
    listener_own =
        fails_on_its_own (server_causes stored_for y) (server_owes y) (server_turn y) e events gl sl gc sc (header_taken (read_of events) tl ac sc e t)
        (λ rest. listener_frame (client.Scram x) (server.Scram y) gc sc gl sl e events cr tc al rest tl ac ends.client ends.listener h s t follows)
        (listener_does_not x y salt count gc sc gl sl e events cr tc al tl ac ends same h s t)
