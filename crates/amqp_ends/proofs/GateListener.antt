-- Why the negotiation of a listener fails that faces a client with a SASL layer.
use Rattle.std.proofs.Common.{◌≡◌, ◌≢◌, ◌⊎◌, inl, inr, ℕ, List, [], Option, Some, refl, sym, ◌∙◌, subst}
use Rattle.amqp_sasl_bodies.specs.declared.sasl_body.SaslBody.{SaslBody}
use Rattle.amqp_wire.specs.Events.{LinkEvent, read_of}
use Rattle.sasl_exchange.specs.declared.client.ClientExchange.{ClientExchange}
use Rattle.sasl_exchange.specs.declared.error.NegotiationError.{NegotiationError}
use Rattle.sasl_exchange.specs.declared.error.NegotiationError.TheVariants.{FramingError}
use Rattle.sasl_exchange.specs.declared.exchange.Turn.TheVariants.{Pass}
use Rattle.sasl_exchange.specs.declared.profile.SaslProfile.{SaslProfile}
use Rattle.sasl_exchange.specs.AnyClient.{any_client_holds, any_client_turn}
use Rattle.sasl_exchange.specs.AnyServer.{any_server_causes, any_server_holds, any_server_owes, any_server_turn}
use Rattle.sasl_exchange.specs.Credentials.{credentials_of}
use Rattle.sasl_gate.specs.Frames.{Heard}
use Rattle.sasl_gate.specs.Negotiation.{IsCaused, IsCauseAfter, IsHeard, IsOverlong, at_link, at_header, at_frame, by_body, too_long}
use Rattle.amqp_opening.specs.declared.acceptor.AcceptSasl.{AcceptSasl}
use Rattle.amqp_opening.specs.declared.authentication.Authentication.TheVariants.{Client, Listener}
use Rattle.amqp_opening.specs.declared.authentication.SaslCall.{SaslCall}
use Rattle.amqp_opening.specs.declared.authentication.SaslCall.TheVariants as layer
use Rattle.amqp_opening.specs.Admission.{admission_of}
use Rattle.amqp_opening.specs.Authentication.{mechanism_of_call, IsClientMade, IsListenerMade, passwords_for, peer_mechanism, stored_for}
use Rattle.amqp_opening.specs.Opening.{IsSaslCause, IsSaslCauseAfter, in_negotiation, at_amqp_header}
use Rattle.amqp_pairs.specs.Failures.{FailsBy}
use Rattle.amqp_pairs.specs.Mechanisms.{Listening, client_name, listener_name}
use Rattle.amqp_pairs.specs.Streams.{IsSaid}
use Rattle.amqp_pairs.proofs.Failing.{heard_first}
use Rattle.amqp_pairs.proofs.Frames.{header_taken}
use Rattle.amqp_pairs.proofs.Mechanisms.{listener_does_not}
use Rattle.amqp_pairs.proofs.Names.{same_or_other}
use Rattle.amqp_pairs.proofs.Passing.{listener_frame, listener_heard_all}
use Rattle.amqp_ends.specs.Gates.{IsFairNegotiation}
use Rattle.amqp_ends.specs.Joined.{IsCalm}
use Rattle.amqp_ends.proofs.GateEnds.{client_named, ends_of, listener_named}
use Rattle.amqp_ends.proofs.GateSame.{ListenerRefusal, listener_refuses}
use Rattle.amqp_ends.proofs.GateWords.{IsBehind, link_blameless, rest_front}

module _ (p : SaslProfile) (hostname : Option (List ℕ)) (a : AcceptSasl) (x : ClientExchange) (y : Listening)
    (m : IsClientMade (credentials_of p) hostname x) (n : IsListenerMade (admission_of a) y) where
  abbrev near : SaslCall
  near = layer.Listener a

  abbrev far : SaslCall
  far = layer.Client p hostname

  abbrev Fair : NegotiationError → Type 0
  Fair e = IsFairNegotiation (Some near) (Some far) e

  other_name : mechanism_of_call far ≢ mechanism_of_call near → client_name x ≢ listener_name y
  other_name other e = other (sym (client_named (credentials_of p) hostname x m) ∙ e ∙ listener_named (admission_of a) y n)

  module _ (gc sc gl sl : List SaslBody) (held : any_client_holds x gc sc) (held' : any_server_holds passwords_for stored_for y gl sl)
      (events : List LinkEvent) (calm : IsCalm events) (cr tc al tl ac more : List ℕ) (i : IsHeard (read_of events) gl) (h : IsHeard cr gc) (s : IsSaid cr tc al sl)
      (t : IsSaid (read_of events) tl ac sc) (b : IsBehind (any_client_turn x ≡ Pass) ac more) (e : NegotiationError) where
    followed : (ac ≡ []) ⊎ (any_client_turn x ≡ Pass)
    followed = elim b [ inl none ↦ inl none | inr (q, is) ↦ inr q ]

    overlong : (body : SaslBody) → any_server_owes y body → IsOverlong body → e ≡ FramingError → Fair e
    overlong body o l is =
        let f = heard_first (read_of events) tl ac gl sc i t in
        let k = heard_first cr tc al gc sl h s in
        subst Fair (sym is) (record {
          x = Listener y;
          made = n;
          given = gl;
          sent = sl;
          held = held';
          heard = inr (record { y = Client x; made = m; far_given = gc; far_sent = sc; held = held; to_near = f.0; reads = sym f.1; to_far = k.0; far_reads = sym k.1 });
          body = body;
          owed = o;
          long = l;
        })

    refused : mechanism_of_call far ≡ mechanism_of_call near → ListenerRefusal (credentials_of p) (admission_of a) e → Fair e
    refused same r = subst Fair (sym r.0) (refl, refl, (sym same, λ z. r.1 (sym z)))

    -- a client of another mechanism sends nothing
    by_mechanism : (mechanism_of_call far ≡ mechanism_of_call near) ⊎ (mechanism_of_call far ≢ mechanism_of_call near)
        → FailsBy (any_server_causes passwords_for stored_for y) (any_server_owes y) (any_server_turn y) e events gl sl → Fair e
    by_mechanism (inl same) f =
        let ends = ends_of hostname gc sc gl sl (credentials_of p) (admission_of a) x y m n same held held' in
        refused same (listener_refuses (credentials_of p) (admission_of a) gc sc gl sl e events x y ends cr tc al tl ac h s t f)
    by_mechanism (inr other) f =
        absurd (listener_does_not x y gc sc gl sl e events cr tc al tl ac (other_name other) held held' h s t f)

    caused : (c : IsCaused (any_server_causes passwords_for stored_for y) (any_server_owes y) e events)
        → IsCauseAfter (any_server_causes passwords_for stored_for y) (any_server_owes y) (any_server_turn y) e events gl sl c → Fair e
    caused (at_link c) f = absurd (link_blameless e events calm c)
    caused (at_header c) f = absurd (header_taken (read_of events) tl ac sc e t c)
    caused (at_frame bodies rest is c) f =
        absurd (listener_frame x y gc sc gl sl e events cr tc al rest tl ac held held' h s t followed (subst (λ (u : List SaslBody). Heard (read_of events) u rest) f.0 is) f.1 c)
    caused (by_body bodies known rest is c) f = by_mechanism (same_or_other (mechanism_of_call far) (mechanism_of_call near)) (by_body bodies known rest is c, f, tt)
    caused (too_long body o l is) f = overlong body o l is

    pub listener_fair : (c : IsSaslCause peer_mechanism (Listener y) e events) → IsSaslCauseAfter peer_mechanism (Listener y) e events gl sl c → Fair e
    listener_fair (in_negotiation c) f = caused c f
    listener_fair (at_amqp_header read known rest is kept turn long other what) f =
        let all = listener_heard_all x y gc sc gl sl cr tc al (read_of events) rest tl ac held held' h s t (subst (λ (u : List SaslBody). Heard (read_of events) u rest) f.0 is) turn in
        absurd (other (rest_front (any_client_turn x ≡ Pass) rest tl ac more b all.1 long))
