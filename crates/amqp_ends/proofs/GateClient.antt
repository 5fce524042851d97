-- Why the negotiation of a client fails that faces a listener with a SASL layer.
use Rattle.std.proofs.Common.{◌≡◌, ◌≢◌, ◌⊎◌, inl, inr, ℕ, List, [], Option, Some, refl, sym, ◌∙◌, subst}
use Rattle.amqp_sasl_bodies.specs.declared.sasl_body.SaslBody.{SaslBody}
use Rattle.amqp_wire.specs.Events.{LinkEvent, read_of}
use Rattle.sasl_exchange.specs.declared.client.ClientExchange.{ClientExchange}
use Rattle.sasl_exchange.specs.declared.error.NegotiationError.{NegotiationError}
use Rattle.sasl_exchange.specs.declared.error.NegotiationError.TheVariants.{NotImplemented, FramingError}
use Rattle.sasl_exchange.specs.declared.exchange.Turn.TheVariants.{Pass}
use Rattle.sasl_exchange.specs.declared.profile.SaslProfile.{SaslProfile}
use Rattle.sasl_exchange.specs.declared.server.ServerExchange.TheVariants as server
use Rattle.sasl_exchange.specs.AnyClient.{any_client_causes, any_client_holds, any_client_owes, any_client_turn}
use Rattle.sasl_exchange.specs.AnyServer.{any_server_holds, any_server_turn}
use Rattle.sasl_exchange.specs.Credentials.{credentials_of}
use Rattle.sasl_gate.specs.Frames.{Heard}
use Rattle.sasl_gate.specs.Negotiation.{IsCaused, IsCauseAfter, IsHeard, IsOverlong, at_link, at_header, at_frame, by_body, too_long}
use Rattle.sasl_exchange.specs.ScramServer.{ServerEnd, server_turn}
use Rattle.sasl_scram.specs.States.{Account}
use Rattle.amqp_opening.specs.declared.acceptor.AcceptSasl.{AcceptSasl}
use Rattle.amqp_opening.specs.declared.authentication.Authentication.TheVariants.{Client, Listener}
use Rattle.amqp_opening.specs.declared.authentication.SaslCall.{SaslCall}
use Rattle.amqp_opening.specs.declared.authentication.SaslCall.TheVariants as layer
use Rattle.amqp_opening.specs.Admission.{admission_of}
use Rattle.amqp_opening.specs.Authentication.{account_of_call, mechanism_of_call, IsClientMade, IsListenerMade, passwords_for, peer_mechanism, stored_for}
use Rattle.amqp_opening.specs.Opening.{IsSaslCause, IsSaslCauseAfter, in_negotiation, at_amqp_header}
use Rattle.amqp_pairs.specs.Failures.{FailsBy}
use Rattle.amqp_pairs.specs.Mechanisms.{Listening, client_name, listener_name}
use Rattle.amqp_pairs.specs.Streams.{IsSaid}
use Rattle.amqp_pairs.proofs.Failing.{heard_first}
use Rattle.amqp_pairs.proofs.Frames.{header_taken}
use Rattle.amqp_pairs.proofs.Mechanisms.{client_fails}
use Rattle.amqp_pairs.proofs.Names.{same_or_other}
use Rattle.amqp_pairs.proofs.Passing.{client_frame, client_heard_all}
use Rattle.amqp_ends.specs.Gates.{IsCollision, IsFairNegotiation}
use Rattle.amqp_ends.specs.Joined.{IsCalm}
use Rattle.amqp_ends.proofs.GateEnds.{client_named, ends_of, listener_named}
use Rattle.amqp_ends.proofs.GateSame.{ClientRefusal, told, collided, client_refuses}
use Rattle.amqp_ends.proofs.GateWords.{IsBehind, link_blameless, rest_front}

module _ (p : SaslProfile) (hostname : Option (List ℕ)) (a : AcceptSasl) (x : ClientExchange) (y : Listening)
    (m : IsClientMade (credentials_of p) hostname x) (n : IsListenerMade (admission_of a) y) where
  abbrev near : SaslCall
  near = layer.Client p hostname

  abbrev far : SaslCall
  far = layer.Listener a

  abbrev Fair : NegotiationError → Type 0
  Fair e = IsFairNegotiation (Some near) (Some far) e

  other_name : mechanism_of_call near ≢ mechanism_of_call far → client_name x ≢ listener_name y
  other_name other e = other (sym (client_named (credentials_of p) hostname x m) ∙ e ∙ listener_named (admission_of a) y n)

  -- the client was offered another mechanism
  unlisted : (e : NegotiationError) → mechanism_of_call near ≢ mechanism_of_call far → e ≡ NotImplemented → Fair e
  unlisted e other is = subst Fair (sym is) (inr other)

  module _ (gc sc gl sl : List SaslBody) (held : any_client_holds x gc sc) (held' : any_server_holds passwords_for stored_for y gl sl)
      (events : List LinkEvent) (calm : IsCalm events) (tc al lr tl ac more : List ℕ) (i : IsHeard (read_of events) gc) (s : IsSaid (read_of events) tc al sl)
      (b : IsBehind (any_server_turn y ≡ Pass) al more) (h : IsHeard lr gl) (t : IsSaid lr tl ac sc) (e : NegotiationError) where
    followed : (al ≡ []) ⊎ (any_server_turn y ≡ Pass)
    followed = elim b [ inl none ↦ inl none | inr (q, is) ↦ inr q ]

    overlong : (body : SaslBody) → any_client_owes x body → IsOverlong body → e ≡ FramingError → Fair e
    overlong body o l is =
        let f = heard_first (read_of events) tc al gc sl i s in
        let k = heard_first lr tl ac gl sc h t in
        subst Fair (sym is) (record {
          x = Client x;
          made = m;
          given = gc;
          sent = sc;
          held = held;
          heard = inr (record { y = Listener y; made = n; far_given = gl; far_sent = sl; held = held'; to_near = f.0; reads = sym f.1; to_far = k.0; far_reads = sym k.1 });
          body = body;
          owed = o;
          long = l;
        })

    collision : mechanism_of_call near ≡ mechanism_of_call far → (z : ServerEnd Account) (user password other : List ℕ) → y ≡ server.Scram z → server_turn z ≡ Pass
        → account_of_call near ≡ Some (user, password) → account_of_call far ≡ Some (user, other) → password ≢ other → IsCollision near far
    collision same z user password other is passes u v q =
        let f = heard_first (read_of events) tc al gc sl i s in
        let k = heard_first lr tl ac gl sc h t in
        record {
          same_mechanism = same;
          user = user;
          password = password;
          other = other;
          account = u;
          far_account = v;
          other_password = q;
          y = z;
          made = subst (λ (k : Listening). IsListenerMade (admission_of a) k) is n;
          given = gl;
          sent = sl;
          held = subst (λ (k : Listening). any_server_holds passwords_for stored_for k gl sl) is held';
          joined = record { y = Client x; made = m; far_given = gc; far_sent = sc; held = held; to_near = k.0; reads = sym k.1; to_far = f.0; far_reads = sym f.1 };
          passes = passes;
        }

    refused : mechanism_of_call near ≡ mechanism_of_call far → ClientRefusal (credentials_of p) (admission_of a) y e → Fair e
    refused same (told is other) = subst Fair (sym is) (refl, refl, (same, other))
    refused same (collided z user password other is what passes u v q) = subst Fair (sym what) (inr (refl, collision same z user password other is passes u v q))

    by_mechanism : (mechanism_of_call near ≡ mechanism_of_call far) ⊎ (mechanism_of_call near ≢ mechanism_of_call far)
        → FailsBy (any_client_causes x) (any_client_owes x) (any_client_turn x) e events gc sc → Fair e
    by_mechanism (inl same) f =
        let ends = ends_of hostname gc sc gl sl (credentials_of p) (admission_of a) x y m n same held held' in
        refused same (client_refuses (credentials_of p) (admission_of a) gc sc gl sl e events x y ends tc al lr tl ac s h t f)
    by_mechanism (inr other) f =
        unlisted e other (client_fails x y gc sc gl sl e events tc al lr tl ac (other_name other) held held' s h t f)

    caused : (c : IsCaused (any_client_causes x) (any_client_owes x) e events) → IsCauseAfter (any_client_causes x) (any_client_owes x) (any_client_turn x) e events gc sc c → Fair e
    caused (at_link c) f = absurd (link_blameless e events calm c)
    caused (at_header c) f = absurd (header_taken (read_of events) tc al sl e s c)
    caused (at_frame bodies rest is c) f =
        absurd (client_frame x y gc sc gl sl e events rest tc al lr tl ac held held' s followed h t (subst (λ (u : List SaslBody). Heard (read_of events) u rest) f.0 is) f.1 c)
    caused (by_body bodies known rest is c) f = by_mechanism (same_or_other (mechanism_of_call near) (mechanism_of_call far)) (by_body bodies known rest is c, f, tt)
    caused (too_long body o l is) f = overlong body o l is

    pub client_fair : (c : IsSaslCause peer_mechanism (Client x) e events) → IsSaslCauseAfter peer_mechanism (Client x) e events gc sc c → Fair e
    client_fair (in_negotiation c) f = caused c f
    client_fair (at_amqp_header read known rest is kept turn long other what) f =
        let all = client_heard_all x y gc sc gl sl (read_of events) rest tc al lr tl ac held held' s h t (subst (λ (u : List SaslBody). Heard (read_of events) u rest) f.0 is) turn in
        absurd (other (rest_front (any_server_turn y ≡ Pass) rest tc al more b all.1 long))
