-- Two ends of any mechanisms that read one another's bytes: an end that passes heard all that the other said, and no frame is refused behind that.
use Rattle.std.proofs.Common.{◌≡◌, inl, inr, ℕ, List, [], ◌∷◌, ◌++◌, refl, ap, sym, ◌∙◌, append-nil, flat_map}
use Rattle.amqp_sasl_bodies.specs.declared.sasl_body.SaslBody.{SaslBody}
use Rattle.amqp_opening.specs.Authentication.{passwords_for, stored_for}
use Rattle.amqp_wire.specs.Events.{LinkEvent, read_of}
use Rattle.sasl_exchange.specs.declared.client.ClientExchange.{ClientExchange}
use Rattle.sasl_exchange.specs.declared.error.NegotiationError.{NegotiationError}
use Rattle.sasl_exchange.specs.declared.exchange.Turn.TheVariants.{Receive, Pass}
use Rattle.sasl_exchange.specs.AnyClient.{any_client_holds, any_client_turn}
use Rattle.sasl_exchange.specs.AnyServer.{any_server_holds, any_server_turn}
use Rattle.sasl_gate.specs.Frames.{Heard, sasl_frame}
use Rattle.sasl_gate.specs.Negotiation.{FrameCause, IsHeard}
use Rattle.amqp_pairs.specs.Failures.{IsFollowed}
use Rattle.amqp_pairs.specs.Mechanisms.{Listening}
use Rattle.amqp_pairs.specs.Streams.{AreFirstSent, IsSaid}
use Rattle.amqp_pairs.proofs.Failing.{heard_first}
use Rattle.amqp_pairs.proofs.Frames.{frames_taken, nothing_refused_of}
use Rattle.amqp_pairs.proofs.Still.{both_still, client_given_all, listener_given_all, pass_not_send, receive_not_pass, receive_not_send}
use Rattle.amqp_pairs.proofs.Streams.{first_said}

-- where none of the bodies is left, all were given
all_of : (given others sent : List SaslBody) → sent ≡ given ++ others → others ≡ [] → given ≡ sent
all_of given others sent e none = sym (append-nil given) ∙ ap (λ (u : List SaslBody). given ++ u) (sym none) ∙ sym e

-- and what is left is what follows
nothing_left : (given sent : List SaslBody) (left after : List ℕ) (f : AreFirstSent given sent left after) → f.others ≡ [] → (given ≡ sent) × (left ≡ after)
nothing_left given sent left after f none =
    (all_of given f.others sent f.sent_is none, f.left_is ∙ ap (λ (u : List SaslBody). flat_map sasl_frame u ++ after) none)

-- nothing was read behind all bodies
nothing_behind : (rest coming after : List ℕ) → rest ++ coming ≡ after → after ≡ [] → rest ≡ []
nothing_behind [] coming after e none = refl
nothing_behind (b ∷ bs) coming after e none = let both : b ∷ (bs ++ coming) ≡ [] = e ∙ none in cc

module _ (x : ClientExchange) (y : Listening) (gc sc gl sl : List SaslBody) where
  -- a client that passes heard all bodies
  pub client_heard_all : (cr rest tc al lr tl ac : List ℕ) → any_client_holds x gc sc → any_server_holds passwords_for stored_for y gl sl
      → IsSaid cr tc al sl → IsHeard lr gl → IsSaid lr tl ac sc → Heard cr gc rest → any_client_turn x ≡ Pass → (gc ≡ sl) × (rest ++ tc ≡ al)
  client_heard_all cr rest tc al lr tl ac held held' s h t heard p =
      let f = first_said cr rest tc al gc sl (record { frames = s.frames; after_is = s.after_is; heard = heard; stream = s.stream }) in
      let q = heard_first lr tl ac gl sc h t in
      nothing_left gc sl (rest ++ tc) al f
      (client_given_all x y gc sc gl sl f.others q.0 (record { client = held; listener = held'; reads_listener = sym f.sent_is; reads_client = sym q.1 }) p)

  -- and so did a listener
  pub listener_heard_all : (cr tc al lr rest tl ac : List ℕ) → any_client_holds x gc sc → any_server_holds passwords_for stored_for y gl sl
      → IsHeard cr gc → IsSaid cr tc al sl → IsSaid lr tl ac sc → Heard lr gl rest → any_server_turn y ≡ Pass → (gl ≡ sc) × (rest ++ tl ≡ ac)
  listener_heard_all cr tc al lr rest tl ac held held' h s t heard p =
      let f = first_said lr rest tl ac gl sc (record { frames = t.frames; after_is = t.after_is; heard = heard; stream = t.stream }) in
      let q = heard_first cr tc al gc sl h s in
      nothing_left gl sc (rest ++ tl) ac f
      (listener_given_all x y gc sc gl sl q.0 f.others (record { client = held; listener = held'; reads_listener = sym q.1; reads_client = sym f.sent_is }) p)

  module _ (e : NegotiationError) (events : List LinkEvent) where
    -- behind all bodies of an end that passes, or where nothing follows them, no frame is refused
    pub client_frame : (rest tc al lr tl ac : List ℕ) → any_client_holds x gc sc → any_server_holds passwords_for stored_for y gl sl
        → IsSaid (read_of events) tc al sl → IsFollowed (any_server_turn y) al → IsHeard lr gl → IsSaid lr tl ac sc → Heard (read_of events) gc rest
        → any_client_turn x ≡ Receive → FrameCause e rest → ⊥
    client_frame rest tc al lr tl ac held held' s follows h t heard waits c =
        let r = frames_taken (read_of events) rest tc al gc sl e (record { frames = s.frames; after_is = s.after_is; heard = heard; stream = s.stream }) c in
        let q = heard_first lr tl ac gl sc h t in
        elim follows as (λ _. ⊥) [
          | inl none ↦ nothing_refused_of rest e (nothing_behind rest tc al r.1 none) c
          | inr p ↦
              let all : q.0 ≡ [] =
              listener_given_all x y gc sc gl sl [] q.0 (record { client = held; listener = held'; reads_listener = append-nil gc ∙ r.0; reads_client = sym q.1 }) p in
              let both = both_still x y gc sc gl sl held held' r.0 (all_of gl q.0 sc q.1 all) (receive_not_send (any_client_turn x) waits) (pass_not_send (any_server_turn y) p) in
              receive_not_pass (any_client_turn x) waits both.0
        ]

    pub listener_frame : (cr tc al rest tl ac : List ℕ) → any_client_holds x gc sc → any_server_holds passwords_for stored_for y gl sl
        → IsHeard cr gc → IsSaid cr tc al sl → IsSaid (read_of events) tl ac sc → IsFollowed (any_client_turn x) ac → Heard (read_of events) gl rest
        → any_server_turn y ≡ Receive → FrameCause e rest → ⊥
    listener_frame cr tc al rest tl ac held held' h s t follows heard waits c =
        let r = frames_taken (read_of events) rest tl ac gl sc e (record { frames = t.frames; after_is = t.after_is; heard = heard; stream = t.stream }) c in
        let q = heard_first cr tc al gc sl h s in
        elim follows as (λ _. ⊥) [
          | inl none ↦ nothing_refused_of rest e (nothing_behind rest tl ac r.1 none) c
          | inr p ↦
              let all : q.0 ≡ [] =
              client_given_all x y gc sc gl sl q.0 [] (record { client = held; listener = held'; reads_listener = sym q.1; reads_client = append-nil gl ∙ r.0 }) p in
              let both = both_still x y gc sc gl sl held held' (all_of gc q.0 sl q.1 all) r.0 (pass_not_send (any_client_turn x) p) (receive_not_send (any_server_turn y) waits) in
              receive_not_pass (any_server_turn y) waits both.1
        ]
