-- One of two ends that read one another's bytes, whose mechanism failed by a body, whatever the two mechanisms are.
use Rattle.std.proofs.Common.{◌≡◌, ◌⊎◌, inl, inr, ℕ, List, [], ◌∷◌, ◌++◌, ap, sym, ◌∙◌, subst, append_assoc}
use Rattle.amqp_sasl_bodies.specs.declared.sasl_body.SaslBody.{SaslBody}
use Rattle.amqp_wire.specs.Events.{LinkEvent, read_of}
use Rattle.sasl_exchange.specs.declared.error.NegotiationError.{NegotiationError}
use Rattle.sasl_exchange.specs.declared.exchange.Turn.{Turn}
use Rattle.sasl_exchange.specs.declared.exchange.Turn.TheVariants.{Receive}
use Rattle.sasl_gate.specs.Frames.{Heard}
use Rattle.sasl_gate.specs.Negotiation.{FrameCause, HeaderCause, IsCaused, IsCauseAfter, IsHeard, at_link, at_header, at_frame, by_body, too_long}
use Rattle.amqp_pairs.specs.Failures.{FailsBy, IsByMechanism, IsOwnCause}
use Rattle.amqp_pairs.specs.Streams.{IsSaid}
use Rattle.amqp_pairs.proofs.Streams.{first_said}

-- bodies that were read are the first of those that were sent
pub read_first : (read rest coming after : List ℕ) (given sent : List SaslBody) → Heard read given rest → IsSaid read coming after sent
    → (others : List SaslBody) × (sent ≡ given ++ others)
read_first read rest coming after given sent h s =
    let f = first_said read rest coming after given sent (record { frames = s.frames; after_is = s.after_is; heard = h; stream = s.stream }) in
    (f.others, f.sent_is)

pub heard_first : (read coming after : List ℕ) (given sent : List SaslBody) → IsHeard read given → IsSaid read coming after sent
    → (others : List SaslBody) × (sent ≡ given ++ others)
heard_first read coming after given sent (inl none) s = (sent, ap (λ (u : List SaslBody). u ++ sent) (sym none))
heard_first read coming after given sent (inr (rest, h)) s = read_first read rest coming after given sent h s

-- a body that was refused is the first of those in flight
behind : (given bodies others sent : List SaslBody) (body : SaslBody) → bodies ≡ given ++ body ∷ [] → sent ≡ bodies ++ others → given ++ body ∷ others ≡ sent
behind given bodies others sent body is e =
    sym (append_assoc given (body ∷ []) others) ∙ ap (λ (u : List SaslBody). u ++ others) (sym is) ∙ sym e

module _ (causes : NegotiationError → List SaslBody → List SaslBody → Type 0) (owes : SaslBody → Type 0) (turn : Turn) (e : NegotiationError) (events : List LinkEvent)
    (given sent far_given far_sent : List SaslBody) where
  -- it fails because of what it took, or of the body in flight that it refused
  module _ (Why : Type 0)
      (taken : (flight far_flight : List SaslBody) → given ++ flight ≡ far_sent → far_given ++ far_flight ≡ sent → causes e given sent → Why)
      (next : (body : SaslBody) (more far_flight : List SaslBody) → given ++ body ∷ more ≡ far_sent → far_given ++ far_flight ≡ sent → turn ≡ Receive → causes e (given ++ body ∷ []) sent → Why)
      (coming after far_read far_coming far_after : List ℕ) (s : IsSaid (read_of events) coming after far_sent) (h : IsHeard far_read far_given) (t : IsSaid far_read far_coming far_after sent) where
    by_bodies : (bodies others far_flight : List SaslBody) → (bodies ≡ given) ⊎ ((body : SaslBody) × (bodies ≡ given ++ body ∷ []) × (turn ≡ Receive))
        → far_sent ≡ bodies ++ others → sent ≡ far_given ++ far_flight → causes e bodies sent → Why
    by_bodies bodies others far_flight (inl is) p q c =
        taken others far_flight (ap (λ (u : List SaslBody). u ++ others) (sym is) ∙ sym p) (sym q) (subst (λ (u : List SaslBody). causes e u sent) is c)
    by_bodies bodies others far_flight (inr (body, is, waits)) p q c =
        next body others far_flight (behind given bodies others far_sent body is p) (sym q) waits (subst (λ (u : List SaslBody). causes e u sent) is c)

    by_cause : (c : IsCaused causes owes e events) → IsCauseAfter causes owes turn e events given sent c → IsByMechanism causes owes e events c → Why
    by_cause (at_link c) a m = absurd m
    by_cause (at_header c) a m = absurd m
    by_cause (at_frame bodies rest is c) a m = absurd m
    by_cause (by_body bodies told rest is c) a m =
        let p = read_first (read_of events) rest coming after bodies far_sent is s in
        let q = heard_first far_read far_coming far_after far_given sent h t in
        by_bodies bodies p.0 q.0 a.1 p.1 q.1 (subst (λ (u : List SaslBody). causes e bodies u) a.0 c)
    by_cause (too_long body owed long is) a m = absurd m

    pub fails_by : FailsBy causes owes turn e events given sent → Why
    fails_by f = by_cause f.0 f.1 f.2

  -- it fails only by its link, or for a body of its own
  module _ (header : HeaderCause e (read_of events) → ⊥) (frame : (rest : List ℕ) → Heard (read_of events) given rest → turn ≡ Receive → FrameCause e rest → ⊥)
      (mechanism : FailsBy causes owes turn e events given sent → ⊥) where
    pub fails_on_its_own : (c : IsCaused causes owes e events) → IsCauseAfter causes owes turn e events given sent c → IsOwnCause causes owes e events c
    fails_on_its_own (at_link c) a = tt
    fails_on_its_own (at_header c) a = header c
    fails_on_its_own (at_frame bodies rest is c) a = frame rest (subst (λ (u : List SaslBody). Heard (read_of events) u rest) a.0 is) a.1 c
    fails_on_its_own (by_body bodies told rest is c) a = mechanism (by_body bodies told rest is c, a, tt)
    fails_on_its_own (too_long body owed long is) a = tt
