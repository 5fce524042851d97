-- What becomes of a message, over all that the links of an end do.
use Rattle.std.specs.Prelude.{◌≡◌, ℕ, nat_eq, not, ◌&&◌, Bool, true, false, cond, if◌then◌else◌, List, [], ◌∷◌, Option, Some, None, refl}
use Rattle.std.proofs.Common.{inr, sym, ◌∙◌, ap, subst}
use Rattle.std.specs.Map.{lookup}
use Rattle.std.proofs.lemmas.Bool.{eqb-true}
use Rattle.amqp_composites.specs.declared.modes.Role.TheVariants as role
use Rattle.amqp_termini.specs.declared.outcome.Outcome.{Outcome}
use Rattle.amqp_link_calls.specs.Answering as known
use Rattle.amqp_link_calls.specs.Answering.{outcome_now, tells_of_stop}
use Rattle.amqp_link_calls.specs.Called.{Called}
use Rattle.amqp_link_calls.specs.Calling.{outcome_asked}
use Rattle.amqp_link_words.specs.declared.link_reply.LinkReply.{LinkReply}
use Rattle.amqp_link_words.specs.declared.link_reply.LinkReply.TheVariants as reply
use Rattle.amqp_performatives.specs.declared.disposition.Disposition.{Disposition}
use Rattle.amqp_session.specs.declared.session.LeftDelivery.{LeftDelivery}
use Rattle.amqp_session.specs.declared.session.LinkInput.{LinkInput}
use Rattle.amqp_session.specs.declared.session.LinkInput.TheVariants as input
use Rattle.amqp_links.specs.declared.links.SentDelivery.{SentDelivery}
use Rattle.amqp_links.specs.Calling.{outcome_at, outcome_for}
use Rattle.amqp_links.specs.Forgetting.{forgotten}
use Rattle.amqp_links.specs.State.{State, link_of, with_link, answering}
use Rattle.amqp_sender.specs.declared.sender.DeliveryToken.{DeliveryToken}
use Rattle.amqp_sender.specs.Settling.{settlement_of}
use Rattle.amqp_sender.specs.declared.sender.Settlement.TheVariants.{Settled}
use Rattle.link_lives.specs.Deeds.{Asks, Hears, Hands, Knows, Looks, Tells}
use Rattle.amqp_link_tables.specs.Deliveries.{is_within}
use Rattle.session_laws.specs.Giving.{last_of}
use Rattle.session_laws.proofs.Lists.{Each, each_both, each_removed}
use Rattle.session_laws.specs.Settling.{IsAmong}
use Rattle.connect_laws.specs.Ruling.{IsSending, Step, Does, Forgets, IsStep, Did, told_of, told_in, AreShort, Rules}
use Rattle.connect_laws.proofs.Known.{Known, SentAt, IsSent, Another, known_closed, answered_known, asked_known}
use Rattle.connect_laws.proofs.Links.{IsTold, AnswerTold, outcome_told}
use Rattle.connect_laws.proofs.Ranges.{IsIn}
use Rattle.connect_laws.proofs.Sent.{Nothing, Or, Before, Behind}
use Rattle.connect_laws.proofs.Sides.{Where, Says}
use Rattle.connect_laws.proofs.Steps.{Closed}
use Rattle.connect_laws.proofs.Walks.{taken_keeps, deed_keeps}

-- what the links of the end heard of its sessions, over its life
module _ (heard : List (ℕ × LinkInput)) where
  abbrev pub IsHeard : ℕ → LinkInput → Type 0
  IsHeard session x = IsAmong (session, x) heard

  -- a delivery with that number and tag has left on the session
  abbrev pub HasLeft : ℕ → ℕ → List ℕ → Type 0
  HasLeft session number tag = (x : LeftDelivery) × IsHeard session (input.Left x) × (x.delivery_id ≡ number) × (x.delivery_tag ≡ tag)

  lefts : (session : ℕ) (x : LeftDelivery) → IsHeard session (input.Left x) → HasLeft session x.delivery_id x.delivery_tag
  lefts session x h = (x, h, refl, refl)

  ruled : (session number : ℕ) (d : Disposition) (x : Outcome) → IsHeard session (input.Disposition d) → IsIn d number → d.role ≡ role.Receiver → (tag : List ℕ) → HasLeft session number tag → settlement_of d.state ≡ Settled x → Rules heard tag x
  ruled session number d x h w r tag l e = record {
    session = session;
    left = l.0;
    leaves = l.1;
    is_tag = l.3;
    disposition = d;
    comes = h;
    by_receiver = r;
    covers = λ s. subst (λ (i : ℕ). is_within d.first (last_of d) i ≡ true) (sym l.2) (w (subst (λ (i : ℕ). AreShort d i) l.2 s));
    state = e;
  }

  none_says : (session number : ℕ) (d : Disposition) (tag : List ℕ) → IsHeard session (input.Disposition d) → IsIn d number → d.role ≡ role.Receiver → HasLeft session number tag → Says None Nothing tag d.state
  none_says session number d tag h w r l = λ v e f x g. absurd cc

  some_says : (v : Where) (c : Bool) (session number : ℕ) (d : Disposition) (tag : List ℕ) → IsHeard session (input.Disposition d) → IsIn d number → d.role ≡ role.Receiver → HasLeft session number tag → Says (Some v) (Or c (λ (x : Outcome). Rules heard v.tag x)) tag d.state
  some_says v c session number d tag h w r l = λ u e f x g.
      (let same : v ≡ u = cc in inr (subst (λ (t : List ℕ). Rules heard t x) (f ∙ ap (λ (y : Where). y.tag) (sym same)) (ruled session number d x h w r tag l g)))

  module _ (name asking n : ℕ) where
    -- what is known before the message is sent
    abbrev pub Early : State → Type 0
    Early s = Before name asking n HasLeft s

    -- and behind it
    abbrev pub Late : Where → Bool → State → Type 0
    Late v c s = Behind name asking n HasLeft v (Or c (λ (x : Outcome). Rules heard v.tag x)) s

    pub early_known : Closed (Another name asking n None Nothing HasLeft) IsHeard Early
    early_known = known_closed name asking n None Nothing HasLeft IsHeard lefts none_says

    pub late_known : (v : Where) (c : Bool) → Closed (Another name asking n (Some v) (Or c (λ (x : Outcome). Rules heard v.tag x)) HasLeft) IsHeard (Late v c)
    late_known v c = known_closed name asking n (Some v) (Or c (λ (x : Outcome). Rules heard v.tag x)) HasLeft IsHeard lefts (some_says v c)

    -- ---- a call is not known any more

    forgets_known : (at : Option Where) (G : Outcome → Type 0) (k : ℕ) (s : State) → Known name asking n at G HasLeft s → Known name asking n at G HasLeft (forgotten k s)
    forgets_known at G k s j = record {
      untimed = j.untimed;
      alone = j.alone;
      places = λ session p e. (let q = j.places session p e in record { accepting = q.accepting; incoming = q.incoming; outgoing = q.outgoing });
      links = j.links;
      sends = each_removed (IsSent name asking n at G HasLeft) (nat_eq k) s.sends j.sends;
      replies = j.replies;
    }

    -- ---- what other calls do

    -- such calls are made, and that is heard
    abbrev pub Allows : (ℕ → Type 0) → Step → Type 0
    Allows Q (Does (Asks k x max)) = IsSending x × Q k
    Allows Q (Does (Hears session x)) = IsHeard session x
    Allows Q other = Unit {0}

    module _ (at : Option Where) (G : Outcome → Type 0) (closed : Closed (Another name asking n at G HasLeft) IsHeard (Known name asking n at G HasLeft)) where
      one_keeps : (x : Step) (old new : State) → IsStep old x new → Allows (Another name asking n at G HasLeft) x → Known name asking n at G HasLeft old → Known name asking n at G HasLeft new
      one_keeps (Does (Asks k x max)) old new h q j = deed_keeps (Another name asking n at G HasLeft) IsHeard (Known name asking n at G HasLeft) closed (Asks k x max) old new h q j
      one_keeps (Does (Hears session x)) old new h q j = deed_keeps (Another name asking n at G HasLeft) IsHeard (Known name asking n at G HasLeft) closed (Hears session x) old new h q j
      one_keeps (Does (Hands x)) old new h q j = deed_keeps (Another name asking n at G HasLeft) IsHeard (Known name asking n at G HasLeft) closed (Hands x) old new h tt j
      one_keeps (Does (Knows moment)) old new h q j = deed_keeps (Another name asking n at G HasLeft) IsHeard (Known name asking n at G HasLeft) closed (Knows moment) old new h tt j
      one_keeps (Does Looks) old new h q j = deed_keeps (Another name asking n at G HasLeft) IsHeard (Known name asking n at G HasLeft) closed Looks old new h tt j
      one_keeps (Does Tells) old new h q j = deed_keeps (Another name asking n at G HasLeft) IsHeard (Known name asking n at G HasLeft) closed Tells old new h tt j
      one_keeps (Forgets k) old new h q j = subst (λ (s : State). Known name asking n at G HasLeft s) (sym h) (forgets_known at G k old j)

      one_tells : (x : Step) (s : State) → Known name asking n at G HasLeft s → Each (AnswerTold asking n at G) (told_of x s)
      one_tells (Does Tells) s j = j.replies
      one_tells (Does (Asks k x max)) s j = tt
      one_tells (Does (Hears session x)) s j = tt
      one_tells (Does (Hands x)) s j = tt
      one_tells (Does (Knows moment)) s j = tt
      one_tells (Does Looks) s j = tt
      one_tells (Forgets k) s j = tt

      pub all_keep : (xs : List Step) (old new : State) → Did old xs new → Each (Allows (Another name asking n at G HasLeft)) xs → Known name asking n at G HasLeft old → Known name asking n at G HasLeft new
      all_keep [] old new h q j = subst (λ (s : State). Known name asking n at G HasLeft s) (sym h) j
      all_keep (x ∷ xs) old new h q j = all_keep xs h.0 new h.1.1 q.1 (one_keeps x old h.0 h.1.0 q.0 j)

      pub all_tell : (xs : List Step) (old new : State) (h : Did old xs new) → Each (Allows (Another name asking n at G HasLeft)) xs → Known name asking n at G HasLeft old → Each (AnswerTold asking n at G) (told_in old xs new h)
      all_tell [] old new h q j = tt
      all_tell (x ∷ xs) old new h q j =
          each_both (AnswerTold asking n at G) (told_of x old) (told_in h.0 xs new h.1.1) (one_tells x old j) (all_tell xs h.0 new h.1.1 q.1 (one_keeps x old h.0 h.1.0 q.0 j))

    -- ---- its outcome is asked for

    pub sent_at : (at : Option Where) (G : Outcome → Type 0) (x : SentDelivery) (es : List (ℕ × SentDelivery)) → Each (IsSent name asking n at G HasLeft) es → lookup (nat_eq name) es ≡ Some x → SentAt name asking n at G HasLeft at x
    sent_at at G x [] k h = absurd cc
    sent_at at G x (e ∷ es) k h = by (nat_eq name e.0) refl h (sent_at at G x es k.1)
      where
        by : (b : Bool) → nat_eq name e.0 ≡ b → cond b (Some e.1) (lookup (nat_eq name) es) ≡ Some x → (lookup (nat_eq name) es ≡ Some x → SentAt name asking n at G HasLeft at x) → SentAt name asking n at G HasLeft at x
        by true f g r =
            let s : e.1 ≡ x = cc in
            let i : name ≡ e.0 = eqb-true name e.0 f in
            subst (λ (y : SentDelivery). SentAt name asking n at G HasLeft at y) s (k.0 (sym i))
        by false f g r = r g

    put_off_told : (at : Option Where) (G : Outcome → Type 0) (b : Bool) (x : LinkReply) → IsTold asking n at G asking x → IsTold asking n at G asking (if b then reply.Pending else x)
    put_off_told at G true x h = λ e y f. absurd cc
    put_off_told at G false x h = h

    module _ (v : Where) (c : Bool) where
      asked_late : (o : Option Called) (m : ℕ) (token : DeliveryToken) (s : State) → link_of m s ≡ o → m ≡ n → token.place ≡ v.place → Behind name asking n HasLeft v (Or c (λ (y : Outcome). Rules heard v.tag y)) s
          → Behind name asking n HasLeft v (Or c (λ (y : Outcome). Rules heard v.tag y)) (outcome_at o asking m token s)
      asked_late None m token s at i p k = k
      asked_late (Some l) m token s at i p k =
          let H : Outcome → Type 0 = Or c (λ (y : Outcome). Rules heard v.tag y) in
          let a = with_link m (outcome_asked asking token.place l) s in
          let j = k.links m l at in
          let t = put_off_told (Some v) H (not l.is_concluded && tells_of_stop (known.outcome_at token.place l.side)) (known.outcome_at token.place l.side)
          (outcome_told asking n (Some v) H m token.place asking l.side j.side (λ e. (i, p))) in
          taken_keeps (Another name asking n (Some v) H HasLeft) IsHeard (Known name asking n (Some v) H HasLeft) (late_known v c) m (answering asking (outcome_now token.place l) a)
          (answered_known name asking n (Some v) H HasLeft asking (outcome_now token.place l) a t (asked_known name asking n (Some v) H HasLeft asking token.place m l s (λ e. (i, p)) at k))

      pub asks_late : (o : Option SentDelivery) (s : State) → lookup (nat_eq name) s.sends ≡ o → Behind name asking n HasLeft v (Or c (λ (y : Outcome). Rules heard v.tag y)) s
          → Behind name asking n HasLeft v (Or c (λ (y : Outcome). Rules heard v.tag y)) (outcome_for o asking s)
      asks_late None s e k = k
      asks_late (Some x) s e k =
          let i = sent_at (Some v) (Or c (λ (y : Outcome). Rules heard v.tag y)) x s.sends k.sends e in asked_late (link_of x.link s) x.link x.token s refl i.0 i.1 k
