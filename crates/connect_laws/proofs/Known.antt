-- What the links of an end know of a message, and tell of it.
use Rattle.std.specs.Prelude.{◌≡◌, ℕ, nat_eq, ◌&&◌, Bool, true, false, cond, List, [], ◌∷◌, ◌++◌, length, Option, Some, None, Result, Ok, Err, if◌then◌else◌, ◌<◌, refl}
use Rattle.std.proofs.Common.{sym, ◌∙◌, ap, subst}
use Rattle.std.specs.Map.{lookup, set_value}
use Rattle.std.proofs.lemmas.Bool.{eqb-true}
use Rattle.indexmap.specs.IndexMap.{insert_entry}
use Rattle.amqp_termini.specs.declared.outcome.Outcome.{Outcome}
use Rattle.amqp_composites.specs.declared.modes.Role.{Role}
use Rattle.amqp_composites.specs.declared.modes.Role.TheVariants as role
use Rattle.amqp_frames.specs.declared.shared.SessionStopReason.{SessionStopReason}
use Rattle.amqp_link.specs.Parting as parting
use Rattle.amqp_link_calls.specs.declared.leave.WaitingPart.{WaitingPart}
use Rattle.amqp_link_calls.specs.Disposers.{is_receiving}
use Rattle.amqp_link_calls.specs.Answering.{answers_taken}
use Rattle.amqp_link_calls.specs.Called.{Called, sender_asked}
use Rattle.amqp_link_calls.specs.Calling.{token_of, having_sent, outcome_asked}
use Rattle.amqp_link_calls.specs.Hearing as hears
use Rattle.amqp_link_calls.specs.Leaving.{is_parting}
use Rattle.amqp_link_calls.specs.Side as side
use Rattle.amqp_link_calls.specs.Side.{Side, Sender, Receiver}
use Rattle.amqp_link_tables.specs.declared.deliveries.Delivered.{Delivered}
use Rattle.amqp_link_tables.specs.declared.error.AllocLinkError.{AllocLinkError}
use Rattle.amqp_link_tables.specs.declared.error.AllocLinkError.TheVariants as full
use Rattle.amqp_link_tables.specs.Calls as table
use Rattle.amqp_link_tables.specs.Calls.{link_at}
use Rattle.amqp_link_tables.specs.Deliveries as deliveries
use Rattle.amqp_link_words.specs.declared.link_reply.LinkReply.{LinkReply}
use Rattle.amqp_link_words.specs.declared.link_reply.NamedLinkReply.{NamedLinkReply}
use Rattle.amqp_performatives.specs.declared.disposition.Disposition.{Disposition}
use Rattle.amqp_sender.specs.declared.sender.DeliveryToken.{DeliveryToken}
use Rattle.amqp_sender.specs.Sender.{State as SenderState}
use Rattle.amqp_session.specs.declared.session.LeftDelivery.{LeftDelivery}
use Rattle.amqp_session.specs.declared.session.LinkInput.{LinkInput}
use Rattle.amqp_session.specs.declared.session.LinkInput.TheVariants as input
use Rattle.amqp_session_links.specs.Claims.{is_at, claimed_by, claimed_up_to, claimed_unless}
use Rattle.amqp_session_links.specs.Incoming.{kept_at}
use Rattle.amqp_session_links.specs.Numbers as numbers
use Rattle.amqp_session_links.specs.State.{State as Place, none_attached}
use Rattle.amqp_links.specs.declared.links.SentDelivery.{SentDelivery}
use Rattle.amqp_links.specs.Accepting.{accept_of}
use Rattle.amqp_links.specs.Numbering.{receives_at}
use Rattle.amqp_links.specs.Settling.{delivery_at}
use Rattle.amqp_links.specs.State.{State, place_of, link_of, with_link, stepped, at_place, entered_at, answering}
use Rattle.amqp_links.specs.Timing.{send_kept}
use Rattle.link_lives.proofs.Tables.{set_at, insert_here, insert_other}
use Rattle.session_laws.proofs.Lists.{Each, each_both, each_inserted}
use Rattle.session_laws.proofs.Numbers.{entered_keeps, forgotten_keeps}
use Rattle.connect_laws.proofs.Links.{IsTold, AnswerTold, LinkSide, Waits, IsLink, plain_told, step_link, concluded_link, disposition_link, sent_link, asked_link, taken_link}
use Rattle.connect_laws.proofs.Ranges.{IsIn}
use Rattle.connect_laws.proofs.Sides.{Where, Knows, Says}
use Rattle.connect_laws.proofs.Steps as step
use Rattle.connect_laws.proofs.Steps.{PlaceStep, on_place, on_link, Closed}

-- ---- tables

-- what holds of each entry holds where one changes
pub set_each : {X : Type 0} (P : ℕ → X → Type 0) (k : ℕ) (es : List (ℕ × X)) (v w : X) → lookup (nat_eq k) es ≡ Some v → P k w → ((n : ℕ) (x : X) → nat_eq k n ≡ false → lookup (nat_eq n) es ≡ Some x → P n x)
    → (n : ℕ) (x : X) → lookup (nat_eq n) (set_value (nat_eq k) es w) ≡ Some x → P n x
set_each {X} P k es v w at here old n x h = by (nat_eq k n) refl (sym (set_at k n es v w at) ∙ h)
  where
    by : (b : Bool) → nat_eq k n ≡ b → cond (nat_eq k n) (Some w) (lookup (nat_eq n) es) ≡ Some x → P n x
    by true e f =
        let g : Some w ≡ Some x = ap (λ (c : Bool). cond c (Some w) (lookup (nat_eq n) es)) (sym e) ∙ f in
        let s : w ≡ x = cc in
        subst (λ (m : ℕ). P m x) (eqb-true k n e) (subst (λ (y : X). P k y) s here)
    by false e f = old n x e (ap (λ (c : Bool). cond c (Some w) (lookup (nat_eq n) es)) (sym e) ∙ f)

insert_each : {X : Type 0} (P : ℕ → X → Type 0) (k : ℕ) (es : List (ℕ × X)) (w : X) → P k w → ((n : ℕ) (x : X) → lookup (nat_eq n) es ≡ Some x → P n x)
    → (n : ℕ) (x : X) → lookup (nat_eq n) (insert_entry nat_eq es k w) ≡ Some x → P n x
insert_each {X} P k es w here old n x h = by (nat_eq k n) refl
  where
    by : (b : Bool) → nat_eq k n ≡ b → P n x
    by true e =
        let g : Some w ≡ Some x = sym (insert_here k n w es e) ∙ h in
        let s : w ≡ x = cc in
        subst (λ (m : ℕ). P m x) (eqb-true k n e) (subst (λ (y : X). P k y) s here)
    by false e = old n x (sym (insert_other k n w es e) ∙ h)

entry_at : {X : Type 0} (P : ℕ × X → Type 0) (n : ℕ) (x : X) (es : List (ℕ × X)) → Each P es → lookup (nat_eq n) es ≡ Some x → P (n, x)
entry_at P n x [] k h = absurd cc
entry_at {X} P n x (e ∷ es) k h = by (nat_eq n e.0) refl h (entry_at P n x es k.1)
  where
    by : (c : Bool) → nat_eq n e.0 ≡ c → cond c (Some e.1) (lookup (nat_eq n) es) ≡ Some x → (lookup (nat_eq n) es ≡ Some x → P (n, x)) → P (n, x)
    by true f g r =
        let s : e.1 ≡ x = cc in
        subst (λ (i : ℕ). P (i, x)) (sym (eqb-true n e.0 f)) (subst (λ (y : X). P (e.0, y)) s k.0)
    by false f g r = r g

-- the call of that name sends a message over that link, another asks for its outcome; a delivery has left, and frames were heard
module _ (name asking n : ℕ) (at : Option Where) (G : Outcome → Type 0) (Left : ℕ → ℕ → List ℕ → Type 0) where
  -- no link of the peer is accepted on the session, no delivery comes, and those that go have left
  pub record IsPlace (session : ℕ) (p : Place) : Type 0 where
    pub accepting : p.accepting ≡ None
    pub incoming : p.incoming ≡ []
    pub outgoing : Each (λ (e : ℕ × Delivered). Left session e.0 e.1.tag) p.outgoing

  -- the message is known by the name of its call
  abbrev pub SentAt : Option Where → SentDelivery → Type 0
  SentAt None x = ⊥
  SentAt (Some w) x = (x.link ≡ n) × (x.token.place ≡ w.place)

  abbrev pub IsSent : ℕ × SentDelivery → Type 0
  IsSent e = e.0 ≡ name → SentAt at e.1

  pub record Known (s : State) : Type 0 where
    pub untimed : s.timed ≡ []
    pub alone : s.accepts ≡ false
    pub places : (session : ℕ) (p : Place) → place_of session s ≡ Some p → IsPlace session p
    pub links : (m : ℕ) (l : Called) → link_of m s ≡ Some l → IsLink asking n at G m l
    pub sends : Each IsSent s.sends
    pub replies : Each (AnswerTold asking n at G) s.replies

  -- another call
  abbrev pub IsOther : Option Where → ℕ → Type 0
  IsOther None k = Unit {0}
  IsOther (Some w) k = k ≡ n → ⊥

  abbrev pub Another : ℕ → Type 0
  Another k = (k ≡ name → ⊥) × ((k ≡ asking → ⊥) × IsOther at k)

  -- ---- what the links of a session share

  plain_place : (session : ℕ) (p q : Place) → q.accepting ≡ p.accepting → q.incoming ≡ p.incoming → q.outgoing ≡ p.outgoing → IsPlace session p → IsPlace session q
  plain_place session p q a b c k = record {
    accepting = a ∙ k.accepting;
    incoming = b ∙ k.incoming;
    outgoing = subst (λ (xs : List (ℕ × Delivered)). Each (λ (e : ℕ × Delivered). Left session e.0 e.1.tag) xs) (sym c) k.outgoing;
  }

  claims_by : (session : ℕ) (r : Result ℕ AllocLinkError) (max : ℕ) (x : List ℕ) (who : Role) (m : ℕ) (p : Place) → IsPlace session p → IsPlace session (claimed_by r max x who m p).state
  claims_by session (Ok handle) max x who m p k = plain_place session p _ refl refl refl k
  claims_by session (Err (full.Memory a)) max x who m p k = k
  claims_by session (Err full.DuplicatedLinkName) max x who m p k = k
  claims_by session (Err full.HandleMaxReached) max x who m p k = k

  claims_to : (session : ℕ) (max : Option ℕ) (x : List ℕ) (who : Role) (m : ℕ) (p : Place) → IsPlace session p → IsPlace session (claimed_up_to max x who m p).state
  claims_to session None x who m p k = k
  claims_to session (Some max) x who m p k = claims_by session (table.allocation x who max p.table) max x who m p k

  claims_unless : (session : ℕ) (stop : Option SessionStopReason) (max : Option ℕ) (x : List ℕ) (who : Role) (m : ℕ) (p : Place) → IsPlace session p → IsPlace session (claimed_unless stop max x who m p).state
  claims_unless session (Some why) max x who m p k = k
  claims_unless session None max x who m p k = claims_to session max x who m p k

  either : (J : Place → Type 0) (b : Bool) (x y : Place) → J x → J y → J (if b then x else y)
  either J true x y p q = p
  either J false x y p q = q

  kept_place : (session : ℕ) (o : Option (List LinkInput)) (remote : ℕ) (x : LinkInput) (p : Place) → IsPlace session p → IsPlace session (kept_at o remote x p)
  kept_place session None remote x p k = plain_place session p _ refl refl refl k
  kept_place session (Some xs) remote x p k = plain_place session p _ refl refl refl k

  forgets_place : (session : ℕ) (teller : Role) (number : ℕ) (p : Place) → IsPlace session p → IsPlace session (numbers.forgotten teller number p)
  forgets_place session role.Receiver number p k =
      record { accepting = k.accepting; incoming = k.incoming; outgoing = forgotten_keeps (λ (e : ℕ × Delivered). Left session e.0 e.1.tag) number p.outgoing k.outgoing }
  forgets_place session role.Sender number p k = record { accepting = k.accepting; incoming = ap (λ (xs : List (ℕ × Delivered)). deliveries.forgotten number xs) k.incoming; outgoing = k.outgoing }

  step_place : (x : PlaceStep) (session : ℕ) (p : Place) → IsPlace session p → IsPlace session (on_place x p)
  step_place step.ends_attach session p k = plain_place session p _ refl refl refl k
  step_place (step.spends y) session p k = plain_place session p _ refl refl refl k
  step_place (step.releases handle m) session p k =
      either (IsPlace session) (is_at (link_at handle p.table) m) (record p { table = table.released handle p.table }) p (plain_place session p _ refl refl refl k) k
  step_place (step.claims y who m max) session p k = claims_unless session p.stop_reason max y who m p k
  step_place (step.awaits_answer m) session p k = plain_place session p _ refl refl refl k
  step_place step.takes_accept session p k = record { accepting = refl; incoming = k.incoming; outgoing = k.outgoing }
  step_place (step.pushes_attach x) session p k = plain_place session p _ refl refl refl k
  step_place (step.keeps remote x) session p k = kept_place session (lookup (nat_eq remote) p.early) remote x p k
  step_place (step.parts remote) session p k = plain_place session p _ refl refl refl k
  step_place (step.joins remote m) session p k = plain_place session p _ refl refl refl k
  step_place (step.forgets teller number) session p k = forgets_place session teller number p k
  step_place (step.stops why) session p k = plain_place session p _ refl refl refl k

  -- ---- the state

  stepped_known : (o : Option Place) (session : ℕ) (f : Place → Place) (s : State) → place_of session s ≡ o → ((p : Place) → IsPlace session p → IsPlace session (f p)) → Known s → Known (stepped o session f s)
  stepped_known None session f s e h k = k
  stepped_known (Some p) session f s e h k = record {
    untimed = k.untimed;
    alone = k.alone;
    places = set_each IsPlace session s.sessions p (f p) e (h p (k.places session p e)) (λ i q f g. k.places i q g);
    links = k.links;
    sends = k.sends;
    replies = k.replies;
  }

  place_known : (session : ℕ) (f : Place → Place) (s : State) → ((p : Place) → IsPlace session p → IsPlace session (f p)) → Known s → Known (at_place session f s)
  place_known session f s h k = stepped_known (place_of session s) session f s refl h k

  entered_known : (o : Option Place) (session : ℕ) (s : State) → Known s → Known (entered_at o session s)
  entered_known None session s k = record {
    untimed = k.untimed;
    alone = k.alone;
    places = insert_each IsPlace session s.sessions none_attached (record { accepting = refl; incoming = refl; outgoing = tt }) k.places;
    links = k.links;
    sends = k.sends;
    replies = k.replies;
  }
  entered_known (Some p) session s k = k

  pub linked_known : (m : ℕ) (l l' : Called) (s : State) → link_of m s ≡ Some l → IsLink asking n at G m l' → Known s → Known (with_link m l' s)
  linked_known m l l' s e h k = record {
    untimed = k.untimed;
    alone = k.alone;
    places = k.places;
    links = set_each (IsLink asking n at G) m s.endpoints l l' e h (λ i x f g. k.links i x g);
    sends = k.sends;
    replies = k.replies;
  }

  pub told_known : (rs : List NamedLinkReply) (s : State) → Each (AnswerTold asking n at G) rs → Known s → Known (record s { replies = s.replies ++ rs })
  told_known rs s h k = record {
    untimed = k.untimed;
    alone = k.alone;
    places = k.places;
    links = k.links;
    sends = k.sends;
    replies = each_both (AnswerTold asking n at G) s.replies rs k.replies h;
  }

  -- a call is answered
  pub answered_known : (who : ℕ) (x : LinkReply) (s : State) → IsTold asking n at G who x → Known s → Known (answering who x s)
  answered_known who x s h k = told_known (record { name = who; reply = x } ∷ []) s (h, tt) k

  -- a message of a call is known by its name
  pub kept_known : (who m : ℕ) (o : Option DeliveryToken) (s : State) → ((token : DeliveryToken) → o ≡ Some token → IsSent (who, record { link = m; token = token })) → Known s → Known (send_kept who m o s)
  kept_known who m None s h k = k
  kept_known who m (Some token) s h k =
      let x : SentDelivery = record { link = m; token = token } in
      record {
        untimed = k.untimed;
        alone = k.alone;
        places = k.places;
        links = k.links;
        sends = each_inserted IsSent nat_eq s.sends who x (h token refl) (λ i e. subst (λ (j : ℕ). IsSent (j, x)) (eqb-true who i e) (h token refl)) k.sends;
        replies = k.replies;
      }

  -- a call asks for the outcome of the message, or of another
  pub asked_known : (who place m : ℕ) (l : Called) (s : State) → Waits asking n at G m (place, who) → link_of m s ≡ Some l → Known s → Known (with_link m (outcome_asked who place l) s)
  asked_known who place m l s w e k = linked_known m l (outcome_asked who place l) s e (asked_link asking n at G m who place l w (k.links m l e)) k

  new_side : (o : Option Where) (m : ℕ) (t : SenderState) → t.unsettled ≡ [] → IsOther o m → m ≡ n → Knows at G o t
  new_side None m t u q e = subst (λ (xs : List (List ℕ × ℕ)). Each (λ (f : List ℕ × ℕ). f.1 < length t.settlements) xs) (sym u) tt
  new_side (Some w) m t u q e = absurd (q e)

  receives_not : (o : Option Called) (m : ℕ) → ((l : Called) → o ≡ Some l → LinkSide asking n at G m l.side) → receives_at o ≡ false
  receives_not None m h = refl
  receives_not (Some l) m h = by l.side (h l refl)
    where
      by : (a : Side) → LinkSide asking n at G m a → is_receiving a ≡ false
      by (Sender t) k = refl
      by (Receiver t) k = absurd k

  accepts_not : (o : Option Place) → ((p : Place) → o ≡ Some p → p.accepting ≡ None) → accept_of o ≡ None
  accepts_not None h = refl
  accepts_not (Some p) h = h p refl

  -- ---- all steps

  module _ (Heard : ℕ → LinkInput → Type 0) (lefts : (session : ℕ) (x : LeftDelivery) → Heard session (input.Left x) → Left session x.delivery_id x.delivery_tag)
      (says : (session number : ℕ) (d : Disposition) (tag : List ℕ) → Heard session (input.Disposition d) → IsIn d number → d.role ≡ role.Receiver → Left session number tag → Says at G tag d.state) where
    enters_place : (o : Option ℕ) (session : ℕ) (x : LeftDelivery) (p : Place) → Heard session (input.Left x) → IsPlace session p → IsPlace session (numbers.entered_at o x p)
    enters_place None session x p h k = k
    enters_place (Some m) session x p h k =
        let d : Delivered = record { link = m; tag = x.delivery_tag } in
        either (IsPlace session) x.settled p (record p { outgoing = deliveries.entered x.delivery_id d p.outgoing }) k
        (record {
          accepting = k.accepting;
          incoming = k.incoming;
          outgoing = entered_keeps (λ (e : ℕ × Delivered). Left session e.0 e.1.tag) x.delivery_id d
              (λ i e. subst (λ (j : ℕ). Left session j x.delivery_tag) e (lefts session x h)) p.outgoing k.outgoing;
        })

    -- a Disposition finds deliveries that have left
    finds : (o : Option Place) (r : Role) (session number : ℕ) (x : Delivered) → ((p : Place) → o ≡ Some p → IsPlace session p) → delivery_at r number o ≡ Some x → (r ≡ role.Receiver) × Left session number x.tag
    finds None r session number x h e = absurd cc
    finds (Some p) role.Receiver session number x h e =
        (refl, entry_at (λ (f : ℕ × Delivered). Left session f.0 f.1.tag) number x p.outgoing (let i = h p refl in i.outgoing) e)
    finds (Some p) role.Sender session number x h e =
        let i = h p refl in
        let none : lookup (nat_eq number) [] ≡ Some x = ap (λ (xs : List (ℕ × Delivered)). lookup (nat_eq number) xs) (sym i.incoming) ∙ e in
        absurd cc

    told_sound : (session number : ℕ) (d : Disposition) (x : Delivered) (s : State) → Heard session (input.Disposition d) → IsIn d number → delivery_at d.role number (place_of session s) ≡ Some x → Known s → Says at G x.tag d.state
    told_sound session number d x s h w e k =
        let f = finds (place_of session s) d.role session number x (λ p i. k.places session p i) e in says session number d x.tag h w f.0 f.1

    pub known_closed : Closed Another Heard Known
    known_closed = record {
      place = λ x session s k. place_known session (on_place x) s (λ p h. step_place x session p h) k;
      enters = λ x session s h k. place_known session (numbers.entered x) s (λ p i. enters_place (link_at x.handle p.table) session x p h i) k;
      knows = λ session s k. entered_known (place_of session s) session s k;
      link = λ x m l s e k. linked_known m l (on_link x l) s e (step_link asking n at G x m l (k.links m l e)) k;
      asks = λ who place m l s q e k. asked_known who place m l s (λ f. absurd (q.1.0 f)) e k;
      settle = λ session number d x l s h w e f k.
          linked_known x.link l _ s f (disposition_link asking n at G x.link (record { delivery_id = number; delivery_tag = x.tag }) d.settled d.state l (λ i. told_sound session number d x s h w e k) (k.links x.link l f)) k;
      stands = λ who session settings handle s q k. record {
        untimed = k.untimed;
        alone = k.alone;
        places = k.places;
        links = insert_each (IsLink asking n at G) who s.endpoints (sender_asked who session settings handle)
            (record { side = λ e. new_side at who _ refl q.1.1 e; parting = refl; answers = tt; waiting = tt }) k.links;
        sends = k.sends;
        replies = k.replies;
      };
      sends = λ who m x l s q e k. kept_known who m (token_of x l.side) (with_link m (having_sent x l) s) (λ token f g. absurd (q.0 g)) (linked_known m l (having_sent x l) s e (sent_link asking n at G m x l (k.links m l e)) k);
      plain = λ who x s p k. answered_known who x s (plain_told asking n at G who x p) k;
      answers = λ who x s q k. answered_known who x s (λ e y f. absurd (q.1.0 e)) k;
      tells = λ m l s e k. (let i = k.links m l e in told_known l.answers (with_link m (answers_taken l) s) i.answers (linked_known m l (answers_taken l) s e (taken_link asking n at G m l i) k));
      concludes = λ m l s e k.
          (let i = concluded_link asking n at G m l (k.links m l e) in
          let c = hears.concluded l in
          told_known c.answers (with_link m (answers_taken c) s) i.answers (linked_known m l (answers_taken c) s e (taken_link asking n at G m c i) k));
      output = λ xs s k. record { untimed = k.untimed; alone = k.alone; places = k.places; links = k.links; sends = k.sends; replies = k.replies };
      moment = λ moment s k. record { untimed = k.untimed; alone = k.alone; places = k.places; links = k.links; sends = k.sends; replies = k.replies };
      quiet = λ s k. record { untimed = k.untimed; alone = k.alone; places = k.places; links = k.links; sends = k.sends; replies = tt };
      untimed = λ s k. k.untimed;
      none_timed = λ s k. record { untimed = refl; alone = k.alone; places = k.places; links = k.links; sends = k.sends; replies = k.replies };
      sender = λ m s k. receives_not (link_of m s) m (λ l e. (let i = k.links m l e in i.side));
      stays = λ m l s e k. (let i = k.links m l e in ap (λ (o : Option WaitingPart). is_parting o && parting.wants_handle (side.link_of l.side).phase) i.parting);
      accepts_none = λ session s k. accepts_not (place_of session s) (λ p e. (let i = k.places session p e in i.accepting));
      asked_alone = λ s k. k.alone;
    }
