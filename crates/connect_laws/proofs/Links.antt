-- What a link with its calls knows of a message, and tells of it.
use Rattle.std.specs.Prelude.{◌≡◌, ℕ, nat_eq, Bool, true, false, not, ◌||◌, cond, List, [], ◌∷◌, map, Option, Some, None, Result, Ok, Err, if◌then◌else◌, refl}
use Rattle.std.proofs.Common.{sym, subst}
use Rattle.std.specs.Map.{lookup}
use Rattle.std.proofs.lemmas.Bool.{eqb-true}
use Rattle.indexmap.specs.IndexMap.{swap_remove_entry}
use Rattle.amqp_termini.specs.declared.outcome.Outcome.{Outcome}
use Rattle.amqp_termini.specs.declared.state.DeliveryState.{DeliveryState}
use Rattle.amqp_composites.specs.declared.modes.Role.{Role}
use Rattle.amqp_composites.specs.declared.modes.Role.TheVariants as role
use Rattle.amqp_frames.specs.declared.shared.CoveredDelivery.{CoveredDelivery}
use Rattle.amqp_link.specs.declared.endpoint.AttachPoll.{AttachPoll}
use Rattle.amqp_link.specs.declared.endpoint.AttachPoll.TheVariants as poll
use Rattle.amqp_link.specs.declared.error.AttachError.{AttachError}
use Rattle.amqp_link.specs.Link as link
use Rattle.amqp_link.specs.Link.{Link}
use Rattle.amqp_link_calls.specs.declared.leave.WaitingPart.{WaitingPart}
use Rattle.amqp_performatives.specs.declared.detach.Detach.{Detach}
use Rattle.amqp_performatives.specs.declared.flow.Flow.{Flow}
use Rattle.amqp_performatives.specs.declared.transfer.Transfer.{Transfer}
use Rattle.amqp_link_calls.specs.Answering.{attach_told, attach_answered_to, attach_answered, attach_answered_now, outcome_at, outcome_now, outcome_answered_to, told_by, outcomes_answered, outcomes_answered_now, answers_taken}
use Rattle.amqp_link_calls.specs.Called.{Called, with_side, answering}
use Rattle.amqp_link_calls.specs.Calling.{sends, having_sent, awaiting, outcome_asked}
use Rattle.amqp_link_calls.specs.Hearing as hears
use Rattle.amqp_link_calls.specs.Leaving.{part_answered_to, part_answered, part_answered_now}
use Rattle.amqp_link_calls.specs.Replies.{made_reply, attach_error, is_pending}
use Rattle.amqp_link_calls.specs.Side as side
use Rattle.amqp_link_calls.specs.Side.{Side, Sender, Receiver, role_of, is_stopped, is_closed_by_both, polled_answer}
use Rattle.amqp_link_words.specs.declared.link_call.Sendable.{Sendable}
use Rattle.amqp_link_words.specs.declared.link_reply.LinkReply.{LinkReply}
use Rattle.amqp_link_words.specs.declared.link_reply.LinkReply.TheVariants as reply
use Rattle.amqp_link_words.specs.declared.link_reply.NamedLinkReply.{NamedLinkReply}
use Rattle.amqp_performatives.specs.declared.attach.Attach.{Attach}
use Rattle.amqp_sender.specs.Settling as settling
use Rattle.amqp_session.specs.declared.session.LinkInput.{LinkInput}
use Rattle.amqp_session.specs.declared.session.LinkInput.TheVariants as input
use Rattle.amqp_links.specs.Parts.{heard, disposition_heard}
use Rattle.session_laws.proofs.Lists.{Each, each_both, each_removed, each_inserted}
use Rattle.connect_laws.proofs.Sides.{Where, SideKnows, Says, linked_knows, flow_knows, sending_knows, disposition_knows, outcome_known}
use Rattle.connect_laws.proofs.Steps.{LinkStep, empties, hears_attach, hears_frame, hears_stop, on_link, IsPlain}

-- the call of that name asks for the outcome of the message at that place of that link
module _ (asking n : ℕ) (at : Option Where) (G : Outcome → Type 0) where
  -- an outcome that the call is told is so
  abbrev pub IsTold : ℕ → LinkReply → Type 0
  IsTold name x = name ≡ asking → (y : Outcome) → x ≡ reply.Outcome y → G y

  abbrev pub AnswerTold : NamedLinkReply → Type 0
  AnswerTold r = IsTold r.name r.reply

  -- the call waits for that place alone
  abbrev pub WaitsAt : Option Where → ℕ → ℕ → Type 0
  WaitsAt None m place = ⊥
  WaitsAt (Some w) m place = (m ≡ n) × (place ≡ w.place)

  abbrev pub Waits : ℕ → ℕ × ℕ → Type 0
  Waits m e = e.1 ≡ asking → WaitsAt at m e.0

  -- a sender that no call leaves
  abbrev pub LinkSide : ℕ → Side → Type 0
  LinkSide m (Sender t) = m ≡ n → SideKnows at G (Sender t)
  LinkSide m (Receiver t) = ⊥

  pub record IsLink (m : ℕ) (l : Called) : Type 0 where
    pub side : LinkSide m l.side
    pub parting : l.parting ≡ None
    pub answers : Each AnswerTold l.answers
    pub waiting : Each (Waits m) l.waiting

  -- ---- steps of the sender

  linked_side : (m : ℕ) (l : Link) (a : Side) → LinkSide m a → LinkSide m (side.with_link l a)
  linked_side m l (Sender t) k = λ e. linked_knows at G l (Sender t) (k e)
  linked_side m l (Receiver t) k = absurd k

  attach_side : (m : ℕ) (x : Attach) (a : Side) → LinkSide m a → LinkSide m (side.attach_read x a)
  attach_side m x (Sender t) k = λ e. linked_knows at G (link.attach_read x t.link) (Sender t) (k e)
  attach_side m x (Receiver t) k = absurd k

  flow_side : (m : ℕ) (x : Flow) (a : Side) → LinkSide m a → LinkSide m (side.flow_read x a)
  flow_side m x (Sender t) k = λ e. flow_knows at G x (Sender t) (k e)
  flow_side m x (Receiver t) k = absurd k

  transfer_side : (m : ℕ) (x : Transfer) (payload : List ℕ) (a : Side) → LinkSide m a → LinkSide m (side.transfer_read x payload a)
  transfer_side m x payload (Sender t) k = λ e. linked_knows at G (link.unexpected t.link) (Sender t) (k e)
  transfer_side m x payload (Receiver t) k = absurd k

  sends_side : (m : ℕ) (x : Sendable) (a : Side) → LinkSide m a → LinkSide m (sends x a).side
  sends_side m x (Sender t) k = λ e. sending_knows at G x (Sender t) (k e)
  sends_side m x (Receiver t) k = absurd k

  sided : (m : ℕ) (a : Side) (l : Called) → LinkSide m a → IsLink m l → IsLink m (with_side a l)
  sided m a l s k = record { side = s; parting = k.parting; answers = k.answers; waiting = k.waiting }

  -- ---- answers

  -- what is known of an outcome is told so
  pub outcome_told : (m place who : ℕ) (a : Side) → LinkSide m a → Waits m (place, who) → IsTold who (outcome_at place a)
  outcome_told m place who a s w = λ e y h. by at refl a s (w e) y h
    where
      by : (o : Option Where) → at ≡ o → (b : Side) → LinkSide m b → WaitsAt o m place → (y : Outcome) → outcome_at place b ≡ reply.Outcome y → G y
      by None f b t v y h = absurd v
      by (Some w) f (Sender t) k v y h = outcome_known at G w (Sender t) y f (k v.0) (subst (λ (i : ℕ). outcome_at i (Sender t) ≡ reply.Outcome y) v.1 h)
      by (Some w) f (Receiver t) k v y h = absurd k

  pub plain_told : (name : ℕ) (x : LinkReply) → IsPlain x → IsTold name x
  plain_told name (reply.Outcome y) p = absurd p
  plain_told name other p = λ e y h. absurd cc

  answered : (m name : ℕ) (x : LinkReply) (l : Called) → IsTold name x → IsLink m l → IsLink m (answering name x l)
  answered m name x l t k = record {
    side = k.side;
    parting = k.parting;
    answers = each_both AnswerTold l.answers (record { name = name; reply = x } ∷ []) k.answers (t, tt);
    waiting = k.waiting;
  }

  made_plain : (r : Role) → IsPlain (made_reply r)
  made_plain role.Sender = tt
  made_plain role.Receiver = tt

  error_plain : (r : Role) (e : AttachError) → IsPlain (attach_error r e)
  error_plain role.Sender e = tt
  error_plain role.Receiver e = tt

  attach_told_link : (m : ℕ) (x : Result AttachPoll AttachError) (name : ℕ) (l : Called) → IsLink m l → IsLink m (attach_told x name l)
  attach_told_link m (Ok poll.Pending) name l k = k
  attach_told_link m (Ok poll.Done) name l k =
      answered m name (made_reply (role_of l.side)) (record l { attaching = None; is_made = true }) (plain_told name (made_reply (role_of l.side)) (made_plain (role_of l.side)))
      (record { side = k.side; parting = k.parting; answers = k.answers; waiting = k.waiting })
  attach_told_link m (Err e) name l k =
      answered m name (attach_error (role_of l.side) e) (record l { attaching = None }) (plain_told name (attach_error (role_of l.side) e) (error_plain (role_of l.side) e))
      (record { side = k.side; parting = k.parting; answers = k.answers; waiting = k.waiting })

  attach_answered_link : (m : ℕ) (o : Option ℕ) (l : Called) → IsLink m l → IsLink m (attach_answered_to o l)
  attach_answered_link m None l k = k
  attach_answered_link m (Some name) l k =
      attach_told_link m (polled_answer l.side) name (with_side (side.polled l.side) l) (sided m (side.polled l.side) l (linked_side m (link.polled (side.link_of l.side)).link l.side k.side) k)

  either : {X : Type 0} (J : X → Type 0) (b : Bool) (x y : X) → J x → J y → J (if b then x else y)
  either J true x y p q = p
  either J false x y p q = q

  attach_now_link : (m : ℕ) (l : Called) → IsLink m l → IsLink m (attach_answered_now l)
  attach_now_link m l k = either (IsLink m) (is_stopped l.side) l (attach_answered l) k (attach_answered_link m l.attaching l k)

  part_answered_link : (m : ℕ) (l : Called) → IsLink m l → IsLink m (part_answered l)
  part_answered_link m l k = subst (λ (o : Option WaitingPart). IsLink m (part_answered_to o l)) (sym k.parting) k

  part_now_link : (m : ℕ) (l : Called) → IsLink m l → IsLink m (part_answered_now l)
  part_now_link m l k = either (IsLink m) (is_stopped l.side) l (part_answered l) k (part_answered_link m l k)

  all_told : (m : ℕ) (a : Side) (ws : List (ℕ × ℕ)) → LinkSide m a → Each (Waits m) ws → Each AnswerTold (map (told_by a) ws)
  all_told m a [] s w = tt
  all_told m a (e ∷ es) s w = (outcome_told m e.0 e.1 a s w.0, all_told m a es s w.1)

  outcomes_link : (m : ℕ) (l : Called) → IsLink m l → IsLink m (outcomes_answered l)
  outcomes_link m l k = record {
    side = k.side;
    parting = k.parting;
    answers = each_both AnswerTold l.answers (map (told_by l.side) l.waiting) k.answers (all_told m l.side l.waiting k.side k.waiting);
    waiting = tt;
  }

  outcomes_now_link : (m : ℕ) (l : Called) → IsLink m l → IsLink m (outcomes_answered_now l)
  outcomes_now_link m l k = either (IsLink m) (is_stopped l.side || not (is_closed_by_both l.side)) l (outcomes_answered l) k (outcomes_link m l k)

  waiting_found : (m place name : ℕ) (ws : List (ℕ × ℕ)) → Each (Waits m) ws → lookup (nat_eq place) ws ≡ Some name → Waits m (place, name)
  waiting_found m place name [] k h = absurd cc
  waiting_found m place name (e ∷ es) k h = by (nat_eq place e.0) refl h (waiting_found m place name es k.1)
    where
      by : (c : Bool) → nat_eq place e.0 ≡ c → cond c (Some e.1) (lookup (nat_eq place) es) ≡ Some name → (lookup (nat_eq place) es ≡ Some name → Waits m (place, name)) → Waits m (place, name)
      by true f g r =
          let s : e.1 ≡ name = cc in
          subst (λ (i : ℕ). Waits m (i, name)) (sym (eqb-true place e.0 f)) (subst (λ (i : ℕ). Waits m (e.0, i)) s k.0)
      by false f g r = r g

  outcome_link_at : (m place : ℕ) (o : Option ℕ) (l : Called) → lookup (nat_eq place) l.waiting ≡ o → IsLink m l → IsLink m (outcome_answered_to o place l)
  outcome_link_at m place None l e k = k
  outcome_link_at m place (Some name) l e k =
      answered m name (outcome_at place l.side) (record l { waiting = swap_remove_entry (nat_eq place) l.waiting }) (outcome_told m place name l.side k.side (waiting_found m place name l.waiting k.waiting e))
      (record { side = k.side; parting = k.parting; answers = k.answers; waiting = each_removed (Waits m) (nat_eq place) l.waiting k.waiting })

  done_link : (m : ℕ) (o : Option ℕ) (b : Bool) (l : Called) → IsLink m l → IsLink m (hears.done_answered o b l)
  done_link m (Some place) true l k = outcome_link_at m place (lookup (nat_eq place) l.waiting) l refl k
  done_link m (Some place) false l k = k
  done_link m None true l k = k
  done_link m None false l k = k

  -- ---- what a link hears

  pub attach_link : (m : ℕ) (x : Attach) (l : Called) → IsLink m l → IsLink m (hears.attach_read x l)
  attach_link m x l k = attach_now_link m (with_side (side.attach_read x l.side) l) (sided m (side.attach_read x l.side) l (attach_side m x l.side k.side) k)

  detach_link : (m : ℕ) (d : Detach) (l : Called) → IsLink m l → IsLink m (hears.detach_read d l)
  detach_link m d l k =
      let a = with_side (side.detach_read d l.side) l in
      let b = attach_answered_now a in
      outcomes_now_link m (part_answered_now b) (part_now_link m b (attach_now_link m a (sided m (side.detach_read d l.side) l (linked_side m (link.detach_read d (side.link_of l.side)) l.side k.side) k)))

  frame_link : (m : ℕ) (x : LinkInput) (l : Called) → IsLink m l → IsLink m (heard x l)
  frame_link m (input.Flow x) l k = sided m (side.flow_read x l.side) l (flow_side m x l.side k.side) k
  frame_link m (input.Transfer x payload) l k = sided m (side.transfer_read x payload l.side) l (transfer_side m x payload l.side k.side) k
  frame_link m (input.Detach x) l k = detach_link m x l k
  frame_link m other l k = k

  pub step_link : (x : LinkStep) (m : ℕ) (l : Called) → IsLink m l → IsLink m (on_link x l)
  step_link empties m l k = sided m _ l (linked_side m (record (side.link_of l.side) { output = [] }) l.side k.side) k
  step_link (hears_attach x) m l k = attach_link m x l k
  step_link (hears_frame x) m l k = frame_link m x l k
  step_link (hears_stop why) m l k = sided m (side.stopped why l.side) l (linked_side m (link.stopped why (side.link_of l.side)) l.side k.side) k

  pub concluded_link : (m : ℕ) (l : Called) → IsLink m l → IsLink m (hears.concluded l)
  concluded_link m l k =
      let a : Called = record l { is_concluded = true } in
      let b = attach_answered a in
      outcomes_link m (part_answered b) (part_answered_link m b (attach_answered_link m a.attaching a (record { side = k.side; parting = k.parting; answers = k.answers; waiting = k.waiting })))

  disposition_link_at : (m : ℕ) (a : Side) (covered : CoveredDelivery) (c : Bool) (d : Option DeliveryState) (l : Called) → l.side ≡ a → (m ≡ n → Says at G covered.delivery_tag d) → IsLink m l
      → IsLink m (hears.disposition_at a covered c d l)
  disposition_link_at m (Sender t) covered c d l e h k =
      let u = settling.disposition_read covered c d t in
      let place = settling.place_of covered.delivery_tag t in
      let s : LinkSide m (Sender t) = subst (λ (b : Side). LinkSide m b) e k.side in
      done_link m place (hears.is_done place u) (with_side (Sender u) l) (sided m (Sender u) l (λ f. disposition_knows at G covered c d t (h f) (s f)) k)
  disposition_link_at m (Receiver t) covered c d l e h k = (let s : LinkSide m (Receiver t) = subst (λ (b : Side). LinkSide m b) e k.side in absurd s)

  pub disposition_link : (m : ℕ) (covered : CoveredDelivery) (c : Bool) (d : Option DeliveryState) (l : Called) → (m ≡ n → Says at G covered.delivery_tag d) → IsLink m l → IsLink m (disposition_heard covered c d l)
  disposition_link m covered c d l h k = either (IsLink m) _ (hears.disposition_read covered c d l) l (disposition_link_at m l.side covered c d l refl h k) k

  -- ---- calls

  pub sent_link : (m : ℕ) (x : Sendable) (l : Called) → IsLink m l → IsLink m (having_sent x l)
  sent_link m x l k = sided m (sends x l.side).side l (sends_side m x l.side k.side) k

  awaiting_link : (m : ℕ) (b : Bool) (name place : ℕ) (l : Called) → Waits m (place, name) → IsLink m l → IsLink m (awaiting b name place l)
  awaiting_link m true name place l w k = record {
    side = k.side;
    parting = k.parting;
    answers = k.answers;
    waiting = each_inserted (Waits m) nat_eq l.waiting place name w (λ x e. subst (λ (i : ℕ). Waits m (i, name)) (eqb-true place x e) w) k.waiting;
  }
  awaiting_link m false name place l w k = k

  pub asked_link : (m name place : ℕ) (l : Called) → Waits m (place, name) → IsLink m l → IsLink m (outcome_asked name place l)
  asked_link m name place l w k = awaiting_link m (is_pending (outcome_now place l)) name place l w k

  pub taken_link : (m : ℕ) (l : Called) → IsLink m l → IsLink m (answers_taken l)
  taken_link m l k = record { side = k.side; parting = k.parting; answers = tt; waiting = k.waiting }
