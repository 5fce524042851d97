-- What a link stands for as it is made, and what the call that accepts it is told.
use Rattle.std.specs.Prelude.{◌≡◌, ℕ, Bool, true, false, zero, suc, slice_get, Contains, List, [], ◌∷◌, ◌++◌, Option, Some, None, Result, Ok, Err, refl}
use Rattle.std.proofs.Common.{sym, ◌∙◌, ap, subst}
use Rattle.std.proofs.lemmas.List.Elements.{All-nil, Contains-push}
use Rattle.amqp_composites.specs.declared.modes.Role.{Role}
use Rattle.amqp_composites.specs.declared.modes.Role.TheVariants as role
use Rattle.amqp_delivery.specs.declared.info.CreditMode.{CreditMode}
use Rattle.amqp_frames.specs.declared.body.FrameBody.{FrameBody}
use Rattle.amqp_frames.specs.declared.body.FrameBody.TheVariants as b
use Rattle.amqp_link.specs.declared.endpoint.AttachPoll.{AttachPoll}
use Rattle.amqp_link.specs.declared.endpoint.AttachPoll.TheVariants.{Pending, Done}
use Rattle.amqp_link.specs.declared.error.AttachError.{AttachError}
use Rattle.amqp_link.specs.declared.error.AttachFault.{AttachFault}
use Rattle.amqp_link.specs.declared.settings.AcceptSettings.{AcceptSettings}
use Rattle.amqp_link.specs.Accept.{echoed, accept_fault}
use Rattle.amqp_link.specs.Accept as accept
use Rattle.amqp_link.specs.Link.{Link, fresh, accepting, without_terminus, refused, size_of, polled}
use Rattle.amqp_link_calls.specs.Answering.{accept_told, accept_reply_for, accept_answered, accept_reply}
use Rattle.amqp_link_calls.specs.Called.{Called, begun, sender_asked, receiver_asked, answering_side, accepted, with_side}
use Rattle.amqp_link_calls.specs.Side as side
use Rattle.amqp_link_calls.specs.Side.{Side, Sender, Receiver, link_of, role_of, polled_answer}
use Rattle.amqp_link_words.specs.declared.link_call.LinkCall.TheVariants as call
use Rattle.amqp_link_words.specs.declared.link_reply.NamedLinkReply.{NamedLinkReply}
use Rattle.amqp_links.specs.Parts.{output_of}
use Rattle.amqp_parts.specs.Join.{Incomplete}
use Rattle.amqp_performatives.specs.declared.attach.Attach.{Attach}
use Rattle.amqp_receiver.specs.declared.settings.ReceiverSettings.{ReceiverSettings}
use Rattle.amqp_receiver.specs.Receiver as receiver
use Rattle.amqp_receiver.specs.declared.receiver.Incoming.{Incoming}
use Rattle.amqp_receiver.specs.Receiver.{State as ReceiverState}
use Rattle.amqp_receiver.specs.Regulating.{auto_accept_set}
use Rattle.amqp_sender.specs.declared.sender.Settlement.TheVariants.{Settled}
use Rattle.amqp_sender.specs.declared.settings.SenderSettings.{SenderSettings}
use Rattle.amqp_sender.specs.Sender as sender
use Rattle.link_answers.specs.Standing.{Given, Written, HasAttached, IsCallFor, IsAnswered, IsOn, Stands}
use Rattle.link_answers.specs.Keeping.{LinkStands, HasAsked, OutcomesStand, WaitStands, CalledStands}
use Rattle.link_answers.proofs.Answers.{attached_wider, PollStands, poll_stands, made_as, accept_error_as}
use Rattle.link_answers.proofs.Called.{Stays, polled_stays}
use Rattle.link_answers.proofs.Links.{under, under_both, wider_more, Turn, refused_turn}
use Rattle.link_answers.proofs.Joining.{none_waits}
use Rattle.link_answers.proofs.Receivers.{waits_of, opens_stays}
use Rattle.link_answers.proofs.Sides.{steps, waits_in}
use Rattle.link_answers.proofs.Waits.{link_waits}

none_at : {X : Type 0} → (i : ℕ) (z : X) → slice_get [] i ≡ Some z → ⊥
none_at zero z h = cc
none_at (suc i) z h = cc

module _ (g : Given) (n session : ℕ) where
  -- an Attach is out
  attach_out : (w : List Written) (x : Attach) (r : Role) → x.role ≡ r → HasAsked g n (IsCallFor session x.name r) → HasAttached g (w ++ (n, (session, b.Attach x)) ∷ []) n r
  attach_out w x r e a = record { call = a.0; asked = a.1.1; session = session; attach = x; is_for = a.1.0; in_role = e; out = Contains-push w (n, (session, b.Attach x)) }

  -- ---- this end attaches

  fresh_stands : (accepts verify : Bool) (size : ℕ) (own : Attach) (w : List Written) → LinkStands g w n (fresh accepts verify size own)
  fresh_stands accepts verify size own w = record {
    made = λ h. absurd cc;
    out = λ h. absurd cc;
    over = λ h. absurd cc;
    remote = λ d h. absurd cc;
    failure = λ e h. absurd cc;
    last = λ e h. absurd cc;
  }

  some_name : (name k : ℕ) → Some name ≡ Some k → k ≡ name
  some_name name k h = cc

  begun_stands : (s : Side) (w : List Written) (o : Option ℕ) → ((k : ℕ) → o ≡ Some k → k ≡ n) → HasAsked g n (IsCallFor session (link_of s).own.name (role_of s)) → HasAttached g w n (role_of s) → LinkStands g w n (link_of s) → OutcomesStand g w n s
      → CalledStands g w n (begun session s o)
  begun_stands s w o f asked own k outcomes = record {
    outcomes = outcomes;
    asked = asked;
    own = own;
    link = k;
    attaching = f;
    waiting = All-nil (λ (e : ℕ × ℕ). IsOn g.asked e.1 n);
    parting = λ p h. absurd cc;
    answers = All-nil (λ (r : NamedLinkReply). Stands g w r.name r.reply);
  }

  pub sender_asked_stands : (x : SenderSettings) (handle : ℕ) (w : List Written) → Contains g.asked (n, call.Sender session x) → CalledStands g (w ++ under n session (output_of (sender_asked n session x handle))) n (sender_asked n session x handle)
  sender_asked_stands x handle w a =
      let own = sender.own_of x handle in
      let v : List Written = w ++ (n, (session, b.Attach own)) ∷ [] in
      begun_stands (Sender (sender.asked x handle)) v (Some n) (λ k h. some_name n k h) (call.Sender session x, ((refl, (refl, refl)), a)) (attach_out w own role.Sender refl (call.Sender session x, ((refl, (refl, refl)), a))) (fresh_stands false x.verify 0 own v) (λ place y h. absurd (none_at place (Settled y) h))

  pub receiver_asked_stands : (x : ReceiverSettings) (handle : ℕ) (w : List Written) → Contains g.asked (n, call.Receiver session x) → CalledStands g (w ++ under n session (output_of (receiver_asked n session x handle))) n (receiver_asked n session x handle)
  receiver_asked_stands x handle w a =
      let own = receiver.own_of x handle in
      let v : List Written = w ++ (n, (session, b.Attach own)) ∷ [] in
      begun_stands (Receiver (receiver.asked x handle)) v (Some n) (λ k h. some_name n k h) (call.Receiver session x, ((refl, (refl, refl)), a)) (attach_out w own role.Receiver refl (call.Receiver session x, ((refl, (refl, refl)), a))) (fresh_stands false x.verify 0 own v) (none_waits g n g.read)

  -- ---- it answers an Attach of the peer

  -- a link that puts out its own Attach with what it says besides
  record Opens (r : Role) (l : Link) : Type 0 where
    own : (w : List Written) → HasAttached g (w ++ under n session l.output) n r
    stands : (w : List Written) → LinkStands g (w ++ under n session l.output) n l

  terminus_role : (r : Role) (x : Attach) → (without_terminus r x).role ≡ x.role
  terminus_role role.Sender x = refl
  terminus_role role.Receiver x = refl

  -- a link that goes on from one that has put out its Attach
  opens_then : (r : Role) (l m : Link) → Opens r l → Turn g n session l m → Opens r m
  opens_then r l m k t = record {
    own = λ w. subst (λ (v : List Written). HasAttached g v n r) (both w)
        (attached_wider g (w ++ under n session l.output) ((w ++ under n session l.output) ++ under n session t.more) n r (wider_more (w ++ under n session l.output) (under n session t.more)) (k.own w));
    stands = λ w. subst (λ (v : List Written). LinkStands g v n m) (both w) (t.stands (w ++ under n session l.output) (k.stands w));
  }
    where
      both : (w : List Written) → (w ++ under n session l.output) ++ under n session t.more ≡ w ++ under n session m.output
      both w = under_both n session w l.output t.more ∙ ap (λ (xs : List FrameBody). w ++ under n session xs) (sym t.output)

  fresh_opens : (size : ℕ) (own : Attach) (r : Role) → own.role ≡ r → HasAsked g n (IsCallFor session own.name r) → Opens r (fresh true true size own)
  fresh_opens size own r e c = record {
    own = λ w. attach_out w own r e c;
    stands = λ w. fresh_stands true true size own (w ++ (n, (session, b.Attach own)) ∷ []);
  }

  terminus_name : (r : Role) (x : Attach) → (without_terminus r x).name ≡ x.name
  terminus_name role.Sender x = refl
  terminus_name role.Receiver x = refl

  accepting_opens : (f : Option AttachFault) (size : ℕ) (own : Attach) (r : Role) → own.role ≡ r → HasAsked g n (IsCallFor session own.name r) → IsAnswered g n → Opens r (accepting f size own)
  accepting_opens None size own r e c a = record {
    own = λ w. attach_out w own r e c;
    stands = λ w. record { made = λ h. a; out = λ h. absurd cc; over = λ h. absurd cc; remote = λ d h. absurd cc; failure = λ x h. absurd cc; last = λ x h. absurd cc };
  }
  accepting_opens (Some x) size own r e c a =
      let l = fresh true true size (without_terminus own.role own) in
      opens_then r l (refused x l) (fresh_opens size (without_terminus own.role own) r (terminus_role own.role own ∙ e) (subst (λ (i : List ℕ). HasAsked g n (IsCallFor session i r)) (sym (terminus_name own.role own)) c)) (refused_turn g n session x l)

  -- the side that answers, of an end in that role
  record Answers (r : Role) (s : Side) : Type 0 where
    role : role_of s ≡ r
    opens : Opens r (link_of s)
    outcomes : (w : List Written) → OutcomesStand g w n s

  -- the call that accepts is for a link of any name and role
  abbrev Accepts : Type 0
  Accepts = (name : List ℕ) (r : Role) → HasAsked g n (IsCallFor session name r)

  receiver_none : (settings : AcceptSettings) (mode : CreditMode) (auto : Bool) (handle : ℕ) (x : Attach) → waits_of (auto_accept_set auto (receiver.accepted settings mode handle x)) ≡ ([], None)
  receiver_none settings mode auto handle x =
      let l = accept.accepted settings handle x in (opens_stays (Turn g n session) (steps g n session) l.is_made x.initial_delivery_count (receiver.fresh l mode false)).waits

  none_waits_as : (r : Role) (settings : AcceptSettings) (mode : CreditMode) (auto : Bool) (handle : ℕ) (x : Attach) → waits_in (answering_side r settings mode auto handle x) ≡ ([], None)
  none_waits_as role.Sender settings mode auto handle x = receiver_none settings mode auto handle x
  none_waits_as role.Receiver settings mode auto handle x = refl

  -- nothing waits at a link that was accepted
  pub accepted_waits : (settings : AcceptSettings) (mode : CreditMode) (auto : Bool) (handle : ℕ) (x : Attach) → waits_in (accepted session settings mode auto handle x).side ≡ ([], None)
  accepted_waits settings mode auto handle x = none_waits_as x.role settings mode auto handle x

  sender_answers : (settings : AcceptSettings) (handle : ℕ) (x : Attach) → Accepts → IsAnswered g n → Answers role.Sender (Sender (sender.accepted settings handle (record x { role = role.Receiver })))
  sender_answers settings handle x c a =
      let y : Attach = record x { role = role.Receiver } in
      record { role = refl; opens = accepting_opens (accept_fault settings y) (size_of y.max_message_size) (echoed settings handle y) role.Sender refl (c (echoed settings handle y).name role.Sender) a; outcomes = λ w place z h. absurd (none_at place (Settled z) h) }

  receiver_answers : (settings : AcceptSettings) (mode : CreditMode) (auto : Bool) (handle : ℕ) (x : Attach) → Accepts → IsAnswered g n
      → Answers role.Receiver (Receiver (auto_accept_set auto (receiver.accepted settings mode handle (record x { role = role.Sender }))))
  receiver_answers settings mode auto handle x c a =
      let y : Attach = record x { role = role.Sender } in
      let l = accept.accepted settings handle y in
      let s = receiver.fresh l mode false in
      record {
        role = refl;
        opens = opens_then role.Receiver l (receiver.accepted settings mode handle y).link (accepting_opens (accept_fault settings y) (size_of y.max_message_size) (echoed settings handle y) role.Receiver refl (c (echoed settings handle y).name role.Receiver) a)
            (opens_stays (Turn g n session) (steps g n session) l.is_made y.initial_delivery_count s).keeps;
        outcomes = λ w. subst (λ (z : List Incoming × Option Incomplete). WaitStands g n g.read z.0 z.1) (sym (opens_stays (Turn g n session) (steps g n session) l.is_made y.initial_delivery_count s).waits) (none_waits g n g.read);
      }

  answers_by : (r : Role) (settings : AcceptSettings) (mode : CreditMode) (auto : Bool) (handle : ℕ) (x : Attach) → Accepts → IsAnswered g n
      → (q : Role) × Answers q (answering_side r settings mode auto handle (record x { role = r }))
  answers_by role.Sender settings mode auto handle x c a = (role.Receiver, receiver_answers settings mode auto handle x c a)
  answers_by role.Receiver settings mode auto handle x c a = (role.Sender, sender_answers settings handle x c a)

  accepted_stands : (settings : AcceptSettings) (mode : CreditMode) (auto : Bool) (handle : ℕ) (x : Attach) (w : List Written) → Contains g.asked (n, call.Accept session settings mode auto) → IsAnswered g n
      → CalledStands g (w ++ under n session (output_of (accepted session settings mode auto handle x))) n (accepted session settings mode auto handle x)
  accepted_stands settings mode auto handle x w asked a =
      let k = answers_by x.role settings mode auto handle x (λ i r. (call.Accept session settings mode auto, (refl, asked))) a in
      let s = answering_side x.role settings mode auto handle x in
      begun_stands s (w ++ under n session (link_of s).output) None (λ i h. absurd cc) (call.Accept session settings mode auto, (refl, asked)) (subst (λ (r : Role). HasAttached g (w ++ under n session (link_of s).output) n r) (sym k.1.role) (k.1.opens.own w)) (k.1.opens.stands w) (k.1.outcomes (w ++ under n session (link_of s).output))

-- ---- the call that accepts a link is told at once

module _ (g : Given) (n : ℕ) where
  told_stands : (r : Result AttachPoll AttachError) (l : Called) (w : List Written) → CalledStands g w n l → CalledStands g w n (accept_told r l)
  told_stands (Ok Done) l w k = record { asked = k.asked; outcomes = k.outcomes; own = k.own; link = k.link; attaching = k.attaching; waiting = k.waiting; parting = k.parting; answers = k.answers }
  told_stands (Ok Pending) l w k = k
  told_stands (Err e) l w k = k

  pub told_side : (r : Result AttachPoll AttachError) (l : Called) → (accept_told r l).side ≡ l.side
  told_side (Ok Done) l = refl
  told_side (Ok Pending) l = refl
  told_side (Err e) l = refl

  told_session : (r : Result AttachPoll AttachError) (l : Called) → (accept_told r l).session ≡ l.session
  told_session (Ok Done) l = refl
  told_session (Ok Pending) l = refl
  told_session (Err e) l = refl

  -- the same waits at it
  pub answered_waits : (l : Called) → waits_in (accept_answered l).side ≡ waits_in l.side
  answered_waits l =
      let m = with_side (side.polled l.side) l in
      ap waits_in (told_side (polled_answer l.side) m) ∙ link_waits (polled (link_of l.side)).link l.side

  answered_stays : (l : Called) → Stays g n l (accept_answered l)
  answered_stays l =
      let m = with_side (side.polled l.side) l in
      let r = polled_answer l.side in
      let k = polled_stays g n l in
      record {
        session = told_session r m;
        output = ap (λ (a : Side). (link_of a).output) (told_side r m) ∙ k.output;
        stands = λ w h. told_stands r m w (k.stands w h);
      }

  reply_for : (r : Result AttachPoll AttachError) (s : Side) (w : List Written) → HasAttached g w n (role_of s) → PollStands g n r → Stands g w n (accept_reply_for r s)
  reply_for (Ok Pending) s w own k = tt
  reply_for (Ok Done) s w own k = made_as g n w n (role_of s) refl own k
  reply_for (Err e) s w own k = accept_error_as g n w n (role_of s) e refl k

  pub accept_reply_stands : (l : Called) (w : List Written) → CalledStands g w n l → Stands g w n (accept_reply l)
  accept_reply_stands l w k = reply_for (polled_answer l.side) l.side w k.own (poll_stands g n w (link_of l.side) k.link)

  -- a link that answers the peer's Attach, as it stands, and its answer
  pub record IsMet (session : ℕ) (l : Called) : Type 0 where
    pub on_session : (accept_answered l).session ≡ session
    pub stands : (w : List Written) → CalledStands g (w ++ under n session (output_of (accept_answered l))) n (accept_answered l)
    pub tells : (w : List Written) → Stands g (w ++ under n session (output_of (accept_answered l))) n (accept_reply l)

  pub is_met : (session : ℕ) (settings : AcceptSettings) (mode : CreditMode) (auto : Bool) (handle : ℕ) (x : Attach) → Contains g.asked (n, call.Accept session settings mode auto) → IsAnswered g n → IsMet session (accepted session settings mode auto handle x)
  is_met session settings mode auto handle x asked a =
      let l = accepted session settings mode auto handle x in
      let k = answered_stays l in
      let same = ap (λ (xs : List FrameBody). under n session xs) (sym k.output) in
      record {
        on_session = k.session;
        stands = λ w. k.stands (w ++ under n session (output_of (accept_answered l))) (subst (λ (v : List Written). CalledStands g (w ++ v) n l) same (accepted_stands g n session settings mode auto handle x w asked a));
        tells = λ w. subst (λ (v : List Written). Stands g (w ++ v) n (accept_reply l)) same (accept_reply_stands l (w ++ under n session (output_of l)) (accepted_stands g n session settings mode auto handle x w asked a));
      }
