-- What a link stands for behind a call, and what the answer does.
use Rattle.std.specs.Prelude.{◌≡◌, ◌⊎◌, ◌||◌, ◌&&◌, ℕ, nat_eq, nat_lt, Bool, true, false, not, length, is_some, Contains, List, ◌++◌, Option, Some, None, Result, Ok, Err, if◌then◌else◌, refl}
use Rattle.std.proofs.Common.{inl, inr, sym, ◌∙◌, ap, subst, append_assoc}
use Rattle.indexmap.specs.IndexMap.{swap_remove_entry}
use Rattle.amqp_composites.specs.declared.error.Error.{Error as AmqpError}
use Rattle.amqp_delivery.specs.declared.info.DeliveryInfo.{DeliveryInfo}
use Rattle.amqp_delivery.specs.declared.info.DisposerView.{DisposerView}
use Rattle.amqp_frames.specs.declared.body.FrameBody.{FrameBody}
use Rattle.amqp_frames.specs.declared.shared.SessionStopReason.{SessionStopReason}
use Rattle.amqp_link.specs.declared.endpoint.DetachPoll.{DetachPoll}
use Rattle.amqp_link.specs.declared.error.DetachError.TheVariants as detach
use Rattle.amqp_link.specs.declared.error.IllegalLinkStateError.{IllegalLinkStateError}
use Rattle.amqp_link.specs.declared.error.IllegalLinkStateError.TheVariants as illegal
use Rattle.amqp_link.specs.declared.error.LinkStateError.{LinkStateError}
use Rattle.amqp_link.specs.declared.error.LinkStateError.TheVariants as state
use Rattle.amqp_link.specs.Link as link
use Rattle.amqp_link.specs.Link.{Link}
use Rattle.amqp_link_calls.specs.declared.leave.Leaving.{Leaving}
use Rattle.amqp_link_calls.specs.declared.leave.Leaving.TheVariants.{Dropped}
use Rattle.amqp_link_calls.specs.declared.leave.PartKind.{PartKind}
use Rattle.amqp_link_calls.specs.declared.leave.PartKind.TheVariants as kind
use Rattle.amqp_link_calls.specs.declared.leave.WaitingPart.{WaitingPart}
use Rattle.amqp_link_calls.specs.Answering.{outcome_now, tells_of_stop, outcome_at, outcomes_answered}
use Rattle.amqp_link_calls.specs.Called.{Called, with_side, awaits_outcome}
use Rattle.amqp_link_calls.specs.Calling.{sends, sending_of, token_of, having_sent, awaiting, outcome_asked, outcome_given_up, IsUnreadable, TellsReceived, Receives, disposes, sets_credit}
use Rattle.amqp_link_calls.specs.Disposers.{disposes_by}
use Rattle.amqp_link_calls.specs.Leaving.{part_reply, known, closed_by, asked_part, detach_asked, error_for, credit_taken, closes, closed_unless, receiver_closed, closed_side, closed_at_once, close_asked, abandoned, leaves, awaits_part, part_given_up}
use Rattle.amqp_link_calls.specs.Regulating.{regulates}
use Rattle.amqp_link_calls.specs.Replies.{sent_reply, sent_token, is_pending, disposal_reply, credit_reply, error_of}
use Rattle.amqp_link_calls.specs.Side as side
use Rattle.amqp_link_calls.specs.Side.{Side, Sender, Receiver, link_of, role_of, is_stopped, polled_answer}
use Rattle.amqp_link_words.specs.declared.link_call.Disposal.{Disposal}
use Rattle.amqp_link_words.specs.declared.link_call.LinkCall.TheVariants as call
use Rattle.amqp_link_words.specs.declared.link_call.Parting.{Parting}
use Rattle.amqp_link_words.specs.declared.link_call.Parting.TheVariants as parting
use Rattle.amqp_link_words.specs.declared.link_call.Sendable.{Sendable}
use Rattle.amqp_link_words.specs.declared.link_reply.LinkReply.{LinkReply}
use Rattle.amqp_link_words.specs.declared.link_reply.LinkReply.TheVariants as reply
use Rattle.amqp_link_words.specs.declared.regulation.Regulation.{Regulation}
use Rattle.amqp_links.specs.Parts.{output_of}
use Rattle.amqp_messages.specs.Reading.{IsTheMessage, SpellsMessage}
use Rattle.amqp_parts.specs.Join.{Incomplete}
use Rattle.amqp_performatives.specs.declared.detach.Detach.{Detach}
use Rattle.amqp_receiver.specs.Receiver.{State as ReceiverState}
use Rattle.amqp_receiver.specs.declared.error.RecvError.{RecvError}
use Rattle.amqp_receiver.specs.declared.error.RecvError.TheVariants as recv
use Rattle.amqp_receiver.specs.declared.receiver.Incoming.{Incoming}
use Rattle.amqp_receiver.specs.Receiving.{Got, received}
use Rattle.amqp_sender.specs.declared.error.SendError.{SendError}
use Rattle.amqp_sender.specs.declared.error.SendError.TheVariants as send
use Rattle.amqp_sender.specs.declared.sender.DeliveryToken.{DeliveryToken}
use Rattle.amqp_sender.specs.declared.sender.SendReply.{SendReply}
use Rattle.amqp_sender.specs.declared.sender.SendReply.TheVariants as sent
use Rattle.amqp_sender.specs.Sender.{State as SenderState}
use Rattle.amqp_sender.specs.Sending.{Made, is_too_large, is_settled, sending_with, sending_unless, tells}
use Rattle.link_answers.specs.Standing.{Given, Written, Carries, IsOn, IsSent, PartFails, SendFails, RecvFails, Stands, AreParts}
use Rattle.link_answers.specs.Keeping.{LinkStands, IsOfKind, OutcomesStand, WaitStands, CalledStands}
use Rattle.link_answers.proofs.Answers.{answer_wider, PartStands, part_wider, parting_stands, RefusalStands, refusal_stands}
use Rattle.link_answers.proofs.Called.{Stays, Goes, stays_same, goes_stays, goes_then, side_goes, outcome_stands, outcomes_stays, detached_reply, closed_reply, known_stands}
use Rattle.link_answers.proofs.Entries.{all_inserted, all_gone}
use Rattle.link_answers.proofs.Links.{under, under_both, wider_more, Turn, parting_turn}
use Rattle.link_answers.proofs.Joining.{received_gives}
use Rattle.link_answers.proofs.Receiving.{received_fails}
use Rattle.link_answers.proofs.Receivers.{waits_of, gives}
use Rattle.link_answers.proofs.Sides.{said_written, Changes, sender_goes, receiver_turns, Sends, steps, sends_changes, abandoned_changes}

-- a call that sends this over the link
abbrev pub IsSending : Given → ℕ → ℕ → Sendable → Type 0
IsSending g name link x = Contains g.asked (name, call.Send link x) ⊎ ((timeout : ℕ) × Contains g.asked (name, call.SendTimed link x timeout))

pub sending_on : (g : Given) (name n : ℕ) (x : Sendable) → IsSending g name n x → IsOn g.asked name n
sending_on g name n x (inl k) = (call.Send n x, (k, refl))
sending_on g name n x (inr k) = (call.SendTimed n x k.0, (k.1, refl))

-- a call of that name is made on a link, which goes on, and is answered
pub record Tells (g : Given) (n : ℕ) (l m : Called) (name : ℕ) (r : LinkReply) : Type 0 where
  pub goes : Goes g n l m
  pub tells : (w : List Written) → CalledStands g w n l → Stands g (w ++ under n l.session goes.more) name r

module _ (g : Given) (n : ℕ) where
  -- ---- a call waits, or waits no more

  waits_stays : (c : Bool) (name place : ℕ) (l : Called) → IsOn g.asked name n → Stays g n l (awaiting c name place l)
  waits_stays true name place l on = record {
    session = refl;
    output = refl;
    stands = λ w k. record {
      asked = k.asked;
      outcomes = k.outcomes;
      own = k.own;
      link = k.link;
      attaching = k.attaching;
      waiting = all_inserted (λ (x : ℕ × ℕ). IsOn g.asked x.1 n) place name l.waiting on k.waiting;
      parting = k.parting;
      answers = k.answers;
    };
  }
  waits_stays false name place l on = stays_same g n l

  pub outcome_asked_stays : (name place : ℕ) (l : Called) → IsOn g.asked name n → Stays g n l (outcome_asked name place l)
  outcome_asked_stays name place l on = waits_stays (is_pending (outcome_now place l)) name place l on

  put_off_stands : (c : Bool) (name : ℕ) (x : LinkReply) (w : List Written) → Stands g w name x → Stands g w name (if c then reply.Pending else x)
  put_off_stands true name x w k = tt
  put_off_stands false name x w k = k

  pub outcome_now_stands : (name place : ℕ) (l : Called) (w : List Written) → IsOn g.asked name n → CalledStands g w n l → Stands g w name (outcome_now place l)
  outcome_now_stands name place l w on k =
      put_off_stands (not l.is_concluded && tells_of_stop (outcome_at place l.side)) name (outcome_at place l.side) w (outcome_stands g n name place l.side w on k.link k.outcomes)

  gives_up_if : (c : Bool) (place : ℕ) (l : Called) → Stays g n l (if c then record l { waiting = swap_remove_entry (nat_eq place) l.waiting } else l)
  gives_up_if true place l = record {
    session = refl;
    output = refl;
    stands = λ w k. record {
      asked = k.asked;
      outcomes = k.outcomes;
      own = k.own;
      link = k.link;
      attaching = k.attaching;
      waiting = all_gone (λ (x : ℕ × ℕ). IsOn g.asked x.1 n) (nat_eq place) l.waiting k.waiting;
      parting = k.parting;
      answers = k.answers;
    };
  }
  gives_up_if false place l = stays_same g n l

  pub outcome_given_up_stays : (name place : ℕ) (l : Called) → Stays g n l (outcome_given_up name place l)
  outcome_given_up_stays name place l = gives_up_if (awaits_outcome name place l) place l

  part_given_up_if : (c : Bool) (l : Called) → Stays g n l (if c then record l { parting = None } else l)
  part_given_up_if true l = record {
    session = refl;
    output = refl;
    stands = λ w k. record { asked = k.asked; outcomes = k.outcomes; own = k.own; link = k.link; attaching = k.attaching; waiting = k.waiting; parting = λ p h. absurd cc; answers = k.answers };
  }
  part_given_up_if false l = stays_same g n l

  pub part_given_up_stays : (name : ℕ) (l : Called) → Stays g n l (part_given_up name l)
  part_given_up_stays name l = part_given_up_if (awaits_part name l.parting) l

  -- ---- a link is left

  some_part : (p q : WaitingPart) → Some p ≡ Some q → p ≡ q
  some_part p q h = cc

  asked_part_stays : (c : Bool) (name : ℕ) (k : PartKind) (how : Parting) (l : Called) → IsOfKind k how → Contains g.asked (name, call.Part n how) → Stays g n l (asked_part c name k l)
  asked_part_stays true name k how l d a = record {
    session = refl;
    output = refl;
    stands = λ w h. record {
      asked = h.asked;
      outcomes = h.outcomes;
      own = h.own;
      link = h.link;
      attaching = h.attaching;
      waiting = h.waiting;
      parting = λ p e. subst (λ (q : WaitingPart). (x : Parting) × (IsOfKind q.kind x × Contains g.asked (q.name, call.Part n x))) (some_part (record { name = name; kind = k }) p e) (how, (d, a));
      answers = h.answers;
    };
  }
  asked_part_stays false name k how l d a = record {
    session = refl;
    output = refl;
    stands = λ w h. record { asked = h.asked; outcomes = h.outcomes; own = h.own; link = h.link; attaching = h.attaching; waiting = h.waiting; parting = h.parting; answers = h.answers };
  }

  -- a side is left: what it puts out, and what the call is told
  record Left (session : ℕ) (a c : Side) (r : DetachPoll) : Type 0 where
    changes : Changes g n session a c
    tells : (w : List Written) → LinkStands g w n (link_of a) → PartStands g n (w ++ under n session changes.turn.more) r

  parts_left : (session : ℕ) (closes : Bool) (x : Option AmqpError) (a : Side) → Left session a (side.parts closes x a).side (side.parts closes x a).answer
  parts_left session closes x (Sender s) =
      let t = parting_turn g n session closes x s.link in
      record { changes = sender_goes g n session s _ t refl; tells = λ w k. part_wider g n w (w ++ under n session t.more) _ (wider_more w (under n session t.more)) (parting_stands g n w closes x s.link k) }
  parts_left session closes x (Receiver s) =
      let t = parting_turn g n session closes x s.link in
      record { changes = receiver_turns g n session s _ t refl; tells = λ w k. part_wider g n w (w ++ under n session t.more) _ (wider_more w (under n session t.more)) (parting_stands g n w closes x s.link k) }

  error_stands : (e : IllegalLinkStateError) → PartFails g n (error_for e)
  error_stands (illegal.SessionStopped why) = tt
  error_stands other = tt

  -- a receiver that goes on before it is closed
  closes_left : (session : ℕ) (e : Option IllegalLinkStateError) (x : AmqpError) (s t : ReceiverState) → Turn g n session s.link t.link → waits_of t ≡ waits_of s
      → Left session (Receiver s) (Receiver (closed_unless e x t).state) (closed_unless e x t).answer
  closes_left session (Some e) x s t k i = record { changes = receiver_turns g n session s t k i; tells = λ w h. error_stands e }
  closes_left session None x s t k i =
      let p = parting_turn g n session true (Some x) t.link in
      record {
        changes = record {
          turn = record {
            name = p.name ∙ k.name;
            more = k.more ++ p.more;
            output = p.output ∙ (ap (λ (xs : List FrameBody). xs ++ p.more) k.output ∙ append_assoc s.link.output k.more p.more);
            stands = λ w h.
                subst (λ (v : List Written). LinkStands g v n (closes (Some x) t).state.link) (under_both n session w k.more p.more) (p.stands (w ++ under n session k.more) (k.stands w h));
          };
          role = refl;
          outcomes = λ w h. subst (λ (y : List Incoming × Option Incomplete). WaitStands g n g.read y.0 y.1) (sym i) h;
        };
        tells = λ w h. subst (λ (v : List Written). PartStands g n v (closes (Some x) t).answer) (under_both n session w k.more p.more)
            (part_wider g n (w ++ under n session k.more) ((w ++ under n session k.more) ++ under n session p.more) _ (wider_more (w ++ under n session k.more) (under n session p.more))
            (parting_stands g n (w ++ under n session k.more) true (Some x) t.link (k.stands w h)));
      }

  receiver_left : (session : ℕ) (x : Option AmqpError) (s : ReceiverState) → Left session (Receiver s) (Receiver (receiver_closed x s).state) (receiver_closed x s).answer
  receiver_left session None s =
      let t = parting_turn g n session true None s.link in
      record { changes = receiver_turns g n session s _ t refl; tells = λ w k. part_wider g n w (w ++ under n session t.more) _ (wider_more w (under n session t.more)) (parting_stands g n w true None s.link k) }
  receiver_left session (Some x) s = closes_left session (credit_taken s).answer x s (credit_taken s).state (gives (Turn g n session) (steps g n session) 0 s).keeps (gives (Turn g n session) (steps g n session) 0 s).waits

  closed_left : (session : ℕ) (x : Option AmqpError) (a : Side) → Left session a (closed_side x a).side (closed_side x a).answer
  closed_left session x (Sender s) = parts_left session true x (Sender s)
  closed_left session x (Receiver s) = receiver_left session x s

  -- behind what the side puts out nothing more is
  tells_then : (l m k : Called) (a : Goes g n l m) → Goes g n m k → (name : ℕ) (r : LinkReply) → ((w : List Written) → CalledStands g w n l → Stands g (w ++ under n l.session a.more) name r) → Tells g n l k name r
  tells_then l m k a c name r f =
      record {
        goes = record {
          session = c.session ∙ a.session;
          more = a.more ++ c.more;
          output = c.output ∙ (ap (λ (xs : List FrameBody). xs ++ c.more) a.output ∙ append_assoc (output_of l) a.more c.more);
          stands = λ w h.
              subst (λ (v : List Written). CalledStands g v n k) (under_both n l.session w a.more c.more)
              (subst (λ (i : ℕ). CalledStands g ((w ++ under n l.session a.more) ++ under n i c.more) n k) a.session (c.stands (w ++ under n l.session a.more) (a.stands w h)));
        };
        tells = λ w h. subst (λ (v : List Written). Stands g v name r) (under_both n l.session w a.more c.more)
            (answer_wider g (w ++ under n l.session a.more) ((w ++ under n l.session a.more) ++ under n l.session c.more) name r (wider_more (w ++ under n l.session a.more) (under n l.session c.more)) (f w h));
      }

  goes_left : (l : Called) (t : Side) (r : DetachPoll) (k : Left l.session l.side t r) → Goes g n l (with_side t l)
  goes_left l t r k = side_goes g n l t k.changes

  detach_tells : (name : ℕ) (error : Option (List ℕ)) (timeout : Option ℕ) (l : Called) → Contains g.asked (name, call.Part n (parting.Detach error timeout)) → Tells g n l (detach_asked name error l).called name (detach_asked name error l).reply
  detach_tells name error timeout l a =
      let x = side.parts false (error_of error) l.side in
      let k = parts_left l.session false (error_of error) l.side in
      let m = with_side x.side l in
      let r = part_reply false x.answer in
      let how : Parting = parting.Detach error timeout in
      tells_then l m (asked_part (is_pending r) name kind.Detach m) (side_goes g n l x.side k.changes) (goes_stays g n m _ (asked_part_stays (is_pending r) name kind.Detach how m tt a)) name r
      (λ w h. detached_reply g n name how (w ++ under n l.session k.changes.turn.more) x.answer tt a (k.tells w h.link))

  at_once_goes : (x : LinkReply) (l : Called) → Goes g n l (closed_at_once x l)
  at_once_goes reply.Closed l =
      let m = closed_by reply.Closed l in
      goes_then g n l m (outcomes_answered m) (side_goes g n l (side.abandoned l.side) (abandoned_changes g n l.session l.side)) (goes_stays g n m (outcomes_answered m) (outcomes_stays g n m))
  at_once_goes other l = goes_stays g n l l (stays_same g n l)

  close_tells : (name : ℕ) (error : Option (List ℕ)) (l : Called) → Contains g.asked (name, call.Part n (parting.Close error)) → Tells g n l (close_asked name error l).called name (close_asked name error l).reply
  close_tells name error l a =
      let x = closed_side (error_of error) l.side in
      let k = closed_left l.session (error_of error) l.side in
      let m = with_side x.side l in
      let r = part_reply true x.answer in
      let how : Parting = parting.Close error in
      let p = asked_part (is_pending r) name kind.Close m in
      tells_then l m (closed_at_once r p) (side_goes g n l x.side k.changes)
      (goes_then g n m p (closed_at_once r p) (goes_stays g n m p (asked_part_stays (is_pending r) name kind.Close how m tt a)) (at_once_goes r p)) name r
      (λ w h. closed_reply g n name how (w ++ under n l.session k.changes.turn.more) x.answer tt a (k.tells w h.link))

  dropped_stays : (l : Called) (how : Leaving) → Stays g n l (record l { leaving = how })
  dropped_stays l how = record {
    session = refl;
    output = refl;
    stands = λ w k. record { asked = k.asked; outcomes = k.outcomes; own = k.own; link = k.link; attaching = k.attaching; waiting = k.waiting; parting = k.parting; answers = k.answers };
  }

  abandoned_goes : (l : Called) → Goes g n l (abandoned l)
  abandoned_goes l =
      let m = with_side (side.abandoned l.side) l in
      let o : Called = record m { leaving = Dropped } in
      goes_then g n l m (abandoned l) (side_goes g n l (side.abandoned l.side) (abandoned_changes g n l.session l.side))
      (goes_then g n m o (abandoned l) (goes_stays g n m o (dropped_stays m Dropped)) (goes_stays g n o (abandoned l) (outcomes_stays g n o)))

  pub leaves_tells : (name : ℕ) (x : Parting) (l : Called) → Contains g.asked (name, call.Part n x) → Tells g n l (leaves name x l).called name (leaves name x l).reply
  leaves_tells name parting.OnDetach l a =
      let r = known kind.OnDetach l.side in
      let k = goes_stays g n l _ (asked_part_stays (is_pending r) name kind.OnDetach parting.OnDetach l tt a) in
      record { goes = k; tells = λ w h. answer_wider g w (w ++ under n l.session k.more) name r (wider_more w (under n l.session k.more)) (known_stands g n kind.OnDetach name parting.OnDetach l.side w tt a h.link) }
  leaves_tells name (parting.Detach error timeout) l a = detach_tells name error timeout l a
  leaves_tells name (parting.Close error) l a = close_tells name error l a
  leaves_tells name parting.Abandon l a = record { goes = abandoned_goes l; tells = λ w h. tt }

  -- ---- a message is sent

  -- why it is not
  abbrev SendStands : ℕ → Result SendReply SendError → Type 0
  SendStands name (Ok r) = Unit {0}
  SendStands name (Err e) = SendFails g name e

  with_credit : (name : ℕ) (c : Bool) (payload : List ℕ) (format : ℕ) (settled batchable : Bool) (s : SenderState) → SendStands name (sending_with c payload format settled batchable s).answer
  with_credit name true payload format settled batchable s = tt
  with_credit name false payload format settled batchable s = tt

  unless_detaching : (name : ℕ) (c : Bool) (payload : List ℕ) (format : ℕ) (settled batchable : Bool) (s : SenderState)
      → SendStands name (if c then tells (Err (send.Detached detach.IllegalState)) s else sending_with (nat_lt 0 s.credit) payload format settled batchable s).answer
  unless_detaching name true payload format settled batchable s = tt
  unless_detaching name false payload format settled batchable s = with_credit name (nat_lt 0 s.credit) payload format settled batchable s

  unless_refused : (name : ℕ) (o : Option LinkStateError) (payload : List ℕ) (format : ℕ) (settled batchable : Bool) (s : SenderState) → IsOn g.asked name n → RefusalStands g n o → SendStands name (sending_unless o payload format settled batchable s).answer
  unless_refused name (Some e) payload format settled batchable s on k = (n, (on, k))
  unless_refused name None payload format settled batchable s on k = unless_detaching name (link.is_detaching s.link.phase) payload format settled batchable s

  unless_large : (name : ℕ) (c : Bool) (payload : List ℕ) (format : ℕ) (settled batchable : Bool) (s : SenderState) → IsOn g.asked name n → RefusalStands g n (link.refusal s.link)
      → SendStands name (if c then tells (Err (send.MessageSizeExceeded (length payload) s.link.max_message_size)) s else sending_unless (link.refusal s.link) payload format settled batchable s).answer
  unless_large name true payload format settled batchable s on k = tt
  unless_large name false payload format settled batchable s on k = unless_refused name (link.refusal s.link) payload format settled batchable s on k

  send_stands : (name : ℕ) (x : Sendable) (s : SenderState) (w : List Written) → IsOn g.asked name n → LinkStands g w n s.link → SendStands name (sending_of x s).answer
  send_stands name x s w on k =
      unless_large name (is_too_large (length x.payload) s.link.max_message_size) x.payload 0 (is_settled s.link.own.snd_settle_mode x.settled) x.batchable s on (refusal_stands g n w s.link k)

  reply_stands : (name : ℕ) (r : Result SendReply SendError) (w : List Written) → SendStands name r → ((token : DeliveryToken) → sent_token r ≡ Some token → IsSent g w name) → Stands g w name (sent_reply r)
  reply_stands name (Ok (sent.Sent token)) w k f = f token refl
  reply_stands name (Ok sent.Pending) w k f = tt
  reply_stands name (Err e) w k f = k

  -- a message is sent over the link
  pub record Sending (name : ℕ) (x : Sendable) (l : Called) : Type 0 where
    pub goes : Goes g n l (having_sent x l)
    pub sent : (w : List Written) (token : DeliveryToken) → token_of x l.side ≡ Some token → Stands g (w ++ under n l.session goes.more) name reply.Sent
    pub tells : (w : List Written) → CalledStands g w n l → Stands g (w ++ under n l.session goes.more) name (sends x l.side).reply

  module _ (name : ℕ) (x : Sendable) (asked : IsSending g name n x) where
    sends_stand : (a : Side) (session : ℕ) (w : List Written) (k : Sends g n session x a) → LinkStands g w n (link_of a) → Stands g (w ++ under n session k.changes.turn.more) name (sends x a).reply
    sends_stand (Sender s) session w k h =
        reply_stands name (sending_of x s).answer (w ++ under n session k.changes.turn.more) (send_stands name x s w (sending_on g name n x asked) h)
        (λ token e. record { link = n; message = x; asked = asked; own = said_written (Carries x.payload) n session w k.changes.turn.more (k.carries token e) })
    sends_stand (Receiver s) session w k h = (n, (sending_on g name n x asked, tt))

    pub sending_goes : (l : Called) → Sending name x l
    sending_goes l =
        let k = sends_changes g n l.session x l.side in
        record {
          goes = side_goes g n l (sends x l.side).side k.changes;
          sent = λ w token e. record { link = n; message = x; asked = asked; own = said_written (Carries x.payload) n l.session w k.changes.turn.more (k.carries token e) };
          tells = λ w h. sends_stand l.side l.session w k h.link;
        }

  -- ---- no message is sent once the session has stopped

  stops : (c : Bool) (o : Option Detach) (stop : Option SessionStopReason) (d : Bool) → is_some stop ≡ true
      → (e : LinkStateError) × ((if c then Some state.IllegalState else link.or_else (link.ended_by o stop) (if d then None else Some state.IllegalState)) ≡ Some e)
  stops true o stop d h = (state.IllegalState, refl)
  stops false (Some x) stop d h = (_, refl)
  stops false None (Some why) d h = (_, refl)
  stops false None None d h = absurd cc

  -- it is refused, and nothing changes
  record IsRefused (s : SenderState) (m : Made) : Type 0 where
    state : m.state ≡ s
    answer : (token : DeliveryToken) → m.answer ≡ Ok (sent.Sent token) → ⊥

  refused_by : (o : Option LinkStateError) (e : LinkStateError) (payload : List ℕ) (format : ℕ) (settled batchable : Bool) (s : SenderState) → o ≡ Some e → IsRefused s (sending_unless o payload format settled batchable s)
  refused_by None e payload format settled batchable s h = absurd cc
  refused_by (Some x) e payload format settled batchable s h = record { state = refl; answer = λ token f. absurd cc }

  refused_if : (c : Bool) (o : Option LinkStateError) (e : LinkStateError) (payload : List ℕ) (format : ℕ) (settled batchable : Bool) (s : SenderState) → o ≡ Some e
      → IsRefused s (if c then tells (Err (send.MessageSizeExceeded (length payload) s.link.max_message_size)) s else sending_unless o payload format settled batchable s)
  refused_if true o e payload format settled batchable s h = record { state = refl; answer = λ token f. absurd cc }
  refused_if false o e payload format settled batchable s h = refused_by o e payload format settled batchable s h

  refuses : (x : Sendable) (s : SenderState) → is_some s.link.stop_reason ≡ true → IsRefused s (sending_of x s)
  refuses x s h =
      let k = stops s.link.is_closed s.link.remote s.link.stop_reason (link.is_attached s.link.phase || link.is_detaching s.link.phase) h in
      refused_if (is_too_large (length x.payload) s.link.max_message_size) (link.refusal s.link) k.0 x.payload 0 (is_settled s.link.own.snd_settle_mode x.settled) x.batchable s k.1

  not_sent : (r : Result SendReply SendError) → ((token : DeliveryToken) → r ≡ Ok (sent.Sent token) → ⊥) → sent_token r ≡ None
  not_sent (Ok (sent.Sent token)) f = absurd (f token refl)
  not_sent (Ok sent.Pending) f = refl
  not_sent (Err e) f = refl

  pub stopped_side : (x : Sendable) (a : Side) → is_stopped a ≡ true → (sends x a).side ≡ a
  stopped_side x (Sender s) h = ap Sender (refuses x s h).state
  stopped_side x (Receiver s) h = refl

  pub stopped_token : (x : Sendable) (a : Side) → is_stopped a ≡ true → token_of x a ≡ None
  stopped_token x (Sender s) h = not_sent (sending_of x s).answer (refuses x s h).answer
  stopped_token x (Receiver s) h = refl

  -- and its answer says why
  pub stopped_stands : (name : ℕ) (x : Sendable) (a : Side) (w v : List Written) → IsSending g name n x → is_stopped a ≡ true → LinkStands g w n (link_of a) → Stands g v name (sends x a).reply
  stopped_stands name x (Sender s) w v asked h k =
      reply_stands name (sending_of x s).answer v (send_stands name x s w (sending_on g name n x asked) k) (λ token e. absurd (never token (sym (stopped_token x (Sender s) h) ∙ e)))
    where
      never : (token : DeliveryToken) → None ≡ Some token → ⊥
      never token e = cc
  stopped_stands name x (Receiver s) w v asked h k = (n, (sending_on g name n x asked, tt))

  -- ---- other calls

  -- why nothing is received
  told_received : (name : ℕ) (answer : LinkReply) (s : ReceiverState) (w v : List Written) → IsOn g.asked name n → LinkStands g v n s.link → WaitStands g n g.read s.incoming s.buffer → TellsReceived answer (received s) → Stands g w name answer
  told_received name reply.Pending s w v on k i h = tt
  told_received name (reply.Delivery info message) s w v on k i h =
      let x = received_gives g n g.read s h.0 i h.1.0 in (
        n,
        (
          on,
          record {
            parts = x.parts;
            handed = x.handed;
            whole = subst (λ (z : DeliveryInfo). AreParts false z x.parts) (sym h.1.1) x.whole;
            spelled = subst (λ (z : List ℕ). IsTheMessage (Ok message.value) (SpellsMessage z)) x.bytes h.1.2;
          },
        ),
      )
  told_received name (reply.RecvError e) s w v on k i h = by e h
    where
      by : (e : RecvError) → ((received s).answer ≡ Some (Err e)) ⊎ ((x : Got) × (((received s).answer ≡ Some (Ok x)) × IsUnreadable e x)) → RecvFails g name e
      by (recv.LinkStateError x) (inl i) = (n, (on, received_fails g n v s x k i))
      by (recv.LinkStateError x) (inr i) = absurd i.1.1
      by other i = tt
  told_received name other s w v on k i h = absurd h

  pub received_stands : (answer : LinkReply) (a : Side) (w v : List Written) (name : ℕ) → IsOn g.asked name n → LinkStands g v n (link_of a) → OutcomesStand g v n a → Receives answer a → Stands g w name answer
  received_stands answer (Sender s) w v name on k i h = subst (λ (r : LinkReply). Stands g w name r) (sym h) (n, (on, tt))
  received_stands answer (Receiver s) w v name on k i h = told_received name answer s w v on k i h

  disposal_stands : (o : Option IllegalLinkStateError) (w : List Written) (name : ℕ) → Stands g w name (disposal_reply o)
  disposal_stands None w name = tt
  disposal_stands (Some e) w name = tt

  credit_stands : (o : Option IllegalLinkStateError) (w : List Written) (name : ℕ) → Stands g w name (credit_reply o)
  credit_stands None w name = tt
  credit_stands (Some e) w name = tt

  pub disposes_stands : (x : Disposal) (infos : List DeliveryInfo) (a : Side) (w : List Written) (name : ℕ) → Stands g w name (disposes x infos a).reply
  disposes_stands x infos (Sender s) w name = tt
  disposes_stands x infos (Receiver s) w name = disposal_stands _ w name

  pub disposes_by_stands : (view : DisposerView) (x : Disposal) (infos : List DeliveryInfo) (a : Side) (w : List Written) (name : ℕ) → Stands g w name (disposes_by view x infos a).reply
  disposes_by_stands view x infos (Sender s) w name = tt
  disposes_by_stands view x infos (Receiver s) w name = disposal_stands _ w name

  pub sets_credit_stands : (credit : ℕ) (a : Side) (w : List Written) (name : ℕ) → Stands g w name (sets_credit credit a).reply
  sets_credit_stands credit (Sender s) w name = tt
  sets_credit_stands credit (Receiver s) w name = credit_stands _ w name

  pub regulates_stands : (x : Regulation) (a : Side) (w : List Written) (name : ℕ) → Stands g w name (regulates x a).reply
  regulates_stands x (Sender s) w name = tt
  regulates_stands x (Receiver s) w name = credit_stands _ w name
