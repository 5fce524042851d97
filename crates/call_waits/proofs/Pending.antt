-- What is told where nothing is known yet: only then is an answer `Pending`.
use Rattle.std.specs.Prelude.{◌≡◌, ℕ, Bool, true, false, ◌||◌, is_some, slice_get, Option, Some, None, Ok, Err, if◌then◌else◌, refl}
use Rattle.std.proofs.Common.{sym, ◌∙◌, ap}
use Rattle.amqp_composites.specs.declared.error.Error.{Error as AmqpError}
use Rattle.amqp_performatives.specs.declared.detach.Detach.{Detach}
use Rattle.amqp_frames.specs.declared.shared.SessionStopReason.{SessionStopReason}
use Rattle.amqp_link.specs.declared.endpoint.AttachPoll.TheVariants.{Pending, Done}
use Rattle.amqp_link.specs.declared.endpoint.DetachPoll.TheVariants as poll
use Rattle.amqp_link.specs.declared.endpoint.LinkPhase.{LinkPhase}
use Rattle.amqp_link.specs.declared.endpoint.LinkPhase.TheVariants as phase
use Rattle.amqp_link.specs.declared.error.AttachError.{AttachError}
use Rattle.amqp_link.specs.declared.error.AttachError.TheVariants as error
use Rattle.amqp_link.specs.declared.error.DetachError.TheVariants as detach
use Rattle.amqp_link.specs.declared.error.LinkStateError.TheVariants as state
use Rattle.amqp_link.specs.Link as link
use Rattle.amqp_link.specs.Link.{Link, tells, polled, poll_waiting, poll_failing, is_awaited, is_done, closes, closed_by, detached_by, stopped_by}
use Rattle.amqp_link.specs.Parting.{late_poll, parting, done_poll, stuck_poll, met_poll, opened_poll, close_poll, closing_poll, closed_poll, waiting_poll, news_of}
use Rattle.amqp_link_words.specs.declared.link_reply.LinkReply.{LinkReply}
use Rattle.amqp_link_calls.specs.Answering.{outcome_at, put_off}
use Rattle.amqp_link_calls.specs.Leaving.{done_reply, part_reply, news_reply, known}
use Rattle.amqp_link_calls.specs.Replies.{is_pending, outcome_reply}
use Rattle.amqp_link_calls.specs.Side.{Side, Sender, Receiver, link_of, is_stopped, polled_answer}
use Rattle.amqp_link_calls.specs.Side as side
use Rattle.amqp_link_calls.specs.declared.leave.PartKind.{PartKind}
use Rattle.amqp_link_calls.specs.declared.leave.PartKind.TheVariants as kind
use Rattle.amqp_sender.specs.declared.sender.Settlement.{Settlement}
use Rattle.amqp_sender.specs.declared.sender.Settlement.TheVariants.{Unsettled, Settled, NonTerminal, Illegal}
use Rattle.amqp_sender.specs.Sender.{State as SenderState}
use Rattle.amqp_sender.specs.Settling.{answer_for, unsettled_answer}
use Rattle.call_waits.specs.Waits.{AttachWaits, PartWaits, OutcomeWaits, IsUnsettled}
use Rattle.call_waits.proofs.Links.{sent_undone}

-- ---- the attach

waits_pending : (a : Bool) (l : Link) → is_awaited l.phase ≡ a → (if a then tells (Ok Pending) l else tells (Err error.IllegalState) l).answer ≡ Ok Pending → is_awaited (if a then tells (Ok Pending) l else tells (Err error.IllegalState) l).link.phase ≡ true
waits_pending true l e h = e
waits_pending false l e h = absurd cc

waiting_pending : (o : Option SessionStopReason) (l : Link) → (poll_waiting o l).answer ≡ Ok Pending → is_awaited (poll_waiting o l).link.phase ≡ true
waiting_pending (Some why) l h = absurd cc
waiting_pending None l h = waits_pending (is_awaited l.phase) l refl h

fails_pending : (a : Bool) (e : AttachError) (l : Link) → (if a then tells (Err e) (record l { failure = None }) else poll_waiting l.stop_reason l).answer ≡ Ok Pending
    → is_awaited (if a then tells (Err e) (record l { failure = None }) else poll_waiting l.stop_reason l).link.phase ≡ true
fails_pending true e l h = absurd cc
fails_pending false e l h = waiting_pending l.stop_reason l h

failing_pending : (f : Option AttachError) (l : Link) → (poll_failing f l).answer ≡ Ok Pending → is_awaited (poll_failing f l).link.phase ≡ true
failing_pending None l h = waiting_pending l.stop_reason l h
failing_pending (Some e) l h = fails_pending (l.accepts || is_done l.phase) e l h

made_pending : (a : Bool) (l : Link) → (if a then tells (Ok Done) l else poll_failing l.failure l).answer ≡ Ok Pending → is_awaited (if a then tells (Ok Done) l else poll_failing l.failure l).link.phase ≡ true
made_pending true l h = absurd cc
made_pending false l h = failing_pending l.failure l h

pub attach_pending : (s : Side) → polled_answer s ≡ Ok Pending → AttachWaits (side.polled s)
attach_pending (Sender s) h = made_pending s.link.is_made s.link h
attach_pending (Receiver s) h = made_pending s.link.is_made s.link h

-- once the session has stopped it is known
waiting_never : (o : Option SessionStopReason) (l : Link) → is_some o ≡ true → (poll_waiting o l).answer ≡ Ok Pending → ⊥
waiting_never (Some why) l e h = cc
waiting_never None l e h = cc

fails_never : (a : Bool) (e : AttachError) (l : Link) → is_some l.stop_reason ≡ true → (if a then tells (Err e) (record l { failure = None }) else poll_waiting l.stop_reason l).answer ≡ Ok Pending → ⊥
fails_never true e l s h = cc
fails_never false e l s h = waiting_never l.stop_reason l s h

failing_never : (f : Option AttachError) (l : Link) → is_some l.stop_reason ≡ true → (poll_failing f l).answer ≡ Ok Pending → ⊥
failing_never None l s h = waiting_never l.stop_reason l s h
failing_never (Some e) l s h = fails_never (l.accepts || is_done l.phase) e l s h

made_never : (a : Bool) (l : Link) → is_some l.stop_reason ≡ true → (if a then tells (Ok Done) l else poll_failing l.failure l).answer ≡ Ok Pending → ⊥
made_never true l s h = cc
made_never false l s h = failing_never l.failure l s h

pub attach_never : (s : Side) → is_stopped s ≡ true → polled_answer s ≡ Ok Pending → ⊥
attach_never (Sender s) e h = made_never s.link.is_made s.link e h
attach_never (Receiver s) e h = made_never s.link.is_made s.link e h

-- ---- a call that leaves the link

done_known : (c : Bool) → is_pending (done_reply c) ≡ false
done_known true = refl
done_known false = refl

stuck_known : (c : Bool) (o : Option SessionStopReason) → is_pending (part_reply c (stuck_poll o)) ≡ false
stuck_known c (Some why) = refl
stuck_known c None = refl

opened_known : (c : Bool) (o : Option AmqpError) → is_pending (part_reply c (opened_poll o)) ≡ false
opened_known c None = done_known c
opened_known c (Some e) = refl

open_known : (c b : Bool) (o : Option AmqpError) → is_pending (part_reply c (if b then poll.Failed detach.ClosedByRemote else opened_poll o)) ≡ false
open_known c true o = refl
open_known c false o = opened_known c o

closed_known : (c : Bool) (o : Option AmqpError) → is_pending (part_reply c (closed_poll o)) ≡ false
closed_known c None = done_known c
closed_known c (Some e) = refl

closing_known : (c : Bool) (o : Option AmqpError) (b : Bool) (last : Option AmqpError) → is_pending (part_reply c (closing_poll o b last)) ≡ false
closing_known c (Some e) true last = refl
closing_known c (Some e) false last = refl
closing_known c None b last = closed_known c last

close_known : (c d : Bool) (x : Detach) (last : Option AmqpError) → is_pending (part_reply c (close_poll d x last)) ≡ false
close_known c false x last = refl
close_known c true x last = closing_known c x.error x.closed last

met_known : (c own d : Bool) (o : Option Detach) (last : Option AmqpError) → is_pending (part_reply c (met_poll own d o last)) ≡ false
met_known c own d None last = done_known c
met_known c false d (Some x) last = open_known c x.closed x.error
met_known c true d (Some x) last = close_known c d x last

both_known : (c d b : Bool) (l : Link) → is_pending (part_reply c (if b then stuck_poll l.stop_reason else met_poll l.is_closed d l.remote l.last_error)) ≡ false
both_known c d true l = stuck_known c l.stop_reason
both_known c d false l = met_known c l.is_closed d l.remote l.last_error

pub done_poll_known : (c d : Bool) (l : Link) → is_pending (part_reply c (done_poll d l)) ≡ false
done_poll_known c d l = both_known c d l.is_stuck l

absurd_false : (P : Type 0) (b : Bool) → b ≡ false → b ≡ true → P
absurd_false P b e h = let f : false ≡ true = sym e ∙ h in absurd cc

parted_by : (b : Bool) (c d : Bool) (l : Link) (o : Option SessionStopReason) → is_pending (part_reply c (if b then done_poll d l else waiting_poll o)) ≡ true → (b ≡ false) × (o ≡ None)
parted_by true c d l o h = absurd_false _ (is_pending (part_reply c (done_poll d l))) (done_poll_known c d l) h
parted_by false c d l (Some why) h = absurd cc
parted_by false c d l None h = (refl, refl)

news_by : (g : Bool) (r : Option Detach) (o : Option SessionStopReason) → is_pending (news_reply (if g then Some detach.IllegalState else news_of r o)) ≡ true → (r ≡ None) × (g ≡ false) × (o ≡ None)
news_by true r o h = absurd cc
news_by false (Some d) o h = absurd cc
news_by false None (Some why) h = absurd cc
news_by false None None h = (refl, refl, refl)

unstopped : (s : Side) → (link_of s).stop_reason ≡ None → is_stopped s ≡ false
unstopped s e = ap is_some e

pub part_pending : (k : PartKind) (s : Side) → is_pending (known k s) ≡ true → (is_stopped s ≡ false) × PartWaits k s
part_pending kind.OnDetach s h = let a = news_by (link_of s).is_gone (link_of s).remote (link_of s).stop_reason h in (unstopped s a.2, (a.0, a.1))
part_pending kind.Detach s h = let a = parted_by (is_done (link_of s).phase) false false (link_of s) (link_of s).stop_reason h in (unstopped s a.1, a.0)
part_pending kind.Close s h = let a = parted_by (is_done (link_of s).phase) true true (link_of s) (link_of s).stop_reason h in (unstopped s a.1, a.0)

late_known : (c d : Bool) → is_pending (part_reply d (late_poll c d)) ≡ false
late_known true true = refl
late_known true false = refl
late_known false true = refl
late_known false false = refl

-- what is told of a call that detaches or closes as it is made
asked_by : (gone : Bool) (p : LinkPhase) (o : Option SessionStopReason) (c : Bool) (x : Option AmqpError) (l : Link)
    → is_pending (part_reply c (parting c x (record l { is_gone = gone; phase = p; stop_reason = o })).answer) ≡ true
    → (o ≡ None) × (is_done (parting c x (record l { is_gone = gone; phase = p; stop_reason = o })).link.phase ≡ false)
asked_by true p o c x l h = absurd cc
asked_by false phase.AttachSent o c x l h = absurd cc
asked_by false phase.DetachExpected o c x l h = absurd cc
asked_by false phase.Refused o c x l h = absurd cc
asked_by false phase.Attached (Some why) c x l h = absurd cc
asked_by false phase.Attached None c x l h = (refl, sent_undone c)
asked_by false phase.HalfClosed (Some why) c x l h = absurd cc
asked_by false phase.HalfClosed None c x l h = (refl, refl)
asked_by false phase.Detached o c x l h = absurd_false _ (is_pending (part_reply c (late_poll (link.is_closed_by_one (record l { is_gone = false; phase = phase.Detached; stop_reason = o })) c))) (late_known (link.is_closed_by_one (record l { is_gone = false; phase = phase.Detached; stop_reason = o })) c) h
asked_by false p (Some why) c x l h = absurd cc
asked_by false p None c x l h = (refl, refl)

pub asked_pending : (c : Bool) (x : Option AmqpError) (l : Link) → is_pending (part_reply c (parting c x l).answer) ≡ true → (l.stop_reason ≡ None) × (is_done (parting c x l).link.phase ≡ false)
asked_pending c x l h = asked_by l.is_gone l.phase l.stop_reason c x l h

-- ---- outcomes

-- nothing was told of the delivery
settled_by : (c : Bool) (o : Option Settlement) (s : SenderState) → is_pending (put_off c (outcome_reply (answer_for o s))) ≡ true → o ≡ Some Unsettled
settled_by true None s h = absurd cc
settled_by false None s h = absurd cc
settled_by true (Some (Settled x)) s h = absurd cc
settled_by false (Some (Settled x)) s h = absurd cc
settled_by true (Some NonTerminal) s h = absurd cc
settled_by false (Some NonTerminal) s h = absurd cc
settled_by true (Some Illegal) s h = absurd cc
settled_by false (Some Illegal) s h = absurd cc
settled_by c (Some Unsettled) s h = refl

pub unsettled_pending : (c : Bool) (place : ℕ) (s : Side) → is_pending (put_off c (outcome_at place s)) ≡ true → IsUnsettled place s
unsettled_pending c place (Sender s) h = settled_by c (slice_get s.settlements place) s h
unsettled_pending true place (Receiver s) h = absurd cc
unsettled_pending false place (Receiver s) h = absurd cc

-- the link's part of it
abbrev told : Bool → Bool → Bool → Option Detach → Option SessionStopReason → LinkReply
told gone done closed r o =
    outcome_reply (unsettled_answer (if gone then Some state.IllegalState else (if done then (if closed then Some state.IllegalState else closed_by r o) else stopped_by o)))

remote_by : (c b : Bool) (e : Option AmqpError) → is_pending (put_off c (outcome_reply (unsettled_answer (if b then Some (detached_by true e) else None)))) ≡ true → b ≡ false
remote_by true true (Some e) h = absurd cc
remote_by true true None h = absurd cc
remote_by false true (Some e) h = absurd cc
remote_by false true None h = absurd cc
remote_by c false e h = refl

told_by : (c gone done closed : Bool) (r : Option Detach) → is_pending (put_off c (told gone done closed r None)) ≡ true → (gone ≡ false) × (done ≡ true → (closed || closes r) ≡ true → ⊥)
told_by true true done closed r h = absurd cc
told_by false true done closed r h = absurd cc
told_by true false true true r h = absurd cc
told_by false false true true r h = absurd cc
told_by c false true false (Some d) h = let b = remote_by c d.closed d.error h in (refl, λ e f. let g : false ≡ true = sym b ∙ f in cc)
told_by c false true false None h = (refl, λ e f. let g : false ≡ true = f in cc)
told_by c false false closed r h = (refl, λ e f. let g : false ≡ true = e in cc)

outcome_by : (c : Bool) (o : Option SessionStopReason) (l : Link) → l.stop_reason ≡ o → is_some o ≡ false → is_pending (put_off c (told l.is_gone (is_done l.phase) l.is_closed l.remote o)) ≡ true
    → (l.is_gone ≡ false) × (is_done l.phase ≡ true → link.is_closed_by_one l ≡ true → l.is_stuck ≡ true)
outcome_by c (Some why) l e s h = absurd cc
outcome_by c None l e s h = let a = told_by c l.is_gone (is_done l.phase) l.is_closed l.remote h in (a.0, λ d f. absurd (a.1 d f))

sender_pending : (c : Bool) (o : Option Settlement) (s : SenderState) → o ≡ Some Unsettled → is_stopped (Sender s) ≡ false → is_pending (put_off c (outcome_reply (answer_for o s))) ≡ true → OutcomeWaits (Sender s)
sender_pending c None s e n h = absurd cc
sender_pending c (Some Unsettled) s e n h = outcome_by c s.link.stop_reason s.link refl n h
sender_pending c (Some (Settled x)) s e n h = absurd cc
sender_pending c (Some NonTerminal) s e n h = absurd cc
sender_pending c (Some Illegal) s e n h = absurd cc

pub outcome_pending : (c : Bool) (place : ℕ) (s : Side) → is_stopped s ≡ false → is_pending (put_off c (outcome_at place s)) ≡ true → OutcomeWaits s
outcome_pending c place (Sender s) n h = sender_pending c (slice_get s.settlements place) s (settled_by c (slice_get s.settlements place) s h) n h
outcome_pending c place (Receiver s) n h = absurd (unsettled_pending c place (Receiver s) h)

-- once the session has stopped it is known
told_stopped : (gone done closed : Bool) (r : Option Detach) (o : Option SessionStopReason) → is_some o ≡ true → is_pending (told gone done closed r o) ≡ true → ⊥
told_stopped gone done closed r None e h = cc
told_stopped true done closed r (Some why) e h = cc
told_stopped false true true r (Some why) e h = cc
told_stopped false true false (Some d) (Some why) e h = by d.closed d.error h
  where
    by : (b : Bool) (x : Option AmqpError) → is_pending (outcome_reply (unsettled_answer (if b then Some (detached_by true x) else stopped_by (Some why)))) ≡ true → ⊥
    by true (Some x) k = cc
    by true None k = cc
    by false x k = cc
told_stopped false true false None (Some why) e h = cc
told_stopped false false closed r (Some why) e h = cc

sender_stopped : (o : Option Settlement) (s : SenderState) → o ≡ Some Unsettled → is_stopped (Sender s) ≡ true → is_pending (outcome_reply (answer_for o s)) ≡ true → ⊥
sender_stopped None s e n h = cc
sender_stopped (Some Unsettled) s e n h = told_stopped s.link.is_gone (is_done s.link.phase) s.link.is_closed s.link.remote s.link.stop_reason n h
sender_stopped (Some (Settled x)) s e n h = cc
sender_stopped (Some NonTerminal) s e n h = cc
sender_stopped (Some Illegal) s e n h = cc

pub outcome_never : (place : ℕ) (s : Side) → is_stopped s ≡ true → is_pending (put_off true (outcome_at place s)) ≡ true → ⊥
outcome_never place (Sender s) n h = sender_stopped (slice_get s.settlements place) s (settled_by true (slice_get s.settlements place) s h) n h
outcome_never place (Receiver s) n h = unsettled_pending true place (Receiver s) h
