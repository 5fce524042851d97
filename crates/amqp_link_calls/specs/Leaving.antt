-- How links are left (OASIS AMQP 1.0, part 2, sections 2.6.4 to 2.6.6).
use Rattle.std.specs.Prelude.{ℕ, nat_eq, Bool, true, false, ◌&&◌, List, Option, Some, None, if◌then◌else◌}
use Rattle.amqp_composites.specs.declared.error.Error.{Error as AmqpError}
use Rattle.amqp_link.specs.declared.endpoint.DetachPoll.{DetachPoll}
use Rattle.amqp_link.specs.declared.endpoint.DetachPoll.TheVariants as poll
use Rattle.amqp_link.specs.declared.error.DetachError.{DetachError}
use Rattle.amqp_link.specs.declared.error.DetachError.TheVariants as error
use Rattle.amqp_link.specs.declared.error.IllegalLinkStateError.{IllegalLinkStateError}
use Rattle.amqp_link.specs.declared.error.IllegalLinkStateError.TheVariants as illegal
use Rattle.amqp_link.specs.Parting as link
use Rattle.amqp_link_words.specs.amqp_receiver.Receiver as receiver
use Rattle.amqp_link_words.specs.declared.link_call.Parting.{Parting}
use Rattle.amqp_link_words.specs.declared.link_call.Parting.TheVariants as parting
use Rattle.amqp_link_words.specs.declared.link_reply.LinkReply.{LinkReply}
use Rattle.amqp_link_words.specs.declared.link_reply.LinkReply.TheVariants as reply
use Rattle.amqp_link_calls.specs.declared.leave.Leaving.{Leaving}
use Rattle.amqp_link_calls.specs.declared.leave.Leaving.TheVariants.{Detached, Dropped}
use Rattle.amqp_link_calls.specs.declared.leave.PartKind.{PartKind}
use Rattle.amqp_link_calls.specs.declared.leave.PartKind.TheVariants as kind
use Rattle.amqp_link_calls.specs.declared.leave.WaitingPart.{WaitingPart}
use Rattle.amqp_link_calls.specs.Answering.{outcomes_answered}
use Rattle.amqp_link_calls.specs.Called.{Called, with_side, answering}
use Rattle.amqp_link_calls.specs.Replies.{is_pending, error_of}
use Rattle.amqp_link_calls.specs.Side.{Side, Sender, Receiver, PartedSide, link_of, is_stopped, parts, abandoned as side_abandoned, reattached, unplaced, detach_news, parted_poll}

-- how the link is left once the call is answered
abbrev pub left_by : PartKind → Leaving → Leaving
left_by kind.OnDetach before = before
left_by kind.Detach before = Detached
left_by kind.Close before = Dropped

-- whether it is closed or detached; what it comes to
abbrev pub done_reply : Bool → LinkReply
done_reply true = reply.Closed
done_reply false = reply.Detached

abbrev pub part_reply : Bool → DetachPoll → LinkReply
part_reply closes poll.Pending = reply.Pending
part_reply closes poll.Done = done_reply closes
part_reply closes (poll.Failed e) = reply.DetachError e

abbrev pub news_reply : Option DetachError → LinkReply
news_reply None = reply.Pending
news_reply (Some e) = reply.DetachError e

-- ---- a call that waits

-- what is known of what it asks
abbrev pub known : PartKind → Side → LinkReply
known kind.OnDetach s = news_reply (detach_news s)
known kind.Detach s = part_reply false (parted_poll false s)
known kind.Close s = part_reply true (parted_poll true s)

-- a call that has closed the link lets it go
abbrev pub closed_by : LinkReply → Called → Called
closed_by reply.Closed s = with_side (side_abandoned s.side) s
closed_by other s = s

abbrev pub told_part : LinkReply → WaitingPart → Called → Called
told_part x w s =
    if is_pending x then s else answering w.name x (closed_by x (record s { parting = None; leaving = left_by w.kind s.leaving }))

abbrev pub part_answered_to : Option WaitingPart → Called → Called
part_answered_to None s = s
part_answered_to (Some w) s = told_part (known w.kind s.side) w s

abbrev pub part_answered : Called → Called
part_answered s = part_answered_to s.parting s

-- once the session has stopped, a call that waits learns of it when it is over
abbrev pub part_answered_now : Called → Called
part_answered_now s = if is_stopped s.side then s else part_answered s

-- ---- the calls

-- what a call makes of the link, and its answer
pub record Leaves : Type 0 where
  pub called : Called
  pub reply : LinkReply

abbrev pub tells : LinkReply → Called → Leaves
tells x s = record { called = s; reply = x }

-- it waits, or has left the link
abbrev pub asked_part : Bool → ℕ → PartKind → Called → Called
asked_part true name k s = record s { parting = Some (record { name = name; kind = k }) }
asked_part false name k s = record s { leaving = left_by k s.leaving }

abbrev pub asks : ℕ → PartKind → LinkReply → Called → Leaves
asks name k x s = tells x (asked_part (is_pending x) name k s)

abbrev pub on_detach_asked : ℕ → Called → Leaves
on_detach_asked name s = asks name kind.OnDetach (known kind.OnDetach s.side) s

abbrev pub detach_asked : ℕ → Option (List ℕ) → Called → Leaves
detach_asked name error s =
    let m = parts false (error_of error) s.side in asks name kind.Detach (part_reply false m.answer) (with_side m.side s)

-- why a link is not closed that gives no credit
abbrev pub error_for : IllegalLinkStateError → DetachError
error_for (illegal.SessionStopped why) = error.SessionStopped why
error_for other = error.IllegalState

-- the sender's credit is taken
abbrev pub credit_taken : receiver.State → receiver.Made
credit_taken s = receiver.credit_set 0 s

-- what a call that closes a receiver comes to
pub record Closed : Type 0 where
  pub state : receiver.State
  pub answer : DetachPoll

abbrev pub closes : Option AmqpError → receiver.State → Closed
closes error s = let m = link.parting true error s.link in record { state = record s { link = m.link }; answer = m.answer }

abbrev pub closed_unless : Option IllegalLinkStateError → AmqpError → receiver.State → Closed
closed_unless (Some e) x s = record { state = s; answer = poll.Failed (error_for e) }
closed_unless None x s = closes (Some x) s

-- a receiver that is closed for an error first takes the sender's credit, and where that cannot be done it is not closed
abbrev pub closed_for : AmqpError → receiver.State → Closed
closed_for x s = closed_unless (credit_taken s).answer x (credit_taken s).state

abbrev pub receiver_closed : Option AmqpError → receiver.State → Closed
receiver_closed None s = closes None s
receiver_closed (Some x) s = closed_for x s

abbrev pub closed_side : Option AmqpError → Side → PartedSide
closed_side error (Sender s) = parts true error (Sender s)
closed_side error (Receiver s) = let m = receiver_closed error s in record { side = Receiver m.state; answer = m.answer }

-- a link that both ends have detached before is closed at once: no outcome comes any more
abbrev pub closed_at_once : LinkReply → Called → Called
closed_at_once reply.Closed s = outcomes_answered (closed_by reply.Closed s)
closed_at_once other s = s

abbrev pub close_asked : ℕ → Option (List ℕ) → Called → Leaves
close_asked name error s =
    let m = closed_side (error_of error) s.side in
    let x = part_reply true m.answer in tells x (closed_at_once x (asked_part (is_pending x) name kind.Close (with_side m.side s)))

-- the link is let go: no outcome comes any more
abbrev pub abandoned : Called → Called
abandoned s = outcomes_answered (record (with_side (side_abandoned s.side) s) { leaving = Dropped })

abbrev pub leaves : ℕ → Parting → Called → Leaves
leaves name parting.OnDetach s = on_detach_asked name s
leaves name (parting.Detach error timeout) s = detach_asked name error s
leaves name (parting.Close error) s = close_asked name error s
leaves name parting.Abandon s = tells reply.Done (abandoned s)

-- ---- the further attachment

-- a call that waits until both ends have detached
abbrev pub awaits_both : PartKind → Bool
awaits_both kind.OnDetach = false
awaits_both kind.Detach = true
awaits_both kind.Close = true

abbrev pub is_parting : Option WaitingPart → Bool
is_parting None = false
is_parting (Some w) = awaits_both w.kind

-- a link is attached again while a call waits for that
abbrev pub wants_handle : Called → Bool
wants_handle s = is_parting s.parting && link.wants_handle (link_of s.side).phase

abbrev pub is_reattaching : Called → Bool
is_reattaching s = link.is_reattaching (link_of s.side).phase

abbrev pub handle_given : ℕ → Called → Called
handle_given handle s = with_side (reattached handle s.side) s

-- whether the call of that name waits until the link is detached
abbrev pub awaits_part : ℕ → Option WaitingPart → Bool
awaits_part name None = false
awaits_part name (Some w) = nat_eq w.name name

-- its time is over: it waits no more
abbrev pub part_given_up : ℕ → Called → Called
part_given_up name s = if awaits_part name s.parting then record s { parting = None } else s

-- there is no handle: the call that leaves the link is answered
abbrev pub handle_refused : Called → Called
handle_refused s = part_answered (with_side (unplaced s.side) s)
