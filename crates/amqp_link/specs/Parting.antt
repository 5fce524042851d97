-- How calls detach, close and abandon a link (OASIS AMQP 1.0, part 2, sections 2.6.4 to 2.6.6).
use Rattle.std.specs.Prelude.{◌≡◌, ℕ, Bool, true, false, List, Option, Some, None, if◌then◌else◌}
use Rattle.amqp_composites.specs.declared.error.Error.{Error as AmqpError}
use Rattle.amqp_frames.specs.amqp_performatives.declared.attach.Attach.{Attach}
use Rattle.amqp_frames.specs.amqp_performatives.declared.detach.Detach.{Detach}
use Rattle.amqp_frames.specs.declared.body.FrameBody.TheVariants as b
use Rattle.amqp_frames.specs.declared.shared.SessionStopReason.{SessionStopReason}
use Rattle.amqp_frames.specs.amqp_termini.declared.unsettled.UnsettledDelivery.{UnsettledDelivery}
use Rattle.amqp_link.specs.declared.endpoint.DetachPoll.{DetachPoll}
use Rattle.amqp_link.specs.declared.endpoint.DetachPoll.TheVariants.{Pending, Done, Failed}
use Rattle.amqp_link.specs.declared.endpoint.LinkPhase.{LinkPhase}
use Rattle.amqp_link.specs.declared.endpoint.LinkPhase.TheVariants as phase
use Rattle.amqp_link.specs.declared.error.DetachError.{DetachError}
use Rattle.amqp_link.specs.declared.error.DetachError.TheVariants as error
use Rattle.amqp_link.specs.Link.{Link, saying, closing, is_done, is_closed_by_one}

-- ---- the call that detaches or closes

-- what it comes to: the link behind it, and what the call is told
pub record Parted : Type 0 where
  pub link : Link
  pub answer : DetachPoll

abbrev pub tells : DetachPoll → Link → Parted
tells answer s = record { link = s; answer = answer }

-- both ends have detached before: whether the link is closed, and whether the call is to close it
abbrev pub late_poll : Bool → Bool → DetachPoll
late_poll true false = Failed error.ClosedByRemote
late_poll closed closes = Done

abbrev pub sent_phase : Bool → LinkPhase
sent_phase true = phase.CloseSent
sent_phase false = phase.DetachSent

-- this end's Detach is written
abbrev pub detaching : Bool → Option AmqpError → Link → Link
detaching closes x s =
    record (saying (b.Detach (record { handle = s.own.handle; closed = closes; error = x })) s) { phase = sent_phase closes; is_closed = closes; is_parting = true }

-- no frame goes out in a session that has stopped
abbrev pub parting_unless : Option SessionStopReason → Link → Link → Parted
parting_unless (Some why) t s = tells (Failed (error.SessionStopped why)) s
parting_unless None t s = tells Pending t

-- a link that is attached is detached; one that is being detached is waited for; one that one end alone has closed is attached again
abbrev pub parting_in : LinkPhase → Bool → Option AmqpError → Link → Parted
parting_in phase.AttachSent closes x s = tells (Failed error.IllegalState) s
parting_in phase.DetachExpected closes x s = tells (Failed error.IllegalState) s
parting_in phase.Refused closes x s = tells (Failed error.IllegalState) s
parting_in phase.Attached closes x s = parting_unless s.stop_reason (detaching closes x s) s
parting_in phase.HalfClosed closes x s = parting_unless s.stop_reason (record s { phase = phase.HandleWanted; is_parting = true }) s
parting_in phase.Detached closes x s = tells (late_poll (is_closed_by_one s) closes) s
parting_in other closes x s = parting_unless s.stop_reason (record s { is_parting = true }) s

abbrev pub parting : Bool → Option AmqpError → Link → Parted
parting closes x s = if s.is_gone then tells (Failed error.IllegalState) s else parting_in s.phase closes x s

-- ---- what a call that waits is told

abbrev pub opened_poll : Option AmqpError → DetachPoll
opened_poll None = Done
opened_poll (Some e) = Failed (error.RemoteDetachedWithError e)

abbrev pub closed_poll : Option AmqpError → DetachPoll
closed_poll None = Done
closed_poll (Some e) = Failed (error.RemoteClosedWithError e)

-- the error of the first answer counts, then that of the last
abbrev pub closing_poll : Option AmqpError → Bool → Option AmqpError → DetachPoll
closing_poll (Some e) true last = Failed (error.RemoteClosedWithError e)
closing_poll (Some e) false last = Failed (error.RemoteDetachedWithError e)
closing_poll None closed last = closed_poll last

-- this end's Detach did not close the link: where the peer's did, no error stands in place of that
abbrev pub open_poll : Detach → DetachPoll
open_poll d = if d.closed then Failed error.ClosedByRemote else opened_poll d.error

-- this end's Detach closed the link, and so does the call, or not
abbrev pub close_poll : Bool → Detach → Option AmqpError → DetachPoll
close_poll false d last = Failed error.ClosedByRemote
close_poll true d last = closing_poll d.error d.closed last

-- whether this end's Detach closed the link, whether the call is to close it, and the answers
abbrev pub met_poll : Bool → Bool → Option Detach → Option AmqpError → DetachPoll
met_poll own closes None last = Done
met_poll false closes (Some d) last = open_poll d
met_poll true closes (Some d) last = close_poll closes d last

abbrev pub stuck_poll : Option SessionStopReason → DetachPoll
stuck_poll (Some why) = Failed (error.SessionStopped why)
stuck_poll None = Failed error.IllegalState

abbrev pub done_poll : Bool → Link → DetachPoll
done_poll closes s = if s.is_stuck then stuck_poll s.stop_reason else met_poll s.is_closed closes s.remote s.last_error

abbrev pub waiting_poll : Option SessionStopReason → DetachPoll
waiting_poll (Some why) = Failed (error.SessionStopped why)
waiting_poll None = Pending

abbrev pub parted_poll : Bool → Link → DetachPoll
parted_poll closes s = if is_done s.phase then done_poll closes s else waiting_poll s.stop_reason

-- ---- the call that waits for the peer's Detach

abbrev pub parted_by : Bool → Option AmqpError → DetachError
parted_by true (Some e) = error.RemoteClosedWithError e
parted_by true None = error.ClosedByRemote
parted_by false (Some e) = error.RemoteDetachedWithError e
parted_by false None = error.DetachedByRemote

abbrev pub news_of : Option Detach → Option SessionStopReason → Option DetachError
news_of (Some d) stop = Some (parted_by d.closed d.error)
news_of None (Some why) = Some (error.SessionStopped why)
news_of None None = None

-- how the peer has detached the link, or that its session has stopped
abbrev pub detach_news : Link → Option DetachError
detach_news s = if s.is_gone then Some error.IllegalState else news_of s.remote s.stop_reason

-- ---- the call that abandons

abbrev pub abandoned_in : LinkPhase → Option SessionStopReason → Link → Link
abandoned_in phase.Attached None s = record (closing None s) { is_gone = true }
abandoned_in phase stop s = record s { is_gone = true }

-- the link is let go; where it is attached it is closed
abbrev pub abandoned : Link → Link
abandoned s = abandoned_in s.phase s.stop_reason s

-- ---- the further attachment

abbrev pub wants_handle : LinkPhase → Bool
wants_handle phase.HandleWanted = true
wants_handle other = false

abbrev pub is_reattaching : LinkPhase → Bool
is_reattaching phase.ReattachSent = true
is_reattaching other = false

-- the Attach says the deliveries that are not settled, and where the sender's delivery-count is now (section 2.7.3)
abbrev pub again : ℕ → Option (List UnsettledDelivery) → Option ℕ → Attach → Attach
again handle unsettled count own = record own { handle = handle; unsettled = unsettled; incomplete_unsettled = false; initial_delivery_count = count }

abbrev pub reattached : ℕ → Option (List UnsettledDelivery) → Option ℕ → Link → Link
reattached handle unsettled count s =
    record (saying (b.Attach (again handle unsettled count s.own)) s) { own = again handle unsettled count s.own; phase = phase.ReattachSent }

-- there is no handle: the link stays as it is
abbrev pub unplaced : Link → Link
unplaced s = record s { phase = phase.Detached; is_stuck = true }
