-- A link endpoint, as its rules see it (OASIS AMQP 1.0, part 2, section 2.6).
use Rattle.std.specs.Prelude.{◌≡◌, ℕ, ◌-◌, min, nat_eq, Bool, true, false, not, ◌&&◌, ◌||◌, is_some, codes, List, [], ◌∷◌, ◌++◌, map, Option, Some, None, unwrap_or, Result, Ok, Err, if◌then◌else◌}
use Rattle.std.specs.VecDeque.{deque_len, deque_capacity}
use Rattle.amqp_composites.specs.declared.error.Error.{Error as AmqpError}
use Rattle.amqp_composites.specs.declared.modes.Role.{Role}
use Rattle.amqp_composites.specs.declared.modes.Role.TheVariants as role
use Rattle.amqp_frames.specs.amqp_performatives.declared.attach.Attach.{Attach}
use Rattle.amqp_frames.specs.amqp_performatives.declared.detach.Detach.{Detach}
use Rattle.amqp_frames.specs.declared.body.FrameBody.{FrameBody}
use Rattle.amqp_frames.specs.declared.body.FrameBody.TheVariants as b
use Rattle.amqp_frames.specs.declared.shared.LinkFrame.{LinkFrame}
use Rattle.amqp_frames.specs.declared.shared.LinkFrame.TheVariants as link
use Rattle.amqp_frames.specs.declared.shared.SessionStopReason.{SessionStopReason}
use Rattle.amqp_link.specs.declared.endpoint.AttachPoll.{AttachPoll}
use Rattle.amqp_link.specs.declared.endpoint.AttachPoll.TheVariants.{Pending, Done}
use Rattle.amqp_link.specs.declared.endpoint.LinkEndpoint.{LinkEndpoint}
use Rattle.amqp_link.specs.declared.endpoint.LinkPhase.{LinkPhase}
use Rattle.amqp_link.specs.declared.endpoint.LinkPhase.TheVariants as phase
use Rattle.amqp_link.specs.declared.error.AttachError.{AttachError}
use Rattle.amqp_link.specs.declared.error.AttachError.TheVariants as error
use Rattle.amqp_link.specs.declared.error.AttachFault.{AttachFault}
use Rattle.amqp_link.specs.declared.error.AttachFault.TheVariants as fault
use Rattle.amqp_link.specs.declared.error.IllegalLinkStateError.{IllegalLinkStateError}
use Rattle.amqp_link.specs.declared.error.IllegalLinkStateError.TheVariants as illegal
use Rattle.amqp_link.specs.declared.error.LinkStateError.{LinkStateError}
use Rattle.amqp_link.specs.declared.error.LinkStateError.TheVariants as state
use Rattle.amqp_link.specs.Faults.{error_for, told_of}
use Rattle.amqp_link.specs.Rules.{fault_of}

-- the frame that carries what a link writes
abbrev pub body_of : LinkFrame → FrameBody
body_of (link.Attach x) = b.Attach x
body_of (link.Flow x) = b.Flow x
body_of (link.Transfer x payload) = b.Transfer x payload
body_of (link.Disposition x covered) = b.Disposition x
body_of (link.Detach x) = b.Detach x

-- what this end says of the link as it attaches, with what the peer has said since; whether it answers the peer's Attach with its own;
-- whether it looks at the addresses of termini; how far it is; the largest message, 0 where there is none; whether both ends have
-- attached; whether this end has closed the link; why it is not attached; the Detach that was read; whether a call waits until both have
-- detached; whether this end has abandoned the link; whether it could not be closed once it was attached again; the error of the Detach
-- that was read then; why its session has stopped; the frames to be written
pub record Link : Type 0 where
  pub own : Attach
  pub accepts : Bool
  pub verify : Bool
  pub phase : LinkPhase
  pub max_message_size : ℕ
  pub is_made : Bool
  pub is_closed : Bool
  pub failure : Option AttachError
  pub remote : Option Detach
  pub is_parting : Bool
  pub is_gone : Bool
  pub is_stuck : Bool
  pub last_error : Option AmqpError
  pub stop_reason : Option SessionStopReason
  pub output : List FrameBody

abbrev pub seen : LinkEndpoint → Link
seen s = record { own = s.own; accepts = s.accepts; verify = s.verify; phase = s.phase; max_message_size = s.max_message_size; is_made = s.is_made; is_closed = s.is_closed; failure = s.failure; remote = s.remote; is_parting = s.is_parting; is_gone = s.is_gone; is_stuck = s.is_stuck; last_error = s.last_error; stop_reason = s.stop_reason; output = map body_of s.output.items }

-- how many frames can be queued without more memory
abbrev pub spare : LinkEndpoint → ℕ
spare s = deque_capacity s.output - deque_len s.output

-- a frame is queued
abbrev pub saying : FrameBody → Link → Link
saying body s = record s { output = s.output ++ body ∷ [] }

-- the first frame to be written is taken off
abbrev pub TakesFrame : Link → Option FrameBody → Link → Type 0
TakesFrame old None new = (old.output ≡ []) × (new ≡ old)
TakesFrame old (Some x) new = (old.output ≡ x ∷ new.output) × (new ≡ record old { output = new.output })

-- ---- the attach

-- the lesser of two sizes that are not 0, which says that there is no limit (section 2.7.3)
abbrev pub lesser : ℕ → ℕ → ℕ
lesser x y = if nat_eq x 0 then y else if nat_eq y 0 then x else min x y

abbrev pub size_of : Option ℕ → ℕ
size_of size = unwrap_or size 0

-- an Attach of this end, where the peer's limit is that size
abbrev pub fresh : Bool → Bool → ℕ → Attach → Link
fresh accepts verify size own = record { own = own; accepts = accepts; verify = verify; phase = phase.AttachSent; max_message_size = lesser (size_of own.max_message_size) size; is_made = false; is_closed = false; failure = None; remote = None; is_parting = false; is_gone = false; is_stuck = false; last_error = None; stop_reason = None; output = b.Attach own ∷ [] }

-- this end attaches
abbrev pub asked : Bool → Attach → Link
asked verify own = fresh false verify 0 own

-- the peer's word counts for its own terminus and mode (sections 2.6.3 and 2.8.2)
abbrev pub agreed_as : Role → Attach → Attach → Attach
agreed_as role.Sender own x = record own { target = x.target; rcv_settle_mode = x.rcv_settle_mode }
agreed_as role.Receiver own x = record own { source = x.source; snd_settle_mode = x.snd_settle_mode }

-- both ends have attached
abbrev pub attached : Attach → Link → Link
attached x s = record s { own = agreed_as s.own.role s.own x; phase = phase.Attached; max_message_size = lesser s.max_message_size (size_of x.max_message_size); is_made = true }

-- a closing Detach is written
abbrev pub saying_close : Option AmqpError → Link → Link
saying_close error s = saying (b.Detach (record { handle = s.own.handle; closed = true; error = error })) s

-- this end refuses the link
abbrev pub refused : AttachFault → Link → Link
refused x s = record (saying_close (error_for x) s) { phase = phase.Refused; failure = Some (told_of x) }

-- the peer has no terminus for the link: its Detach has to come next (section 2.6.3)
abbrev pub answered : Option AttachFault → Attach → Link → Link
answered None x s = attached x s
answered (Some fault.IncomingTargetIsNone) x s = record s { phase = phase.DetachExpected }
answered (Some fault.IncomingSourceIsNone) x s = record s { phase = phase.DetachExpected }
answered (Some other) x s = refused other s

-- another frame than the one that has to come
abbrev pub unexpected_in : LinkPhase → Link → Link
unexpected_in phase.AttachSent s = refused fault.NonAttachFrameReceived s
unexpected_in phase.DetachExpected s = refused fault.ExpectImmediateDetach s
unexpected_in other s = s

abbrev pub unexpected : Link → Link
unexpected s = unexpected_in s.phase s

-- an Attach tells of deliveries that are not settled
abbrev pub has_unsettled : Attach → Bool
has_unsettled x = is_some x.unsettled || x.incomplete_unsettled

abbrev pub illegal_state : AmqpError
illegal_state = record { condition = codes "amqp:illegal-state"; description = Some (codes "IllegalState"); info = None }

-- the link was attached again and is closed; whether that is not as it was asked
abbrev pub reclosing : Option AmqpError → Bool → Link → Link
reclosing error stuck s = record (saying_close error s) { phase = phase.RecloseSent; is_stuck = stuck }

abbrev pub reclosed_unless : Option AttachFault → Bool → Link → Link
reclosed_unless (Some x) unsettled s = reclosing (error_for x) true s
reclosed_unless None true s = reclosing (Some illegal_state) true s
reclosed_unless None false s = reclosing None false s

-- the peer has attached the link again too, which is closed (section 2.6.6): a link with deliveries that are not settled goes on
abbrev pub reclosed : Attach → Link → Link
reclosed x s = reclosed_unless (fault_of s.own.role false s.verify s.own.snd_settle_mode x) (has_unsettled s.own || has_unsettled x) s

-- the peer's Attach was read
abbrev pub attach_in : LinkPhase → Attach → Link → Link
attach_in phase.AttachSent x s = answered (fault_of s.own.role false s.verify s.own.snd_settle_mode x) x s
attach_in phase.ReattachSent x s = reclosed x s
attach_in other x s = unexpected s

abbrev pub attach_read : Attach → Link → Link
attach_read x s = attach_in s.phase x s

-- an Attach that says that this end has no terminus for the link
abbrev pub without_terminus : Role → Attach → Attach
without_terminus role.Sender own = record own { source = None }
without_terminus role.Receiver own = record own { target = None }

-- this end answers the peer's Attach with its own, or refuses the link
abbrev pub accepting : Option AttachFault → ℕ → Attach → Link
accepting None size own = record (fresh true true size own) { phase = phase.Attached; is_made = true }
accepting (Some x) size own = refused x (fresh true true size (without_terminus own.role own))

-- what the caller of an attach is told, and the link behind it
pub record Polled : Type 0 where
  pub answer : Result AttachPoll AttachError
  pub link : Link

abbrev pub tells : Result AttachPoll AttachError → Link → Polled
tells answer s = record { answer = answer; link = s }

-- an answer of the peer may still come
abbrev pub is_awaited : LinkPhase → Bool
is_awaited phase.AttachSent = true
is_awaited phase.DetachExpected = true
is_awaited phase.Refused = true
is_awaited other = false

-- both ends have detached, and nothing more follows
abbrev pub is_done : LinkPhase → Bool
is_done phase.Detached = true
is_done other = false

-- both ends have sent their Detach, and this end has not attached again: its handle is free
abbrev pub is_over : LinkPhase → Bool
is_over phase.Detached = true
is_over phase.HalfClosed = true
is_over phase.HandleWanted = true
is_over other = false

-- the peer may still speak of deliveries: until both ends have sent their Detach
abbrev pub is_heard : LinkPhase → Bool
is_heard phase.HalfClosed = false
is_heard phase.HandleWanted = false
is_heard phase.ReattachSent = false
is_heard phase.RecloseSent = false
is_heard phase.Detached = false
is_heard other = true

-- this end has sent a Detach that does not close the link, and none was read
abbrev pub is_detaching : LinkPhase → Bool
is_detaching phase.DetachSent = true
is_detaching other = false

abbrev pub poll_waiting : Option SessionStopReason → Link → Polled
poll_waiting (Some why) s = tells (Err (error.SessionStopped why)) s
poll_waiting None s = if is_awaited s.phase then tells (Ok Pending) s else tells (Err error.IllegalState) s

-- an end that attaches is told of its refusal once the peer has answered the Detach, one that accepts at once; each once
abbrev pub poll_failing : Option AttachError → Link → Polled
poll_failing None s = poll_waiting s.stop_reason s
poll_failing (Some e) s = if s.accepts || is_done s.phase then tells (Err e) (record s { failure = None }) else poll_waiting s.stop_reason s

abbrev pub polled : Link → Polled
polled s = if s.is_made then tells (Ok Done) s else poll_failing s.failure s

-- a poll, the link before and behind it: for want of memory nothing changes
abbrev pub Polls : Result AttachPoll AttachError → Polled → Link → Link → Type 0
Polls (Ok x) made old new = (made.answer ≡ Ok x) × (new ≡ made.link)
Polls (Err (error.Memory a)) made old new = Unit {0}
Polls (Err e) made old new = (made.answer ≡ Err e) × (new ≡ made.link)

-- ---- the detach

-- the peer's Detach is answered at once (section 2.6.6)
abbrev pub saying_detach : Bool → Link → Link
saying_detach closed s = record (saying (b.Detach (record { handle = s.own.handle; closed = closed; error = None })) s) { phase = phase.Detached }

abbrev pub failed_for : Option AmqpError → AttachFault → AttachError
failed_for (Some e) x = error.RemoteClosedWithError e
failed_for None x = told_of x

abbrev pub absent_terminus : Role → AttachFault
absent_terminus role.Sender = fault.IncomingTargetIsNone
absent_terminus role.Receiver = fault.IncomingSourceIsNone

abbrev pub failing : AttachFault → Detach → Link → Link
failing x d s = record (saying_detach d.closed s) { failure = Some (failed_for d.error x) }

-- both Detaches close the link, or neither does
abbrev pub agree : Bool → Bool → Bool
agree true closed = closed
agree false closed = not closed

-- else it is to be closed on a further attachment, at once where a call waits for that (section 2.6.6)
abbrev pub phase_behind : Bool → Bool → LinkPhase
phase_behind true parting = phase.Detached
phase_behind false true = phase.HandleWanted
phase_behind false false = phase.HalfClosed

-- the Detach of this end is answered
abbrev pub met : Detach → Link → Link
met d s = record s { phase = phase_behind (agree s.is_closed d.closed) s.is_parting; remote = Some d }

abbrev pub detach_in : LinkPhase → Detach → Link → Link
detach_in phase.AttachSent d s = failing fault.NonAttachFrameReceived d s
detach_in phase.DetachExpected d s = failing (absent_terminus s.own.role) d s
detach_in phase.Refused d s = record s { phase = phase.Detached }
detach_in phase.Attached d s = record (saying_detach d.closed s) { remote = Some d }
detach_in phase.DetachSent d s = met d s
detach_in phase.CloseSent d s = met d s
detach_in phase.RecloseSent d s = record s { phase = phase.Detached; last_error = d.error }
detach_in other d s = s

abbrev pub detach_read : Detach → Link → Link
detach_read d s = detach_in s.phase d s

-- this end closes the link
abbrev pub closing : Option AmqpError → Link → Link
closing error s = record (saying_close error s) { phase = phase.CloseSent; is_closed = true }

-- the session stops: the first reason stays
abbrev pub first_reason : Option SessionStopReason → SessionStopReason → Option SessionStopReason
first_reason None why = Some why
first_reason (Some first) why = Some first

abbrev pub stopped : SessionStopReason → Link → Link
stopped why s = record s { stop_reason = first_reason s.stop_reason why }

-- ---- refusals of calls

abbrev pub detached_by : Bool → Option AmqpError → LinkStateError
detached_by true (Some e) = state.RemoteClosedWithError e
detached_by true None = state.RemoteClosed
detached_by false (Some e) = state.RemoteDetachedWithError e
detached_by false None = state.RemoteDetached

abbrev pub is_attached : LinkPhase → Bool
is_attached phase.Attached = true
is_attached other = false

-- what was read of the peer, then what was told of the session
abbrev pub ended_by : Option Detach → Option SessionStopReason → Option LinkStateError
ended_by (Some d) stop = Some (detached_by d.closed d.error)
ended_by None (Some why) = Some (state.SessionStopped why)
ended_by None None = None

abbrev pub or_else : Option LinkStateError → Option LinkStateError → Option LinkStateError
or_else (Some e) next = Some e
or_else None next = next

-- a call that sends; of one that this end's Detach refuses, its sender says so
abbrev pub refusal : Link → Option LinkStateError
refusal s = if s.is_closed then Some state.IllegalState else or_else (ended_by s.remote s.stop_reason) (if is_attached s.phase || is_detaching s.phase then None else Some state.IllegalState)

abbrev pub stop_refusal : Option SessionStopReason → Option IllegalLinkStateError
stop_refusal None = None
stop_refusal (Some why) = Some (illegal.SessionStopped why)

-- a call that settles deliveries or gives credit
abbrev pub disposal_refusal : Link → Option IllegalLinkStateError
disposal_refusal s = if is_attached s.phase then stop_refusal s.stop_reason else Some illegal.IllegalState

abbrev pub stopped_by : Option SessionStopReason → Option LinkStateError
stopped_by None = None
stopped_by (Some why) = Some (state.SessionStopped why)

-- after a detach the link may be attached anew, after a close it may not
abbrev pub closed_by : Option Detach → Option SessionStopReason → Option LinkStateError
closed_by None stop = stopped_by stop
closed_by (Some d) stop = if d.closed then Some (detached_by true d.error) else stopped_by stop

-- a call that waits until a delivery is settled
abbrev pub settlement_refusal : Link → Option LinkStateError
settlement_refusal s =
    if s.is_gone then Some state.IllegalState else (if is_done s.phase then (if s.is_closed then Some state.IllegalState else closed_by s.remote s.stop_reason) else stopped_by s.stop_reason)

abbrev pub closes : Option Detach → Bool
closes None = false
closes (Some d) = d.closed

abbrev pub is_closed_by_one : Link → Bool
is_closed_by_one s = s.is_closed || closes s.remote

-- both ends have detached, and the link is closed (section 2.6.6), or this end has abandoned it: no outcome comes any more
abbrev pub is_closed_by_both : Link → Bool
is_closed_by_both s = s.is_gone || (is_done s.phase && is_closed_by_one s)
