-- The end of a session (OASIS AMQP 1.0, part 2, sections 2.5.4 and 2.7.8).
use Rattle.std.specs.Prelude.{[], Option, Some, None}
use Rattle.amqp_composites.specs.declared.error.Error.{Error as AmqpError}
use Rattle.amqp_frames.specs.declared.body.FrameBody.TheVariants as b
use Rattle.amqp_frames.specs.declared.shared.SessionStopReason.{SessionStopReason}
use Rattle.amqp_frames.specs.declared.shared.SessionStopReason.TheVariants as reason
use Rattle.amqp_session.specs.declared.error.Error.{Error}
use Rattle.amqp_session.specs.declared.error.Error.TheVariants as error
use Rattle.amqp_session.specs.declared.error.Fault.{Fault}
use Rattle.amqp_session.specs.declared.error.Fault.TheVariants as fault
use Rattle.amqp_session.specs.declared.session.LinkInput.TheVariants as input
use Rattle.amqp_session.specs.declared.session.SessionState.{SessionState}
use Rattle.amqp_session.specs.declared.session.SessionState.TheVariants as state
use Rattle.amqp_session.specs.Faults.{error_for, told_of}
use Rattle.amqp_session.specs.State.{State, Made, works, refuses, saying, handing}

-- the first reason stays, and is told to the links
abbrev pub stopping : Option SessionStopReason → SessionStopReason → State → State
stopping None why s = handing (input.Stopped why) (record s { stop_reason = Some why })
stopping (Some first) why s = s

-- a session in that state sends and holds no more
abbrev pub stopped : SessionState → SessionStopReason → State → State
stopped phase why s = stopping s.stop_reason why (record s { state = phase; held = [] })

-- an End is written
abbrev pub saying_end : Option AmqpError → State → State
saying_end error s = saying (b.End (record { error = error })) s

-- why this end has ended the session
abbrev pub own_reason : Option AmqpError → SessionStopReason
own_reason None = reason.Ended
own_reason (Some e) = reason.EndedWithError e

-- why the peer has
abbrev pub remote_reason : Option AmqpError → SessionStopReason
remote_reason None = reason.RemoteEnded
remote_reason (Some e) = reason.RemoteEndedWithError e

-- this end ends the session
abbrev pub ending : Option AmqpError → State → State
ending error s = saying_end error (stopped state.EndSent (own_reason error) s)

-- this end ends the session for a frame that it has read
abbrev pub failing : Fault → State → Made
failing x s = refuses (told_of x) (record (ending (Some (error_for x)) s) { fault = Some x })

-- the peer ends the session, which is answered at once: nothing more comes
abbrev pub ended : Option AmqpError → State → State
ended error s = handing input.Over (saying_end None (stopped state.Unmapped (remote_reason error) s))

-- the peer answers the End of this end: nothing more comes
abbrev pub answered : Option AmqpError → State → Made
answered None s = works (handing input.Over (record s { state = state.Unmapped }))
answered (Some e) s = refuses (error.RemoteEndedWithError e) (handing input.Over (record s { state = state.Unmapped }))

-- why a session that is not mapped is not ended
abbrev pub refusal_for : Option SessionStopReason → Error
refusal_for (Some reason.RemoteEnded) = error.RemoteEnded
refusal_for (Some (reason.RemoteEndedWithError e)) = error.RemoteEndedWithError e
refusal_for why = error.IllegalState

abbrev pub refusal : Option Fault → Option SessionStopReason → Error
refusal (Some x) why = told_of x
refusal None why = refusal_for why

-- a call that ends the session, which ends only where both ends have begun it
abbrev pub end_asked : SessionState → Option AmqpError → State → Made
end_asked state.Mapped error s = works (ending error s)
end_asked phase error s = refuses (refusal s.fault s.stop_reason) s

-- the links have no place for an Attach of the peer: the session is ended where both ends have begun it
abbrev pub attach_refused : SessionState → State → Made
attach_refused state.Mapped s = failing fault.RemoteAttachingLinkNameNotFound s
attach_refused phase s = refuses error.IllegalState s
