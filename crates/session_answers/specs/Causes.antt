-- Why a call for a session is refused (OASIS AMQP 1.0, part 2, sections 2.5.1, 2.5.4 and 2.8.17).
use Rattle.std.specs.Prelude.{◌≡◌, ◌⊎◌, ℕ, IsSome, Contains, List, ◌∷◌, ◌++◌, Some, None}
use Rattle.amqp_frames.specs.declared.body.FrameBody.{FrameBody}
use Rattle.amqp_frames.specs.declared.body.FrameBody.TheVariants as b
use Rattle.amqp_frames.specs.declared.shared.ConnectionStopReason.{ConnectionStopReason}
use Rattle.amqp_frames.specs.declared.shared.SessionStopReason.{SessionStopReason}
use Rattle.amqp_frames.specs.declared.shared.SessionStopReason.TheVariants as reason
use Rattle.amqp_session.specs.declared.error.BeginError.{BeginError}
use Rattle.amqp_session.specs.declared.error.BeginError.TheVariants as begin
use Rattle.amqp_session.specs.declared.error.Error.{Error}
use Rattle.amqp_session.specs.declared.error.Error.TheVariants as error
use Rattle.amqp_session.specs.declared.error.Fault.{Fault}
use Rattle.amqp_session.specs.declared.error.Fault.TheVariants as fault
use Rattle.amqp_session.specs.Faults.{error_for}
use Rattle.amqp_sessions.specs.Laws.{IsBegin, IsEnd, IsEndFor}
use Rattle.session_answers.specs.Past.{Past, HasWritten, WasRead}

-- ---- a call that begins or accepts a session

-- What has passed where such a call is refused and the end has not refused it by itself: this end's Begin is out and
-- an End was read in place of the peer's; or the call has begun a session, and the connection has stopped for that.
abbrev pub BeginCause : BeginError → Past → ℕ → Type 0
BeginCause begin.RemoteEnded p name = HasWritten IsBegin name p.written × WasRead IsEnd name p
BeginCause (begin.SessionStopped (reason.ConnectionStopped why)) p name = Contains p.begins name × Contains p.stops why
BeginCause why p name = ⊥

-- the end has refused the call by itself with that error, or that has passed
abbrev pub IsNotBegun : BeginError → Past → ℕ → Type 0
IsNotBegun why p name = Contains p.refused (name, why) ⊎ BeginCause why p name

-- ---- a call that ends a session

-- a frame of a link on a handle
abbrev pub IsOnHandle : FrameBody → Type 0
IsOnHandle (b.Flow x) = IsSome x.handle
IsOnHandle (b.Transfer x payload) = Unit {0}
IsOnHandle (b.Detach x) = Unit {0}
IsOnHandle body = ⊥

-- an Attach
abbrev pub IsAttach : FrameBody → Type 0
IsAttach (b.Attach x) = Unit {0}
IsAttach body = ⊥

-- a Transfer
abbrev pub IsTransfer : FrameBody → Type 0
IsTransfer (b.Transfer x payload) = Unit {0}
IsTransfer body = ⊥

-- such a frame was read for that session, or its links had no place for an Attach
abbrev pub IsFaulty : Fault → Past → ℕ → Type 0
IsFaulty fault.UnattachedHandle p session = WasRead IsOnHandle session p
IsFaulty fault.HandleInUse p session = WasRead IsAttach session p
IsFaulty fault.TransferFrameToSender p session = WasRead IsTransfer session p
IsFaulty fault.RemoteAttachingLinkNameNotFound p session = Contains p.astray session

-- this end has ended that session for a fault: that has passed, and its End with the error of the fault is out
abbrev pub FaultCause : Fault → Past → ℕ → Type 0
FaultCause x p session = HasWritten (IsEndFor (Some (error_for x))) session p.written × IsFaulty x p session

-- why that session has stopped, where no fault of the peer's has ended it: a call has ended it, an End was read, or
-- its connection has stopped for that
abbrev pub StopCause : SessionStopReason → Past → ℕ → Type 0
StopCause reason.Ended p session = (call : ℕ) × Contains p.endings (call, session)
StopCause (reason.EndedWithError e) p session = (call : ℕ) × Contains p.endings (call, session)
StopCause reason.RemoteEnded p session = WasRead (IsEndFor None) session p
StopCause (reason.RemoteEndedWithError e) p session = WasRead (IsEndFor (Some e)) session p
StopCause (reason.ConnectionStopped why) p session = Contains p.stops why

-- the connection has stopped, as the sessions were told
abbrev pub HasStopped : Past → Type 0
HasStopped p = (why : ConnectionStopReason) × Contains p.stops why

-- before the call of that name another had ended the session
pub record IsEndedBefore (p : Past) (name session : ℕ) : Type 0 where
  pub other : ℕ
  pub before : List (ℕ × ℕ)
  pub behind : List (ℕ × ℕ)
  pub order : p.endings ≡ before ++ (name, session) ∷ behind
  pub earlier : Contains before (other, session)

-- What has passed where a call that ends that session is refused so. `IllegalState`: the connection has stopped, or
-- another call had ended the session before, or it is one that this end has begun, and the peer's Begin was awaited.
abbrev pub EndCause : Error → Past → ℕ → ℕ → Type 0
EndCause error.RemoteEnded p name session = WasRead (IsEndFor None) session p
EndCause (error.RemoteEndedWithError e) p name session = WasRead (IsEndFor (Some e)) session p
EndCause error.UnattachedHandle p name session = FaultCause fault.UnattachedHandle p session
EndCause error.HandleInUse p name session = FaultCause fault.HandleInUse p session
EndCause error.TransferFrameToSender p name session = FaultCause fault.TransferFrameToSender p session
EndCause error.RemoteAttachingLinkNameNotFound p name session =
    FaultCause fault.RemoteAttachingLinkNameNotFound p session
EndCause error.IllegalState p name session = HasStopped p ⊎ (IsEndedBefore p name session ⊎ Contains p.begins session)
EndCause why p name session = ⊥

-- the call of that name was one that ends a session, and that is why it is refused
pub record IsNotEnded (why : Error) (p : Past) (name : ℕ) : Type 0 where
  pub session : ℕ
  pub asked : Contains p.endings (name, session)
  pub cause : EndCause why p name session
