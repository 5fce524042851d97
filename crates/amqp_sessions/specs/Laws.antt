-- What follows of the rules (OASIS AMQP 1.0, part 2, sections 2.5.1 and 2.5.4).
use Rattle.std.specs.Prelude.{◌≡◌, ◌⊎◌, ℕ, All, List, [], ◌∷◌, ◌++◌, Option, Some, None}
use Rattle.amqp_calls.specs.declared.reply.Reply.TheVariants.{Session}
use Rattle.amqp_calls.specs.declared.reply.SessionReply.{SessionReply}
use Rattle.amqp_calls.specs.declared.reply.SessionReply.TheVariants as reply
use Rattle.amqp_composites.specs.declared.error.Error.{Error as AmqpError}
use Rattle.amqp_frames.specs.declared.body.FrameBody.{FrameBody}
use Rattle.amqp_frames.specs.declared.body.FrameBody.TheVariants as b
use Rattle.amqp_session.specs.declared.error.BeginError.TheVariants.{RemoteEnded}
use Rattle.amqp_session.specs.declared.error.Error.TheVariants.{RemoteEndedWithError}
use Rattle.amqp_session.specs.declared.session.SessionState.TheVariants as state
use Rattle.amqp_session.specs.State.{Framed}
use Rattle.amqp_sessions.specs.Parts.{EndpointState}
use Rattle.amqp_sessions.specs.Frames.{place_of, heard}
use Rattle.amqp_sessions.specs.State.{State, endpoint_of}

-- a Begin
abbrev pub IsBegin : FrameBody → Type 0
IsBegin (b.Begin x) = Unit {0}
IsBegin body = ⊥

-- an End
abbrev pub IsEnd : FrameBody → Type 0
IsEnd (b.End x) = Unit {0}
IsEnd body = ⊥

-- an End for that error, or for none
abbrev pub IsEndFor : Option AmqpError → FrameBody → Type 0
IsEndFor error (b.End x) = x.error ≡ error
IsEndFor error body = ⊥

-- Which answers a frame of a session may bring, the session being so before it. The call that begins it is answered `session` where
-- this end has sent its Begin and the frame is the peer's, and refused where it is an End; the `end` that waits at it is answered
-- where this end has sent its End and the frame is the peer's: `ended` where that has no error, and else with the error.
abbrev pub IsMeant : FrameBody → ℕ → EndpointState → ℕ → SessionReply → Type 0
IsMeant body session e name reply.Session = (name ≡ session) × (e.session.state ≡ state.BeginSent) × IsBegin body
IsMeant body session e name (reply.BeginError why) =
    (name ≡ session) × (e.session.state ≡ state.BeginSent) × (why ≡ RemoteEnded) × IsEnd body
IsMeant body session e name reply.Ended = (e.ending ≡ Some name) × (e.session.state ≡ state.EndSent) × IsEndFor None body
IsMeant body session e name (reply.SessionError (RemoteEndedWithError error)) =
    (e.ending ≡ Some name) × (e.session.state ≡ state.EndSent) × IsEndFor (Some error) body
IsMeant body session e name answer = ⊥

-- a frame of a session brings one answer
pub record Brings (x : Framed) (s : State) : Type 0 where
  pub session : ℕ
  pub endpoint : EndpointState
  pub name : ℕ
  pub answer : SessionReply
  pub place : place_of x s ≡ Some session
  pub there : endpoint_of session s ≡ Some endpoint
  pub answers : (heard x s).replies ≡ s.replies ++ record { name = name; reply = Session answer } ∷ []
  pub meant : IsMeant x.body session endpoint name answer

-- no answer, or one that is meant
abbrev pub AnswersAtMostOne : Framed → State → Type 0
AnswersAtMostOne x s = ((heard x s).replies ≡ s.replies) ⊎ Brings x s

-- the End with which this end ends a session, or answers the peer's
abbrev pub end_on : ℕ → Framed
end_on channel = record { channel = channel; body = b.End (record { error = None }) }

-- the last of them
abbrev pub IsLast : Framed → List Framed → Type 0
IsLast x xs = (front : List Framed) × (xs ≡ front ++ x ∷ [])

-- a channel of this end is free again: the frame is the peer's End, and this end's was written before or is written now
pub record Frees (x : Framed) (s : State) : Type 0 where
  pub session : ℕ
  pub endpoint : EndpointState
  pub place : place_of x s ≡ Some session
  pub there : endpoint_of session s ≡ Some endpoint
  pub freed : (heard x s).freed ≡ s.freed ++ endpoint.session.channel ∷ []
  pub theirs : IsEnd x.body
  pub own : (endpoint.session.state ≡ state.EndSent) ⊎ IsLast (end_on endpoint.session.channel) (heard x s).output

abbrev pub FreesAtMostOne : Framed → State → Type 0
FreesAtMostOne x s = ((heard x s).freed ≡ s.freed) ⊎ Frees x s

-- where an `end` waits, this end has sent its End and the peer has not answered it
abbrev pub WaitsForEnd : EndpointState → Type 0
WaitsForEnd e = (e.ending ≡ None) ⊎ (e.session.state ≡ state.EndSent)

abbrev pub AllWaitForEnd : State → Type 0
AllWaitForEnd s = All (λ e. WaitsForEnd e.1) s.endpoints

-- no `end` waits
abbrev pub NoEndWaits : State → Type 0
NoEndWaits s = All (λ e. e.1.ending ≡ None) s.endpoints
