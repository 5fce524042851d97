-- What answers to calls for sessions stand for (OASIS AMQP 1.0, part 2, sections 2.5.1 and 2.5.4).
use Rattle.std.specs.Prelude.{◌≡◌, ◌⊎◌, ℕ, All, Contains, List, ◌++◌, map, Option, Some, None, ⊤}
use Rattle.amqp_calls.specs.declared.reply.NamedReply.{NamedReply}
use Rattle.amqp_calls.specs.declared.reply.Reply.{Reply}
use Rattle.amqp_calls.specs.declared.reply.Reply.TheVariants.{Connection, Session, Link}
use Rattle.amqp_calls.specs.declared.reply.SessionReply.{SessionReply}
use Rattle.amqp_calls.specs.declared.reply.SessionReply.TheVariants as reply
use Rattle.amqp_frames.specs.declared.shared.SessionStopReason.{SessionStopReason}
use Rattle.amqp_session.specs.declared.error.Fault.{Fault}
use Rattle.amqp_session.specs.declared.session.SessionState.{SessionState}
use Rattle.amqp_session.specs.declared.session.SessionState.TheVariants as state
use Rattle.amqp_session.specs.State.{Framed}
use Rattle.amqp_sessions.specs.declared.sessions.Waiting.{Waiting}
use Rattle.amqp_sessions.specs.declared.sessions.Waiting.TheVariants.{Begin}
use Rattle.amqp_sessions.specs.Laws.{IsBegin, IsEnd, IsEndFor}
use Rattle.amqp_sessions.specs.Parts.{EndpointState}
use Rattle.amqp_sessions.specs.State.{State}
use Rattle.session_answers.specs.Past.{Past, HasWritten, IsBeginFor, HasBegun, WasRead}
use Rattle.session_answers.specs.Causes.{IsNotBegun, FaultCause, StopCause, IsNotEnded}

-- a Begin of the peer for the session that the call of that name has made was read, and this end's is out, or is the
-- answer that the call gave to the peer's
pub record IsBegun (p : Past) (name : ℕ) : Type 0 where
  pub begin : Framed
  pub theirs : IsBeginFor p name begin
  pub read : Contains p.read begin
  pub own : HasWritten IsBegin name p.written ⊎ Contains p.accepted (name, begin)

-- the call of that name was one that ends a session, the session has put out its End, and that of the peer for it was
-- read, without an error
pub record IsEnded (p : Past) (name : ℕ) : Type 0 where
  pub session : ℕ
  pub asked : Contains p.endings (name, session)
  pub own : HasWritten IsEnd session p.written
  pub theirs : WasRead (IsEndFor None) session p

-- what an answer stands for: the Begin or the End of both, or why the call is refused; of `pending` nothing is said
abbrev pub Stands : Past → ℕ → SessionReply → Type 0
Stands p name reply.Session = IsBegun p name
Stands p name reply.Ended = IsEnded p name
Stands p name (reply.BeginError why) = IsNotBegun why p name
Stands p name (reply.SessionError why) = IsNotEnded why p name
Stands p name reply.Pending = ⊤

-- an answer of a session, among those of all
abbrev pub StandsAs : Past → ℕ → Reply → Type 0
StandsAs p name (Session answer) = Stands p name answer
StandsAs p name (Connection answer) = ⊤
StandsAs p name (Link answer) = ⊤

abbrev pub AllStand : Past → List NamedReply → Type 0
AllStand p answers = All (λ (r : NamedReply). StandsAs p r.name r.reply) answers

-- frames under the name of their session
abbrev pub under : ℕ → List Framed → List (ℕ × Framed)
under name xs = map (λ x. (name, x)) xs

-- neither end has ended the session
abbrev pub IsOpen : SessionState → Type 0
IsOpen state.BeginSent = Unit {0}
IsOpen state.Mapped = Unit {0}
IsOpen phase = ⊥

-- What the state of a session stands for: where the peer's Begin is awaited, a call has begun it, and its Begin is
-- out or is about to go out; where the peer's End is, its End; an `end` that waits at it was asked for; and where it
-- has stopped it has a cause for that.
pub record EndpointStands (p : Past) (e : ℕ × EndpointState) : Type 0 where
  pub made : e.1.session.state ≡ state.BeginSent → Contains p.begins e.0
  pub begun : e.1.session.state ≡ state.BeginSent → HasWritten IsBegin e.0 (p.written ++ under e.0 e.1.session.output)
  pub ended : e.1.session.state ≡ state.EndSent → HasWritten IsEnd e.0 (p.written ++ under e.0 e.1.session.output)
  pub ending : (name : ℕ) → e.1.ending ≡ Some name → Contains p.endings (name, e.0)
  pub lasts : e.1.session.stop_reason ≡ None → IsOpen e.1.session.state
  pub faulty : (x : Fault) → e.1.session.fault ≡ Some x → FaultCause x p e.0
  pub stopped : (why : SessionStopReason) → e.1.session.fault ≡ None → e.1.session.stop_reason ≡ Some why
      → StopCause why p e.0

-- a channel of this end leads to a session that is on it, one of the peer to a session that it has begun on that
abbrev pub OwnStands : Past → ℕ × ℕ → Type 0
OwnStands p e = Contains p.channels (e.1, e.0)

abbrev pub PeerStands : Past → ℕ × ℕ → Type 0
PeerStands p e = HasBegun p e.1 e.0

-- a `begin` that waits has begun a session
abbrev pub WaitingStands : Past → Option Waiting → Type 0
WaitingStands p (Some (Begin name)) = Contains p.begins name
WaitingStands p other = ⊤

-- the same of all sessions, of the channels that lead to them, of the frames that none of them has heard yet, of the
-- call that waits, and of the answers that were not taken
pub record AreStanding (p : Past) (s : State) : Type 0 where
  pub endpoints : All (EndpointStands p) s.endpoints
  pub channels : All (OwnStands p) s.channels
  pub remotes : All (PeerStands p) s.remotes
  pub early : All (λ e. All (Contains p.read) e.1) s.early
  pub waiting : WaitingStands p s.waiting
  pub replies : AllStand p s.replies
