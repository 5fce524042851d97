-- What frames and calls make of a session endpoint (OASIS AMQP 1.0, part 2, sections 2.5.4 and 2.5.5).
use Rattle.std.specs.Prelude.{ℕ, Bool, true, false, List, [], ◌∷◌, Option, Some, None, if◌then◌else◌}
use Rattle.amqp_composites.specs.declared.error.Error.{Error as AmqpError}
use Rattle.amqp_frames.specs.declared.shared.ConnectionStopReason.{ConnectionStopReason}
use Rattle.amqp_frames.specs.declared.shared.LinkFrame.{LinkFrame}
use Rattle.amqp_frames.specs.declared.shared.SessionStopReason.TheVariants.{ConnectionStopped}
use Rattle.amqp_session.specs.declared.error.Error.{Error}
use Rattle.amqp_session.specs.declared.session.LinkInput.{LinkInput}
use Rattle.amqp_session.specs.declared.session.LinkInput.TheVariants.{Over}
use Rattle.amqp_session.specs.declared.session.SessionState.{SessionState}
use Rattle.amqp_session.specs.declared.session.SessionState.TheVariants as state
use Rattle.amqp_session.specs.State.{State as Session, Framed, Made}
use Rattle.amqp_session.specs.Ends.{end_asked, attach_refused, stopped}
use Rattle.amqp_session.specs.Frames as session
use Rattle.amqp_sessions.specs.declared.endpoint.Change.{Change}
use Rattle.amqp_sessions.specs.declared.endpoint.Change.TheVariants.{Same, Begun, Refused, Gone, Answered}
use Rattle.amqp_sessions.specs.Parts.{EndpointState, with_session}

-- what a frame makes of a session, by its states before and behind it (section 2.5.5)
abbrev pub change_between : SessionState → SessionState → Change
change_between state.BeginSent state.Mapped = Begun
change_between state.BeginSent state.Unmapped = Refused
change_between state.Mapped state.Unmapped = Gone
change_between state.EndSent state.Unmapped = Answered
change_between old new = Same

-- the session hears a frame
abbrev pub hearing : Framed → EndpointState → Made
hearing x e = session.heard x e.session

abbrev pub change_of : Framed → EndpointState → Change
change_of x e = change_between e.session.state (hearing x e).state.state

-- both ends have ended the session with that
abbrev pub ends : Change → Bool
ends Refused = true
ends Gone = true
ends Answered = true
ends c = false

-- the session says by itself that nothing more comes
abbrev pub turned : Change → EndpointState → EndpointState
turned c e = record e { is_over = if ends c then true else e.is_over }

abbrev pub having_heard : Framed → EndpointState → EndpointState
having_heard x e = turned (change_of x e) (with_session (hearing x e).state e)

-- a link of the session writes a frame, which is dropped where the session is not begun at both ends (section 2.5.5)
abbrev pub having_written : LinkFrame → EndpointState → EndpointState
having_written x e = with_session (session.told_in e.session.state x e.session).state e

-- the session is ended for an Attach of a link that this end does not have
abbrev pub having_refused : EndpointState → EndpointState
having_refused e = with_session (attach_refused e.session.state e.session).state e

-- the highest handle that this end may use, while both ends have begun the session and none has ended it (section 2.7.2)
abbrev pub handle_max_in : SessionState → ℕ → Option ℕ
handle_max_in state.Mapped n = Some n
handle_max_in phase n = None

abbrev pub handle_max_of : Session → Option ℕ
handle_max_of s = handle_max_in s.state s.handle_max

-- the error of that condition, if there is one (section 2.8.14)
abbrev pub error_of : Option (List ℕ) → Option AmqpError
error_of None = None
error_of (Some condition) = Some (record { condition = condition; description = None; info = None })

-- a call ends the session, for the error of that condition if there is one
abbrev pub asking_end : Option (List ℕ) → EndpointState → Made
asking_end condition e = end_asked e.session.state (error_of condition) e.session

-- the `end` waits for the peer's End; where it is refused, calls leave the session
abbrev pub waits_for : Option Error → ℕ → EndpointState → EndpointState
waits_for None name e = record e { ending = Some name }
waits_for (Some refusal) name e = record e { is_left = true }

abbrev pub having_asked : ℕ → Option (List ℕ) → EndpointState → EndpointState
having_asked name condition e = waits_for (asking_end condition e).answer name (with_session (asking_end condition e).state e)

-- the session stops with its connection
abbrev pub cut : ConnectionStopReason → EndpointState → EndpointState
cut why e = with_session (stopped state.Unmapped (ConnectionStopped why) e.session) e

-- all that the session has for its links was handed to them
abbrev pub relayed : EndpointState → EndpointState
relayed e = with_session (record e.session { incoming = [] }) e

-- its links are told that nothing more comes, where they were not told
abbrev pub last_words : EndpointState → List LinkInput
last_words e = if e.is_over then [] else Over ∷ []

abbrev pub over : EndpointState → EndpointState
over e = record e { is_over = true }

-- that, and all that it has to write was written
abbrev pub emptied : EndpointState → EndpointState
emptied e = with_session (record e.session { output = []; incoming = [] }) e
