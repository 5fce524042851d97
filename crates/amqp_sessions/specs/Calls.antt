-- The calls for sessions (OASIS AMQP 1.0, part 2, sections 2.5.1, 2.5.4 and 2.7.2).
use Rattle.std.specs.Prelude.{◌≡◌, ◌==◌, ℕ, nat_eq, Bool, false, List, Option, Some, None}
use Rattle.indexmap.specs.IndexMap.{insert_entry}
use Rattle.amqp_calls.specs.declared.call.SessionCall.{SessionCall}
use Rattle.amqp_calls.specs.declared.call.SessionCall.TheVariants as call
use Rattle.amqp_calls.specs.declared.call.SessionNumbers.{SessionNumbers}
use Rattle.amqp_calls.specs.declared.reply.SessionReply.TheVariants as reply
use Rattle.amqp_frames.specs.declared.shared.IncomingSession.{IncomingSession}
use Rattle.amqp_session.specs.declared.error.Error.{Error}
use Rattle.amqp_session.specs.declared.session.SessionState.{SessionState}
use Rattle.amqp_session.specs.declared.session.SessionState.TheVariants as state
use Rattle.amqp_session.specs.declared.settings.SessionSettings.{SessionSettings}
use Rattle.amqp_session.specs.Begin as session
use Rattle.amqp_session.specs.State.{State as Session}
use Rattle.amqp_sessions.specs.declared.sessions.Waiting.{Waiting}
use Rattle.amqp_sessions.specs.declared.sessions.Waiting.TheVariants.{Begin, Accept}
use Rattle.amqp_sessions.specs.Parts.{EndpointState, idle}
use Rattle.amqp_sessions.specs.Endpoint.{asking_end, having_asked, handle_max_of}
use Rattle.amqp_sessions.specs.Frames.{joined, heard_early}
use Rattle.amqp_sessions.specs.State.{State, endpoint_of, with_endpoint, let_go, answering}

-- no `end` waits at the endpoint, and none was refused
abbrev pub IsIdle : Option EndpointState → Type 0
IsIdle None = ⊥
IsIdle (Some e) = (e.ending ≡ None) × (e.is_left ≡ false)

-- whether the `begin` of that name waits
abbrev pub begins : ℕ → Option Waiting → Bool
begins name None = false
begins name (Some (Accept other numbers)) = false
begins name (Some (Begin other)) = other == name

-- a session that was made, that no call has let go, and at which no call waits
abbrev pub MayEnd : ℕ → State → Type 0
MayEnd name s = (begins name s.waiting ≡ false) × IsIdle (endpoint_of name s)

-- the highest handle that this end may use on the session of that name (section 2.7.2)
abbrev pub handle_max_at : Option EndpointState → Option ℕ
handle_max_at None = None
handle_max_at (Some e) = handle_max_of e.session

abbrev pub handle_max : ℕ → State → Option ℕ
handle_max name s = handle_max_at (endpoint_of name s)

-- sessions are begun and accepted one at a time
abbrev pub MayCall : State → SessionCall → Type 0
MayCall s (call.Begin numbers) = s.waiting ≡ None
MayCall s (call.Accept numbers) = s.waiting ≡ None
MayCall s (call.End name error) = MayEnd name s

-- what a session is built with
abbrev pub settings : SessionNumbers → ℕ → SessionSettings
settings x limit = record {
  next_outgoing_id = x.next_outgoing_id;
  incoming_window = x.incoming_window;
  outgoing_window = x.outgoing_window;
  handle_max = x.handle_max;
  offered_capabilities = None;
  desired_capabilities = None;
  properties = None;
  max_frame_size = limit;
}

-- a session stands under the name of its call, and on its channel of this end
abbrev pub entered : ℕ → ℕ → Session → State → State
entered name channel session s = record s {
  endpoints = insert_entry nat_eq s.endpoints name (idle session);
  channels = insert_entry nat_eq s.channels channel name;
}

-- this end begins a session, and waits for the peer's Begin
abbrev pub begun : ℕ → SessionNumbers → ℕ → ℕ → State → State
begun name x channel limit s =
    let t = entered name channel (session.begun (settings x limit) channel) s in
    answering name reply.Pending (record t { waiting = Some (Begin name) })

-- this end waits for a Begin of the peer
abbrev pub awaiting : ℕ → SessionNumbers → State → State
awaiting name x s = answering name reply.Pending (record s { waiting = Some (Accept name x) })

-- this end answers the peer's Begin: the session is begun at both ends, and hears what came since
abbrev pub accepted : ℕ → SessionNumbers → ℕ → ℕ → IncomingSession → State → State
accepted name x channel limit incoming s =
    let t = entered name channel (session.accepted (settings x limit) channel incoming) s in
    heard_early incoming.channel (joined name incoming.channel t)

-- a session that calls have left is let go, but where the peer's End is awaited
abbrev pub left_in : SessionState → ℕ → State → State
left_in state.EndSent name s = s
left_in phase name s = let_go name s

abbrev pub left_at : Option EndpointState → ℕ → State → State
left_at None name s = s
left_at (Some e) name s = left_in e.session.state name s

abbrev pub left : ℕ → State → State
left name s = left_at (endpoint_of name s) name s

-- an `end` waits, or is refused
abbrev pub end_told : Option Error → ℕ → ℕ → State → State
end_told None name session s = answering name reply.Pending s
end_told (Some refusal) name session s = answering name (reply.SessionError refusal) (left session s)

abbrev pub end_at : Option EndpointState → ℕ → ℕ → Option (List ℕ) → State → State
end_at None name session condition s = s
end_at (Some e) name session condition s =
    end_told (asking_end condition e).answer name session (with_endpoint session (having_asked name condition e) s)

-- a call ends a session: its End is to be written (section 2.5.4)
abbrev pub ended : ℕ → ℕ → Option (List ℕ) → State → State
ended name session condition s = end_at (endpoint_of session s) name session condition s
