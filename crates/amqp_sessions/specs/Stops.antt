-- The stop of a connection, as its sessions see it (OASIS AMQP 1.0, part 2, sections 2.4.3 and 2.5.4).
use Rattle.std.specs.Prelude.{ℕ, is_none, filter, map, slice_get, List, [], ◌∷◌, ◌++◌, Option, Some, None}
use Rattle.std.specs.Map.{values_of}
use Rattle.indexmap.specs.Layout.{set_value_at}
use Rattle.amqp_calls.specs.declared.reply.SessionReply.TheVariants as reply
use Rattle.amqp_frames.specs.declared.shared.ConnectionStopReason.{ConnectionStopReason}
use Rattle.amqp_frames.specs.declared.shared.SessionStopReason.TheVariants.{ConnectionStopped}
use Rattle.amqp_session.specs.declared.error.BeginError.TheVariants.{SessionStopped}
use Rattle.amqp_session.specs.declared.error.Error.TheVariants.{IllegalState}
use Rattle.amqp_session.specs.declared.session.LinkInput.{LinkInput}
use Rattle.amqp_sessions.specs.declared.sessions.Waiting.{Waiting}
use Rattle.amqp_sessions.specs.declared.sessions.Waiting.TheVariants.{Begin, Accept}
use Rattle.amqp_sessions.specs.Parts.{EndpointState, named}
use Rattle.amqp_sessions.specs.Endpoint.{cut, relayed, last_words, over}
use Rattle.amqp_sessions.specs.Frames.{refused}
use Rattle.amqp_sessions.specs.State.{State, let_go, answering}

-- a session of the table goes on, and says that to its links
abbrev pub turned_entry : (EndpointState → EndpointState) → ℕ × EndpointState → ℕ × EndpointState
turned_entry turn e = (e.0, turn e.1)

-- what the sessions of the table say to their links, one after another
abbrev pub said : (EndpointState → List LinkInput) → List (ℕ × EndpointState) → List (ℕ × LinkInput)
said say [] = []
said say (e ∷ es) = named e.0 (say e.1) ++ said say es

abbrev pub all_turned : (EndpointState → EndpointState) → (EndpointState → List LinkInput) → State → State
all_turned turn say s = record s { endpoints = map (turned_entry turn) s.endpoints; incoming = s.incoming ++ said say s.endpoints }

-- the name of the session at a place of the table
abbrev pub name_at : Option (ℕ × EndpointState) → Option ℕ
name_at None = None
name_at (Some e) = Some e.0

-- the session at that place goes on, and says that to its links
abbrev pub turned_in : (EndpointState → EndpointState) → (EndpointState → List LinkInput) → ℕ → ℕ → Option EndpointState → State → State
turned_in turn say at name None s = s
turned_in turn say at name (Some e) s = record s { endpoints = set_value_at s.endpoints at (turn e); incoming = s.incoming ++ named name (say e) }

abbrev pub turned_named : (EndpointState → EndpointState) → (EndpointState → List LinkInput) → ℕ → Option ℕ → State → State
turned_named turn say at None s = s
turned_named turn say at (Some name) s = turned_in turn say at name (slice_get (values_of s.endpoints) at) s

abbrev pub turned_at : (EndpointState → EndpointState) → (EndpointState → List LinkInput) → ℕ → State → State
turned_at turn say at s = turned_named turn say at (name_at (slice_get s.endpoints at)) s

-- a session stops: what it has for its links by then is handed to them
abbrev pub halting : ConnectionStopReason → EndpointState → EndpointState
halting why e = relayed (cut why e)

abbrev pub stop_of : ConnectionStopReason → EndpointState → List LinkInput
stop_of why e = (cut why e).session.incoming

-- each session stops
abbrev pub halted : ConnectionStopReason → State → State
halted why s = all_turned (halting why) (stop_of why) s

-- to the links of each session nothing more comes, of which they are told
abbrev pub finished : State → State
finished s = all_turned over last_words s

-- the `end` that waits at a session of the table
abbrev pub ending_at : Option (ℕ × EndpointState) → Option ℕ
ending_at None = None
ending_at (Some e) = e.1.ending

-- an `end` that waits is answered
abbrev pub end_answered : Option ℕ → State → State
end_answered None s = s
end_answered (Some end) s = answering end (reply.SessionError IllegalState) s

abbrev pub ends_answered : List (ℕ × EndpointState) → State → State
ends_answered [] s = s
ends_answered (e ∷ es) s = ends_answered es (end_answered e.1.ending s)

-- each `end` that waits is answered, and its session let go
abbrev pub without_ends : State → State
without_ends s = record s { endpoints = filter (λ e. is_none e.1.ending) s.endpoints }

abbrev pub ends_concluded : State → State
ends_concluded s = without_ends (ends_answered s.endpoints s)

-- a `begin` that waits is refused; an `accept_session` goes on waiting
abbrev pub begin_concluded : Option Waiting → ConnectionStopReason → State → State
begin_concluded None why s = s
begin_concluded (Some (Accept name numbers)) why s = s
begin_concluded (Some (Begin name)) why s = refused name (SessionStopped (ConnectionStopped why)) (let_go name s)

-- the connection has stopped
abbrev pub concluded : ConnectionStopReason → State → State
concluded why s = let t = ends_concluded (finished (halted why s)) in begin_concluded t.waiting why t
