-- What an end has its sessions do.
use Rattle.std.specs.Prelude.{◌≡◌, ℕ, false, List, Option, Some, Err, ⊤}
use Rattle.amqp_sessions.specs.amqp_calls.declared.call.SessionNumbers.{SessionNumbers}
use Rattle.amqp_frames.specs.declared.shared.ConnectionStopReason.{ConnectionStopReason}
use Rattle.amqp_engine.specs.declared.error.AllocSessionError.TheVariants.{ChannelMaxReached}
use Rattle.amqp_peer.specs.declared.held.Held.{Held}
use Rattle.amqp_peer.specs.Held.{reason_of}
use Rattle.amqp_peer.specs.Passing.{is_opened, AllocatesLate}
use Rattle.amqp_session.specs.declared.error.BeginError.{BeginError}
use Rattle.amqp_session.specs.declared.error.BeginError.TheVariants.{IllegalState, LocalChannelMaxReached}
use Rattle.amqp_sessions.specs.State.{State, handed_out}
use Rattle.amqp_sessions.specs.Calls.{begun, awaiting, ended}
use Rattle.amqp_sessions.specs.Frames.{refused}
use Rattle.amqp_sessions.specs.Stops.{halted, concluded}

-- what an end has its sessions do by themselves: a session is begun, a Begin of the peer awaited, a call refused, a session ended; the
-- frames of a session are to go out; a Close is out; the connection has stopped
pub data Move : Type 0 where
  Begun : ℕ → SessionNumbers → ℕ → ℕ → Move
  Awaiting : ℕ → SessionNumbers → Move
  Refused : ℕ → BeginError → Move
  Ended : ℕ → ℕ → Option (List ℕ) → Move
  HandedOut : ℕ → Move
  Halted : ConnectionStopReason → Move
  Concluded : ConnectionStopReason → Move

-- the sessions behind a move
abbrev pub on : Move → State → State
on (Begun name x channel limit) s = begun name x channel limit s
on (Awaiting name x) s = awaiting name x s
on (Refused name error) s = refused name error s
on (Ended name session condition) s = ended name session condition s
on (HandedOut name) s = handed_out name s
on (Halted why) s = halted why s
on (Concluded why) s = concluded why s

-- A call for a session is refused while the connection is not open (part 2, section 2.4.6), or where no channel up to the agreed
-- channel-max is free (section 2.7.1), and for nothing else.
abbrev pub IsRefusedFor : {L : Type 0} → BeginError → Held L → Type 0
IsRefusedFor IllegalState h = is_opened h ≡ false
IsRefusedFor LocalChannelMaxReached h = AllocatesLate h (Err ChannelMaxReached) h
IsRefusedFor error h = ⊥

-- the cause of a move in the connection as it is held then: the sessions are told of its stop with what has stopped it
abbrev pub IsCaused : {L : Type 0} → Move → Held L → Type 0
IsCaused (Refused name error) h = IsRefusedFor error h
IsCaused (Concluded why) h = reason_of h ≡ Some why
IsCaused m h = ⊤
