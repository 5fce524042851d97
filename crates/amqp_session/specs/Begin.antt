-- The begin of a session (OASIS AMQP 1.0, part 2, sections 2.5.1 and 2.7.2).
use Rattle.std.specs.Prelude.{ℕ, min, [], ◌∷◌, Option, Some, None, Result, Ok, Err}
use Rattle.amqp_performatives.specs.declared.begin.Begin.{Begin}
use Rattle.amqp_frames.specs.declared.body.FrameBody.TheVariants as b
use Rattle.amqp_frames.specs.declared.shared.IncomingSession.{IncomingSession}
use Rattle.amqp_session.specs.declared.settings.SessionSettings.{SessionSettings}
use Rattle.amqp_session.specs.declared.session.SessionState.TheVariants as state
use Rattle.amqp_session.specs.declared.error.BeginError.{BeginError}
use Rattle.amqp_session.specs.declared.error.BeginError.TheVariants.{Memory}
use Rattle.amqp_session.specs.State.{State}
use Rattle.amqp_session.specs.Windows.{first_windows, windows_begun}

-- the Begin that the settings say; an answer names the channel of the peer's Begin
abbrev pub begin_of : SessionSettings → Option ℕ → Begin
begin_of x remote = record { remote_channel = remote; next_outgoing_id = x.next_outgoing_id; incoming_window = x.incoming_window; outgoing_window = x.outgoing_window; handle_max = x.handle_max; offered_capabilities = x.offered_capabilities; desired_capabilities = x.desired_capabilities; properties = x.properties }

-- a session whose Begin is to be written
abbrev pub asked : SessionSettings → ℕ → Option ℕ → State
asked x channel remote = record { state = state.BeginSent; channel = channel; remote_channel = remote; own_handle_max = x.handle_max; handle_max = x.handle_max; max_frame_size = x.max_frame_size; windows = first_windows x.next_outgoing_id x.incoming_window x.outgoing_window; held = []; inputs = []; incoming = []; output = record { channel = channel; body = b.Begin (begin_of x remote) } ∷ []; fault = None; stop_reason = None }

-- the peer's Begin was read: no handle above either end's handle-max is used
abbrev pub mapped : ℕ → Begin → State → State
mapped remote x s = record s { state = state.Mapped; remote_channel = Some remote; handle_max = min s.own_handle_max x.handle_max; windows = windows_begun x s.windows }

-- this end begins a session
abbrev pub begun : SessionSettings → ℕ → State
begun x channel = asked x channel None

-- this end answers the peer's Begin
abbrev pub accepted : SessionSettings → ℕ → IncomingSession → State
accepted x channel incoming = mapped incoming.channel incoming.begin (asked x channel (Some incoming.channel))

-- the one refusal is want of memory
abbrev pub IsShort : {X : Type 0} → Result X BeginError → Type 0
IsShort (Ok x) = Unit {0}
IsShort (Err (Memory a)) = Unit {0}
IsShort (Err e) = ⊥
