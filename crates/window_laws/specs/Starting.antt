-- A session from its begin on: what it has read, and what it writes (OASIS AMQP 1.0, part 2, sections 2.5.1 and 2.7.2).
use Rattle.std.specs.Prelude.{ℕ, List, [], ◌∷◌, ◌++◌}
use Rattle.amqp_frames.specs.declared.body.FrameBody.TheVariants as b
use Rattle.amqp_frames.specs.declared.shared.IncomingSession.{IncomingSession}
use Rattle.amqp_session.specs.declared.settings.SessionSettings.{SessionSettings}
use Rattle.amqp_session.specs.Begin.{begun, accepted}
use Rattle.amqp_session.specs.State.{State, Framed}
use Rattle.session_laws.specs.Handing.{heard}
use Rattle.session_laws.specs.Holding.{Move, written}

-- this end begins a session on a channel, or it answers the peer's Begin, which it has read
pub data Start : Type 0 where
  begins : SessionSettings → ℕ → Start
  answers : SessionSettings → ℕ → IncomingSession → Start

abbrev pub settings_of : Start → SessionSettings
settings_of (begins x channel) = x
settings_of (answers x channel incoming) = x

-- the session, whose Begin is to be written
abbrev pub session_of : Start → State
session_of (begins x channel) = begun x channel
session_of (answers x channel incoming) = accepted x channel incoming

abbrev pub read_at_first : Start → List Framed
read_at_first (begins x channel) = []
read_at_first (answers x channel incoming) = record { channel = incoming.channel; body = b.Begin incoming.begin } ∷ []

-- the frames that it has read, in order
abbrev pub reads : Start → List Move → List Framed
reads u js = read_at_first u ++ heard js

-- the frames that it has written, in order
abbrev pub writes : Start → List Move → List Framed
writes u js = written (session_of u) js

-- the window with which it was built
abbrev pub window : Start → ℕ
window u = (settings_of u).incoming_window

-- the number of its first Transfer
abbrev pub first_number : Start → ℕ
first_number u = (settings_of u).next_outgoing_id
