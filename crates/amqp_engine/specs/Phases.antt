-- How far an engine is (OASIS AMQP 1.0, part 2, section 2.4.6).
use Rattle.std.specs.Prelude.{Bool, true, false}
use Rattle.amqp_transport.specs.amqp_frames.declared.body.FrameBody.{FrameBody}
use Rattle.amqp_transport.specs.amqp_frames.declared.body.FrameBody.TheVariants as b
use Rattle.amqp_transport.specs.amqp_frames.declared.shared.ConnectionState.{ConnectionState}
use Rattle.amqp_transport.specs.amqp_frames.declared.shared.ConnectionState.TheVariants as state
use Rattle.amqp_engine.specs.declared.phase.BodyKind.{BodyKind}
use Rattle.amqp_engine.specs.declared.phase.BodyKind.TheVariants as kind
use Rattle.amqp_engine.specs.declared.phase.Phase.{Phase}
use Rattle.amqp_engine.specs.declared.phase.Phase.TheVariants as p

-- what a body is for a connection
abbrev pub kind_of : FrameBody → BodyKind
kind_of (b.Open x) = kind.Open
kind_of (b.Close x) = kind.Close
kind_of b.Empty = kind.Empty
kind_of body = kind.Session

-- nothing more comes
abbrev pub is_stopped : Phase → Bool
is_stopped p.Ended = true
is_stopped p.Failed = true
is_stopped phase = false

-- the transport failed, or an own frame was too large
abbrev pub has_failed : Phase → Bool
has_failed p.Failed = true
has_failed phase = false

-- session frames may be written, and a Close
abbrev pub is_open : Phase → Bool
is_open p.Opened = true
is_open phase = false

-- frames of the peer are heard, and none was rejected or a Close
abbrev pub hears : Phase → Bool
hears p.OpenSent = true
hears p.Opened = true
hears phase = false

-- the standard's name of it
abbrev pub state_of : Phase → ConnectionState
state_of p.OpenSent = state.OpenSent
state_of p.Refused = state.OpenSent
state_of p.Opened = state.Opened
state_of (p.Rejected why) = state.Opened
state_of p.CloseReceived = state.CloseReceived
state_of p.CloseSent = state.CloseSent
state_of p.Discarding = state.Discarding
state_of p.Ended = state.End
state_of p.Failed = state.End

-- a frame of the connection itself is awaited
abbrev pub awaits : Phase → Bool
awaits p.OpenSent = true
awaits p.CloseSent = true
awaits p.Discarding = true
awaits phase = false

-- it may stand between Open and Close
abbrev pub IsInner : BodyKind → Type 0
IsInner kind.Session = Unit {0}
IsInner kind.Empty = Unit {0}
IsInner kind.Open = ⊥
IsInner kind.Close = ⊥

abbrev pub IsClose : BodyKind → Type 0
IsClose kind.Close = Unit {0}
IsClose kind.Open = ⊥
IsClose kind.Session = ⊥
IsClose kind.Empty = ⊥
