-- Frames of sessions among those of a connection (OASIS AMQP 1.0, part 2, sections 2.4 and 2.5).
use Rattle.std.specs.Prelude.{◌≡◌, ℕ, List, [], ◌∷◌, ◌++◌, Bool, true, false, not, filter, Option, Some, None}
use Rattle.amqp_frames.specs.declared.body.FrameBody.{FrameBody}
use Rattle.amqp_frames.specs.declared.body.FrameBody.TheVariants as b
use Rattle.amqp_frames.specs.declared.shared.IncomingSession.{IncomingSession}
use Rattle.amqp_frames.specs.Session.{of_session}
use Rattle.amqp_transport.specs.declared.frames.Frame.{Frame}
use Rattle.amqp_engine.specs.Channels.{Channels}

-- those of sessions among these frames
abbrev pub sessions_of : List Frame → List Frame
sessions_of xs = filter (λ (x : Frame). of_session x.body) xs

abbrev pub list_of : Option Frame → List Frame
list_of None = []
list_of (Some x) = x ∷ []

-- the frame by which the peer asks for a session
abbrev pub asking : IncomingSession → Frame
asking x = record { channel = x.channel; body = b.Begin x.begin }

-- a Begin without a remote-channel asks for a session, and no other frame does (section 2.7.2)
abbrev pub asks_by : Option ℕ → Bool
asks_by None = true
asks_by (Some channel) = false

abbrev pub asks : FrameBody → Bool
asks (b.Begin x) = asks_by x.remote_channel
asks body = false

-- the frames that ask for a session, among these
abbrev pub asking_of : List Frame → List Frame
asking_of xs = filter (λ (x : Frame). asks x.body) xs

-- and the others
abbrev pub others_of : List Frame → List Frame
others_of xs = filter (λ (x : Frame). not (asks x.body)) xs

-- the session that it asks for waits behind those that were asked for, or the frame behind those that waited for the sessions
abbrev pub WaitsBy : Bool → Channels → Frame → Channels → Type 0
WaitsBy true old x new = (y : IncomingSession) × (x ≡ asking y) × (new.incoming ≡ old.incoming) × (new.begun ≡ old.begun ++ y ∷ [])
WaitsBy false old x new = (new.incoming ≡ old.incoming ++ x ∷ []) × (new.begun ≡ old.begun)

-- at most one came to wait, and the others stay
abbrev pub Comes : Channels → Option Frame → Channels → Type 0
Comes old None new = (new.incoming ≡ old.incoming) × (new.begun ≡ old.begun)
Comes old (Some x) new = WaitsBy (asks x.body) old x new
