-- What waits at an end for the sessions above its connection, and what comes to wait, in words of its history.
use Rattle.std.specs.Prelude.{◌≡◌, List, [], ◌++◌, Bool, true, false, Option, Some, map}
use Rattle.amqp_frames.specs.declared.shared.IncomingSession.{IncomingSession}
use Rattle.amqp_transport.specs.declared.frames.Frame.{Frame}
use Rattle.amqp_engine.specs.declared.phase.Phase.TheVariants as p
use Rattle.amqp_engine.specs.Channels.{Channels, no_channels}
use Rattle.amqp_engine.specs.Phases.{hears}
use Rattle.amqp_peer.specs.declared.held.Held.{Held}
use Rattle.amqp_peer.specs.declared.held.Held.TheVariants.{Early, Late, Unopened, Moving}
use Rattle.amqp_peer.specs.Frames.{sessions_of, list_of, asking, asking_of, others_of, Comes}
use Rattle.amqp_peer.specs.History.{Local, given_in, sent_in}

-- ---- what holds the link

-- frames of the peer are heard: no Close was queued or read, and no frame was rejected
abbrev pub hears_in : {L : Type 0} → Held L → Bool
hears_in (Early o p) = true
hears_in (Late s) = hears s.phase
hears_in (Unopened c) = false
hears_in Moving = false

-- the connection is open
abbrev pub IsOpenIn : {L : Type 0} → Held L → Type 0
IsOpenIn (Early o p) = ⊥
IsOpenIn (Late s) = s.phase ≡ p.Opened
IsOpenIn (Unopened c) = ⊥
IsOpenIn Moving = ⊥

-- the channels of its sessions, and what waits for them
abbrev pub channels_in : {L : Type 0} → Held L → Channels
channels_in (Early o p) = no_channels
channels_in (Late s) = s.channels
channels_in (Unopened c) = no_channels
channels_in Moving = no_channels

-- the frames that wait for the sessions
abbrev pub waiting_in : {L : Type 0} → Held L → List Frame
waiting_in held = (channels_in held).incoming

-- the frames of the sessions that the peer asks for, and that wait
abbrev pub asked_in : {L : Type 0} → Held L → List Frame
asked_in held = map asking (channels_in held).begun

-- ---- one step

-- What a step hands to the sessions: where the connection hears behind it, what it was given of sessions is the frame that came to wait for
-- them. It queues no frame of a session, and the channels of this end that sessions have stay.
pub record Handed {L : Type 0} (old new : Held L) (events : List Local) : Type 0 where
  pub frame : Option Frame
  pub comes : Comes (channels_in old) frame (channels_in new)
  pub heard : hears_in new ≡ true → sessions_of (given_in events) ≡ list_of frame
  pub opens : (x : Frame) → frame ≡ Some x → IsOpenIn new
  pub unsaid : sessions_of (sent_in events) ≡ []
  pub listens : hears_in new ≡ true → hears_in old ≡ true
  pub seats : (channels_in new).seats ≡ (channels_in old).seats

-- ---- steps

-- What steps hand to the sessions: frames came to wait, behind those that waited; they are the first that the connection was given of sessions,
-- and all of them while it hears. None came where it did not hear before. No frame of a session is queued.
pub record Gathers {L : Type 0} (old new : Held L) (events : List Local) : Type 0 where
  pub frames : List Frame
  pub later : List Frame
  pub waiting : waiting_in new ≡ waiting_in old ++ others_of frames
  pub asked : asked_in new ≡ asked_in old ++ asking_of frames
  pub heard : sessions_of (given_in events) ≡ frames ++ later
  pub all : hears_in new ≡ true → later ≡ []
  pub none : hears_in old ≡ false → frames ≡ []
  pub unsaid : sessions_of (sent_in events) ≡ []
  pub listens : hears_in new ≡ true → hears_in old ≡ true
