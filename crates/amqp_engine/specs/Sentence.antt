-- What an end says on its connection (OASIS AMQP 1.0, part 2, section 2.4): Open, then frames of sessions and empty frames, then at
-- most one Close, and nothing after it.
use Rattle.std.specs.Prelude.{◌≡◌, ◌≤◌, ◌+◌, ℕ, List, [], ◌∷◌, ◌++◌, length, max, true, false, None, ◌⊎◌, All}
use Rattle.amqp_wire.specs.declared.link.Link.{Ghosts}
use Rattle.amqp_wire.specs.Events.{LinkEvent, Went, read_of, wrote_of}
use Rattle.amqp_transport.specs.amqp_performatives.declared.open.Open.{Open}
use Rattle.amqp_transport.specs.amqp_frames.declared.body.FrameBody.{FrameBody}
use Rattle.amqp_transport.specs.amqp_frames.declared.body.FrameBody.TheVariants as b
use Rattle.amqp_transport.specs.declared.frames.Frame.{Frame}
use Rattle.amqp_transport.specs.Kinds.{amqp_bytes, amqp_channel, amqp_spells}
use Rattle.amqp_transport.specs.Stream.{Joined, stream_of}
use Rattle.amqp_engine.specs.declared.connection.EndKind.{EndKind}
use Rattle.amqp_engine.specs.declared.phase.Phase.{Phase}
use Rattle.amqp_engine.specs.declared.phase.Phase.TheVariants as p
use Rattle.amqp_engine.specs.Phases.{kind_of, is_stopped, has_failed, IsInner, IsClose}
use Rattle.amqp_engine.specs.State.{State, open_frame, IsFramed}
use Rattle.amqp_engine.specs.Heard.{IsHeard}

-- the bytes of frames, one after another
abbrev pub bytes_of_all : List Frame → List ℕ
bytes_of_all xs = stream_of 0 amqp_bytes amqp_channel xs

-- the size of a frame, with its header
abbrev pub size_of_frame : Frame → ℕ
size_of_frame x = 8 + length (amqp_bytes x)

-- each may stand between Open and Close
abbrev pub AllInner : List Frame → Type 0
AllInner [] = Unit {0}
AllInner (x ∷ xs) = IsInner (kind_of x.body) × AllInner xs

-- Open, and then frames of sessions and empty frames
pub record IsBegun (sent : List Frame) : Type 0 where
  pub first : Open
  pub inner : List Frame
  pub each : AllInner inner
  pub is : sent ≡ record { channel = 0; body = b.Open first } ∷ inner

-- and then one Close, and nothing after it
pub record IsClosed (sent : List Frame) : Type 0 where
  pub front : List Frame
  pub last : Frame
  pub begun : IsBegun front
  pub close : IsClose (kind_of last.body)
  pub is : sent ≡ front ++ last ∷ []

-- what was queued so far, by how far the connection is
abbrev pub IsSaid : Phase → List Frame → Type 0
IsSaid p.OpenSent sent = IsBegun sent
IsSaid p.Opened sent = IsBegun sent
IsSaid p.CloseReceived sent = IsBegun sent
IsSaid p.Refused sent = IsBegun sent
IsSaid (p.Rejected why) sent = IsBegun sent
IsSaid p.CloseSent sent = IsClosed sent
IsSaid p.Discarding sent = IsClosed sent
IsSaid p.Ended sent = IsClosed sent
IsSaid p.Failed sent = IsBegun sent ⊎ IsClosed sent

-- each is within that size
abbrev pub AllWithin : ℕ → List Frame → Type 0
AllWithin limit [] = Unit {0}
AllWithin limit (x ∷ xs) = (size_of_frame x ≤ limit) × AllWithin limit xs

-- The limit that is told is the limit of what is written: 512 until the peer's Open was read, and never less. No frame that may be
-- read is limited below 512.
pub record IsLimited {L : Type 0} (s : State L) : Type 0 where
  pub told : s.settings.largest_written ≡ s.wire.codec.encoder
  pub least : 512 ≤ s.wire.codec.encoder
  pub reads : 512 ≤ s.wire.codec.decoder
  pub first : s.phase ≡ p.OpenSent → s.wire.codec.encoder ≡ 512

-- the limit of what is read where the first frame that was read has that body (part 2, section 2.7.1)
abbrev pub read_limit_by : ℕ → FrameBody → ℕ
read_limit_by own (b.Open x) = max 512 own
read_limit_by own body = 512

-- the limit of what is written then (part 2, section 2.7.1)
abbrev pub write_limit_by : FrameBody → ℕ
write_limit_by (b.Open x) = max 512 (max x.max_frame_size 512)
write_limit_by body = 512

-- the limit of what is read: 512 until the peer's Open was read, and then that of the own Open (part 2, section 2.4.1)
abbrev pub read_limit : ℕ → List Frame → ℕ
read_limit own [] = 512
read_limit own (x ∷ xs) = read_limit_by own x.body

-- the limit of what is written: 512, and then that of the peer's Open (part 2, section 2.4.1)
abbrev pub write_limit : List Frame → ℕ
write_limit [] = 512
write_limit (x ∷ xs) = write_limit_by x.body

-- the limits are those of the Opens, by the frames that were read (part 2, section 2.7.1)
pub record IsBounded {L : Type 0} (s : State L) (given : List Frame) : Type 0 where
  pub reads : s.wire.codec.decoder ≡ read_limit s.settings.largest_read given
  pub writes : s.wire.codec.encoder ≡ write_limit given

-- a connection that has stopped stays so, and its reason too
pub record HasStopped {L : Type 0} (old new : State L) (queued : List Frame) : Type 0 where
  pub phase : is_stopped new.phase ≡ true
  pub reason : new.reason ≡ old.reason
  pub none : queued ≡ []

-- no error of the transport is kept, but where it has ended the connection
abbrev pub IsCalm : {L : Type 0} → State L → Type 0
IsCalm s = has_failed s.phase ≡ false → s.wire.kept ≡ None

-- Something passed at the link, and frames were queued and given: what is queued and not yet written, and what is read and not yet
-- given, stays. Each frame that is queued spells what it holds (part 2, section 2.3), and the limits go by the Opens (section 2.4.1).
pub record Ran {L : Type 0} (link : Ghosts L) (old new : State L) : Type 0 where
  pub events : List LinkEvent
  pub queued : List Frame
  pub given : List Frame
  pub went : Went link old.wire.codec.link events new.wire.codec.link
  pub goes_out : old.wire.codec.output ++ bytes_of_all queued ≡ wrote_of events ++ new.wire.codec.output
  pub joined : (bytes : List ℕ) (frames : List Frame) → Joined 0 amqp_spells bytes frames old.wire.codec.input → Joined 0 amqp_spells (bytes ++ read_of events) (frames ++ given) new.wire.codec.input
  pub said : (sent : List Frame) → IsSaid old.phase sent → IsSaid new.phase (sent ++ queued)
  pub heard : (before : List Frame) → IsHeard old.phase old.reason before → IsHeard new.phase new.reason (before ++ given)
  pub idle : new.wire.clock.idle ≡ old.wire.clock.idle
  pub since : given ≡ [] → new.wire.clock.since ≡ old.wire.clock.since
  pub calm : IsCalm old → IsCalm new
  pub stays : is_stopped old.phase ≡ true → HasStopped old new queued
  pub limits : IsLimited old → IsLimited new × (old.wire.codec.encoder ≤ new.wire.codec.encoder) × AllWithin new.wire.codec.encoder queued
  pub framed : All IsFramed queued
  pub bounds : (before : List Frame) → IsHeard old.phase old.reason before → IsBounded old before → IsBounded new (before ++ given)
  pub own : new.settings.largest_read ≡ old.settings.largest_read

-- what has happened at an end: what passed at its link, the newest first, and the frames given and queued
pub record History : Type 0 where
  pub events : List LinkEvent
  pub given : List Frame
  pub sent : List Frame

abbrev pub begun : EndKind → History
begun end = record { events = []; given = []; sent = open_frame end ∷ [] }

abbrev pub grown : {L : Type 0} {link : Ghosts L} {old new : State L} → History → Ran link old new → History
grown h r = record { events = r.events ++ h.events; given = h.given ++ r.given; sent = h.sent ++ r.queued }

-- a state after a history, where some bytes were queued before Open, and some were read
pub record Has {L : Type 0} (before arrived : List ℕ) (s : State L) (h : History) : Type 0 where
  pub out : wrote_of h.events ++ s.wire.codec.output ≡ before ++ bytes_of_all h.sent
  pub joined : Joined 0 amqp_spells (arrived ++ read_of h.events) h.given s.wire.codec.input
  pub said : IsSaid s.phase h.sent
  pub heard : IsHeard s.phase s.reason h.given
  pub limited : IsLimited s
  pub sized : AllWithin s.settings.largest_written h.sent
  pub framed : All IsFramed h.sent
  pub bounded : IsBounded s h.given

-- bytes that begin a sentence of frames within the limit: what was before, Open, frames of sessions and empty frames, at most one Close, and nothing after it
pub record IsSentence (limit : ℕ) (before wrote : List ℕ) : Type 0 where
  pub frames : List Frame
  pub rest : List ℕ
  pub is : wrote ++ rest ≡ before ++ bytes_of_all frames
  pub form : IsBegun frames ⊎ IsClosed frames
  pub sized : AllWithin limit frames
