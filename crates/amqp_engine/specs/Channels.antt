-- The channels of sessions, and what came on them.
use Rattle.std.specs.Prelude.{◌≡◌, ℕ, ◌<◌, nat_eq, Bool, false, List, [], ◌∷◌, ◌++◌, map, slice_set, Option, Some, None, if◌then◌else◌}
use Rattle.std.specs.List.{list_any}
use Rattle.std.specs.VecDeque.{deque_len, deque_capacity}
use Rattle.indexmap.specs.IndexMap.{spare as spare_entries}
use Rattle.indexmap.specs.IndexSet.{spare, swap_remove_by}
use Rattle.amqp_transport.specs.amqp_frames.declared.body.FrameBody.{FrameBody}
use Rattle.amqp_transport.specs.amqp_frames.declared.body.FrameBody.TheVariants as b
use Rattle.amqp_transport.specs.amqp_frames.declared.shared.IncomingSession.{IncomingSession}
use Rattle.amqp_transport.specs.amqp_frames.declared.shared.SessionFrame.{SessionFrame}
use Rattle.amqp_transport.specs.declared.frames.Frame.{Frame}
use Rattle.amqp_engine.specs.declared.sessions.Plan.{Plan}
use Rattle.amqp_engine.specs.declared.sessions.Plan.TheVariants as plan
use Rattle.amqp_engine.specs.declared.sessions.Sessions.{Sessions}
use Rattle.amqp_engine.specs.Limits.{Limits, limits_of, no_limits, announcing, begun_on, ended_on, freed_on}
pub use Rattle.amqp_engine.specs.Seats.{first_free, seat_taken, taken_up_to}

-- of each channel of this end whether a session has it; those whose Begin the peer has answered; the peer's channels on which it has
-- begun a session; the frames that wait; the sessions that the peer asks for; the highest handles of the peer's links
pub record Channels : Type 0 where
  pub seats : List Bool
  pub answered : List ℕ
  pub remotes : List ℕ
  pub incoming : List Frame
  pub begun : List IncomingSession
  pub limits : Limits

-- a session's frame, with its channel
abbrev pub frame_in : SessionFrame → Frame
frame_in x = record { channel = x.channel; body = x.body }

abbrev pub frames_in : List SessionFrame → List Frame
frames_in xs = map frame_in xs

abbrev pub channels_of : Sessions → Channels
channels_of s = record { seats = s.seats; answered = s.answered.keys; remotes = s.remotes.keys; incoming = frames_in s.incoming.items; begun = s.begun.items; limits = limits_of s.limits }

-- no sessions
abbrev pub no_channels : Channels
no_channels = record { seats = []; answered = []; remotes = []; incoming = []; begun = []; limits = no_limits }

-- there is room for what one frame may add
pub record HasRoom (s : Sessions) : Type 0 where
  pub answered : 0 < spare s.answered
  pub remotes : 0 < spare s.remotes
  pub incoming : deque_len s.incoming < deque_capacity s.incoming
  pub begun : deque_len s.begun < deque_capacity s.begun
  pub limits : 0 < spare_entries s.limits.highest

-- there is room for what one Begin of this end may add
pub record CanAnnounce (s : Sessions) : Type 0 where
  pub announced : 0 < spare_entries s.limits.announced
  pub highest : 0 < spare_entries s.limits.highest

-- the channel is one of these
abbrev pub is_among : ℕ → List ℕ → Bool
is_among channel channels = list_any (nat_eq channel) channels

-- it is one of them from here on
abbrev pub with_channel : ℕ → List ℕ → List ℕ
with_channel channel channels = if is_among channel channels then channels else channels ++ channel ∷ []

abbrev pub with_named : Option ℕ → List ℕ → List ℕ
with_named None channels = channels
with_named (Some channel) channels = with_channel channel channels

-- it is none of them from here on: the last takes its place
abbrev pub without_channel : ℕ → List ℕ → List ℕ
without_channel channel channels = swap_remove_by (nat_eq channel) channels

-- the channel of this end that a Begin names
abbrev pub named_in : FrameBody → Option ℕ
named_in (b.Begin x) = x.remote_channel
named_in body = None

-- the session that a Begin asks for
abbrev pub asked_in : ℕ → FrameBody → Option IncomingSession
asked_in channel (b.Begin x) = Some (record { channel = channel; begin = x })
asked_in channel body = None

abbrev pub asked : Frame → Option IncomingSession
asked x = asked_in x.channel x.body

abbrev pub with_asked : List IncomingSession → Option IncomingSession → List IncomingSession
with_asked xs None = xs
with_asked xs (Some x) = xs ++ x ∷ []

-- a frame is taken in as is planned
abbrev pub taken_in : Plan → Channels → Frame → Channels
taken_in plan.Deliver c x = record c { incoming = c.incoming ++ x ∷ [] }
taken_in plan.Answer c x = record c { answered = with_named (named_in x.body) c.answered; remotes = with_channel x.channel c.remotes; incoming = c.incoming ++ x ∷ []; limits = begun_on x.channel (named_in x.body) c.limits }
taken_in plan.End c x = record c { remotes = without_channel x.channel c.remotes; incoming = c.incoming ++ x ∷ []; limits = ended_on x.channel c.limits }
taken_in plan.Ask c x = record c { remotes = with_channel x.channel c.remotes; begun = with_asked c.begun (asked x); limits = begun_on x.channel None c.limits }
taken_in (plan.Reject why) c x = c

-- This end has queued a frame of a session, and then others: a Begin says the highest handle of the peer's links (part 2, section 2.7.2).
abbrev pub said_in : Channels → Frame → Channels
said_in c x = record c { limits = announcing c.limits x.channel x.body }

abbrev pub said_all : Channels → List Frame → Channels
said_all c [] = c
said_all c (x ∷ xs) = said_all (said_in c x) xs

-- that channel is free, and a session that has it next is not answered yet
abbrev pub seat_freed : ℕ → Channels → Channels
seat_freed channel c = record c { seats = slice_set c.seats channel false; answered = without_channel channel c.answered; limits = freed_on channel c.limits }

abbrev pub first_of : {X : Type 0} → List X → Option X
first_of [] = None
first_of (x ∷ xs) = Some x

-- the first frame that waits is taken off
abbrev pub TakesFrame : Channels → Option Frame → Channels → Type 0
TakesFrame old None new = (old.incoming ≡ []) × (new ≡ old)
TakesFrame old (Some x) new = (old.incoming ≡ x ∷ new.incoming) × (new ≡ record old { incoming = new.incoming })

-- the first session that the peer asks for is taken off
abbrev pub TakesSession : Channels → Option IncomingSession → Channels → Type 0
TakesSession old None new = (old.begun ≡ []) × (new ≡ old)
TakesSession old (Some x) new = (old.begun ≡ x ∷ new.begun) × (new ≡ record old { begun = new.begun })
