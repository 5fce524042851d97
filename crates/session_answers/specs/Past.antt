-- What has passed at the sessions of an end (OASIS AMQP 1.0, part 2, sections 2.5.1, 2.5.4 and 2.7.2).
use Rattle.std.specs.Prelude.{◌≡◌, ◌⊎◌, ℕ, Contains, List, [], Option, Some, None}
use Rattle.amqp_frames.specs.declared.body.FrameBody.{FrameBody}
use Rattle.amqp_frames.specs.declared.shared.ConnectionStopReason.{ConnectionStopReason}
use Rattle.amqp_session.specs.declared.error.BeginError.{BeginError}
use Rattle.amqp_session.specs.State.{Framed}
use Rattle.amqp_sessions.specs.Frames.{answered_channel}
use Rattle.amqp_sessions.specs.Laws.{IsBegin}

-- The frames that the sessions have put out, each under the name of its session, and those that they were given, both
-- in order; the calls that made a session, each with the channel of this end that it is on, and of these the calls
-- that began it and those that answered a Begin of the peer, each with that; the calls that ended a session, each
-- with that of its session, in order; the calls that the end refused by itself, each with the error; why the
-- connection has stopped, as the sessions were told; and the sessions whose links had no place for an Attach of the
-- peer.
pub record Past : Type 0 where
  pub written : List (ℕ × Framed)
  pub read : List Framed
  pub channels : List (ℕ × ℕ)
  pub begins : List ℕ
  pub accepted : List (ℕ × Framed)
  pub endings : List (ℕ × ℕ)
  pub refused : List (ℕ × BeginError)
  pub stops : List ConnectionStopReason
  pub astray : List ℕ

-- nothing
abbrev pub nothing : Past
nothing = record {
  written = [];
  read = [];
  channels = [];
  begins = [];
  accepted = [];
  endings = [];
  refused = [];
  stops = [];
  astray = [];
}

-- the session of that name has put out a frame of that kind
abbrev pub HasWritten : (FrameBody → Type 0) → ℕ → List (ℕ × Framed) → Type 0
HasWritten Kind name written = (x : Framed) × (Kind x.body × Contains written (name, x))

-- the session of that name is on the channel of this end, where there is one
abbrev pub IsOn : Past → ℕ → Option ℕ → Type 0
IsOn p name None = ⊥
IsOn p name (Some channel) = Contains p.channels (name, channel)

-- a Begin of the peer for that session: it answers the one on a channel of the session, or the session answers it
abbrev pub IsBeginFor : Past → ℕ → Framed → Type 0
IsBeginFor p name x = IsBegin x.body × (IsOn p name (answered_channel x.body) ⊎ Contains p.accepted (name, x))

-- the peer has begun that session on that channel
abbrev pub HasBegun : Past → ℕ → ℕ → Type 0
HasBegun p name channel = (x : Framed) × ((x.channel ≡ channel) × (IsBeginFor p name x × Contains p.read x))

-- a frame of that kind was read, on a channel on which the peer has begun that session
abbrev pub WasRead : (FrameBody → Type 0) → ℕ → Past → Type 0
WasRead Kind name p = (x : Framed) × (Kind x.body × (HasBegun p name x.channel × Contains p.read x))
