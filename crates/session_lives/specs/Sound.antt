-- The tables of sessions agree with the sessions (OASIS AMQP 1.0, part 2, sections 2.5.1 and 2.5.4).
use Rattle.std.specs.Prelude.{◌≡◌, ◌⊎◌, ℕ, nat_eq, List, [], ◌∷◌, Some, None}
use Rattle.std.specs.List.{IsDistinct}
use Rattle.std.specs.Map.{keys_of, lookup}
use Rattle.amqp_session.specs.State.{Framed}
use Rattle.amqp_sessions.specs.Frames.{answered_channel, place_of}
use Rattle.amqp_sessions.specs.Parts.{EndpointState}
use Rattle.amqp_sessions.specs.State.{State, none_begun, endpoint_of}
use Rattle.session_lives.specs.Channels.{IsJoined, AllOn}
use Rattle.session_lives.specs.Deeds.{Deed, Begins, Accepts, Did}
use Rattle.session_lives.specs.Logs.{AreKeyed}

-- No two sessions have one name, and each table has a channel once. A session to which a channel of this end leads is
-- on that channel, one to which a channel of the peer leads was begun by the peer on that, and what a session is to
-- write is on its own channel. Frames that are kept are kept by their channel.
pub record AreSound (s : State) : Type 0 where
  pub keyed : AreKeyed s
  pub channels : IsDistinct nat_eq (keys_of s.channels)
  pub remotes : IsDistinct nat_eq (keys_of s.remotes)
  pub own : (c n : ℕ) (e : EndpointState) → lookup (nat_eq c) s.channels ≡ Some n → endpoint_of n s ≡ Some e
      → e.session.channel ≡ c
  pub peer : (c n : ℕ) (e : EndpointState) → lookup (nat_eq c) s.remotes ≡ Some n → endpoint_of n s ≡ Some e
      → IsJoined c e.session
  pub speaks : (n : ℕ) (e : EndpointState) → endpoint_of n s ≡ Some e → AllOn e.session.channel e.session.output
  pub kept : IsDistinct nat_eq (keys_of s.early)
  pub early : (c : ℕ) (xs : List Framed) → lookup (nat_eq c) s.early ≡ Some xs → AllOn c xs

-- no channel leads to that name
pub record IsUnused (name : ℕ) (s : State) : Type 0 where
  pub own : (c : ℕ) → lookup (nat_eq c) s.channels ≡ Some name → ⊥
  pub peer : (c : ℕ) → lookup (nat_eq c) s.remotes ≡ Some name → ⊥

-- a session is made under a name that was not used
abbrev pub IsNewIn : Deed → State → Type 0
IsNewIn (Begins name x channel limit) s = IsUnused name s
IsNewIn (Accepts name x channel limit incoming) s = IsUnused name s
IsNewIn d s = Unit {0}

abbrev pub AreNewIn : (old : State) (ds : List Deed) (new : State) → Did old ds new → Type 0
AreNewIn old [] new h = Unit {0}
AreNewIn old (d ∷ ds) new h = IsNewIn d old × AreNewIn h.0 ds new h.1.1

-- so it is where no session was begun, and each deed keeps it
abbrev pub NoneIsSound : Type 0
NoneIsSound = AreSound none_begun

abbrev pub SoundIsKept : Type 0
SoundIsKept =
    (ds : List Deed) (old new : State) (did : Did old ds new) → AreNewIn old ds new did → AreSound old → AreSound new

-- a frame of a session: a Begin that answers its own, on whichever channel, or one that answers none, on the channel
-- of the peer's Begin
abbrev pub IsOf : EndpointState → Framed → Type 0
IsOf e x =
    (answered_channel x.body ≡ Some e.session.channel)
    ⊎ ((answered_channel x.body ≡ None) × IsJoined x.channel e.session)

-- each frame that a session hears is one of its own
abbrev pub HearsItsOwn : Type 0
HearsItsOwn =
    (n : ℕ) (e : EndpointState) (x : Framed) (s : State)
    → AreSound s → endpoint_of n s ≡ Some e → place_of x s ≡ Some n → IsOf e x
