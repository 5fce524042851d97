-- Which frames on a channel of the peer a session hears (OASIS AMQP 1.0, part 2, section 2.5.1).
use Rattle.std.specs.Prelude.{◌≡◌, ℕ, List, [], ◌∷◌, ◌++◌, flat_map, Option, Some, None}
use Rattle.amqp_session.specs.State.{Framed}
use Rattle.amqp_sessions.specs.Frames.{answered_channel}
use Rattle.amqp_sessions.specs.Parts.{EndpointState}
use Rattle.amqp_sessions.specs.State.{State, endpoint_of}
use Rattle.session_lives.specs.Channels.{IsJoined, on}
use Rattle.session_lives.specs.Deeds.{Deed, Did, read_in, came_in, AreOther}
use Rattle.session_lives.specs.Sound.{AreSound, AreNewIn}

-- the frames that are no Begin by which one of this end is answered
abbrev pub unless_answer : Option ℕ → Framed → List Framed
unless_answer None x = x ∷ []
unless_answer (Some c) x = []

abbrev pub other_in : Framed → List Framed
other_in x = unless_answer (answered_channel x.body) x

abbrev pub others : List Framed → List Framed
others xs = flat_map other_in xs

-- the one are the first of the other
pub record AreFirst (xs ys : List Framed) : Type 0 where
  pub later : List Framed
  pub all : xs ++ later ≡ ys

-- A session that the peer has begun on a channel: of the frames that are read on that channel from then on it hears
-- the first, each once and in order, but for Begins that answer one; the later ones come once the channel leads to it
-- no more.
abbrev pub HearsTheFirst : Type 0
HearsTheFirst =
    (c n : ℕ) (e : EndpointState) (ds : List Deed) (old new : State) (did : Did old ds new)
    → AreSound old → AreNewIn old ds new did → AreOther n ds → endpoint_of n old ≡ Some e → IsJoined c e.session
    → AreFirst (others (came_in old ds new did n).heard) (others (on c (read_in ds)))
