-- The sessions that an end makes, and what they write (OASIS AMQP 1.0, part 2, sections 2.5.1 and 2.7.2).
use Rattle.std.specs.Prelude.{◌≡◌, ℕ, List, [], ◌∷◌, ◌++◌, Some}
use Rattle.amqp_session.specs.State.{State as Session, Framed}
use Rattle.amqp_sessions.specs.Calls.{settings}
use Rattle.amqp_sessions.specs.Parts.{EndpointState}
use Rattle.amqp_sessions.specs.State.{State, none_begun, endpoint_of}
use Rattle.session_laws.specs.Holding.{Move, after_all}
use Rattle.session_laws.specs.Settling.{IsAmong}
use Rattle.session_lives.specs.Deeds.{Deed, Begins, Accepts, Did, wrote_in}
use Rattle.window_laws.specs.Announcing.{Announces}
use Rattle.window_laws.specs.Starting.{Start, begins, answers, session_of, window}

-- a session that is made, its name, and what it is built with
pub record Made : Type 0 where
  pub name : ℕ
  pub start : Start

abbrev pub made_as : ℕ → Start → Made
made_as name start = record { name = name; start = start }

-- the sessions that deeds make, in order
abbrev pub made_of : Deed → List Made
made_of (Begins name x channel limit) = made_as name (begins (settings x limit) channel) ∷ []
made_of (Accepts name x channel limit incoming) = made_as name (answers (settings x limit) channel incoming) ∷ []
made_of d = []

abbrev pub made_in : List Deed → List Made
made_in [] = []
made_in (d ∷ ds) = made_of d ++ made_in ds

-- a session is one of these, behind moves from its begin on
pub record IsOne (made : List Made) (name : ℕ) (s : Session) : Type 0 where
  pub start : Start
  pub among : IsAmong (made_as name start) made
  pub moves : List Move
  pub behind : s ≡ after_all (session_of start) moves

-- whatever the sessions of an end do from where none was begun: each that stands is one that was made
abbrev pub EachIsMade : Type 0
EachIsMade =
    (ds : List Deed) (new : State) (did : Did none_begun ds new) (n : ℕ) (e : EndpointState)
    → endpoint_of n new ≡ Some e → IsOne (made_in ds) n e.session

-- the channel of this end on which a session writes
abbrev pub channel_of : Start → ℕ
channel_of (begins x channel) = channel
channel_of (answers x channel incoming) = channel

-- a frame of one of these: it is on the channel of that, and a Begin or a Flow names the window with which it was built
pub record IsOf (made : List Made) (x : Framed) : Type 0 where
  pub one : Made
  pub among : IsAmong one made
  pub channel : x.channel ≡ channel_of one.start
  pub announces : Announces (window one.start) x.body

abbrev pub AreOf : List Made → List Framed → Type 0
AreOf made [] = Unit {0}
AreOf made (x ∷ xs) = IsOf made x × AreOf made xs

-- each frame that they have given to the connection, or are still to give, is of one that was made
abbrev pub EachIsOfOne : Type 0
EachIsOfOne =
    (ds : List Deed) (new : State) (did : Did none_begun ds new) → AreOf (made_in ds) (wrote_in ds ++ new.output)
