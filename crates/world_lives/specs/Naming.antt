-- The names of the sessions and of the links of an end.
use Rattle.std.specs.Prelude.{◌≡◌, ℕ, nat_eq, Bool, List, [], ◌∷◌, ◌++◌, Some}
use Rattle.std.specs.List.{IsDistinct}
use Rattle.amqp_link_calls.specs.Called.{Called}
use Rattle.amqp_link_calls.specs.Side.{Sender, Receiver}
use Rattle.amqp_links.specs.State.{State as Links, no_links, link_of}
use Rattle.amqp_receiver.specs.Receiver.{State as ReceiverState}
use Rattle.amqp_sender.specs.Sender.{State as SenderState}
use Rattle.amqp_session.specs.declared.session.SessionState.TheVariants.{Mapped}
use Rattle.amqp_sessions.specs.Parts.{EndpointState}
use Rattle.amqp_sessions.specs.State.{State as Sessions, endpoint_of}
use Rattle.link_lives.specs.Deeds as links
use Rattle.link_lives.specs.Deeds.{Asks}
use Rattle.link_lives.specs.Logs.{IsFree}
use Rattle.session_lives.specs.Channels.{AreApart}
use Rattle.session_lives.specs.Deeds as sessions
use Rattle.session_lives.specs.Deeds.{Begins, Accepts}
use Rattle.world_lives.specs.EndLives.Laws.{SenderPasses, ReceiverPasses}
use Rattle.world_lives.specs.Lived.{Both, sessions_by, links_by, Moment}
use Rattle.world_lives.specs.Hearing.{AreNamed}
use Rattle.world_lives.specs.Alone.{StandsAlone, AreElsewhere}

-- the names under which deeds make sessions, in order
abbrev pub made_of : sessions.Deed → List ℕ
made_of (Begins name x channel limit) = name ∷ []
made_of (Accepts name x channel limit incoming) = name ∷ []
made_of d = []

abbrev pub made_in : List sessions.Deed → List ℕ
made_in [] = []
made_in (d ∷ ds) = made_of d ++ made_in ds

-- the names of the calls that are made on the links, in order
abbrev pub asked_of : links.Deed → List ℕ
asked_of (Asks name call max) = name ∷ []
asked_of d = []

abbrev pub asked_in : List links.Deed → List ℕ
asked_in [] = []
asked_in (d ∷ ds) = asked_of d ++ asked_in ds

-- no two sessions of a life are made under one name, and no two calls on its links have one
pub record AreOnce (all : List Both) : Type 0 where
  pub made : IsDistinct nat_eq (made_in (sessions_by all))
  pub asked : IsDistinct nat_eq (asked_in (links_by all))

-- So each name of a session is new as it is used, and from no moment on is one made under the name of a session
-- that stands there, or is a call made under the name of a link that stands there.
pub record AreNew (none : Links) (all : List Both) (last : Sessions) (end : Links) (p : Moment none all last end)
    : Type 0 where
  pub named : AreNamed none all last end p
  pub sessions : (n : ℕ) (e : EndpointState) → endpoint_of n p.sessions ≡ Some e
      → sessions.AreOther n (sessions_by p.since)
  pub links : (n : ℕ) (l : Called) → link_of n p.links ≡ Some l → links.AreOther n (links_by p.since)

-- from the start, whether the end accepts links or attaches them
abbrev pub NamesAreNew : Type 0
NamesAreNew =
    (accepts : Bool) (all : List Both) (last : Sessions) (end : Links) (p : Moment (no_links accepts) all last end)
    → AreOnce all → AreNew (no_links accepts) all last end p

-- A sender passes on what it sends from a moment on, and no other session has written on the channel of its own where
-- that is alone on it.
pub record SenderGoesOn (n : ℕ) (c : Called) (t : SenderState) (x : EndpointState) (none : Links) (all : List Both)
    (last : Sessions) (end : Links) (p : Moment none all last end) : Type 0 where
  pub passes : SenderPasses n c.session t x p.sessions (sessions_by p.since) last p.links (links_by p.since) end p.goes
  pub alone : (channel : ℕ) → StandsAlone channel c.session p.sessions → AreElsewhere channel (sessions_by p.since)
      → AreApart channel c.session passes.life.log

-- So it is with a sender that stands at a moment, whose call does not wait, where its session stands too, which both ends
-- have begun.
abbrev pub SendersGo : Type 0
SendersGo =
    (accepts : Bool) (all : List Both) (last : Sessions) (end : Links) (p : Moment (no_links accepts) all last end)
    (n : ℕ) (c : Called) (t : SenderState) (x : EndpointState)
    → AreOnce all → link_of n p.links ≡ Some c → c.side ≡ Sender t → IsFree n p.links
    → endpoint_of c.session p.sessions ≡ Some x → x.session.state ≡ Mapped
    → SenderGoesOn n c t x (no_links accepts) all last end p

-- and a receiver reads what its session hands over
abbrev pub ReceiversGo : Type 0
ReceiversGo =
    (accepts : Bool) (all : List Both) (last : Sessions) (end : Links) (p : Moment (no_links accepts) all last end)
    (n : ℕ) (c : Called) (u : ReceiverState) (y : EndpointState)
    → AreOnce all → link_of n p.links ≡ Some c → c.side ≡ Receiver u → IsFree n p.links
    → endpoint_of c.session p.sessions ≡ Some y
    → ReceiverPasses n c.session u y p.sessions (sessions_by p.since) last p.links (links_by p.since) end p.goes
