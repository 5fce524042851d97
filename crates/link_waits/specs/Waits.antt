-- The calls that wait at the links of an end (OASIS AMQP 1.0, part 2, section 2.6).
use Rattle.std.specs.Prelude.{◌≡◌, ℕ, true, List, [], ◌∷◌, Some}
use Rattle.amqp_link_calls.specs.Called.{Called}
use Rattle.amqp_link_calls.specs.Side.{is_stopped}
use Rattle.amqp_session.specs.declared.session.LinkInput.{LinkInput}
use Rattle.amqp_session.specs.declared.session.LinkInput.TheVariants as input
use Rattle.amqp_session_links.specs.declared.place.WaitingAccept.{WaitingAccept}
use Rattle.amqp_session_links.specs.State.{State as Place}
use Rattle.amqp_links.specs.May.{MayCall}
use Rattle.amqp_links.specs.State.{State, place_of, link_of}
use Rattle.amqp_links.specs.Stops.{links_at}
use Rattle.link_lives.specs.Deeds.{Deed, Asks, Hears, Did}
use Rattle.call_waits.specs.Waits.{Waits}

-- a call that accepts a link waits while no Attach of the peer does (section 2.6.3)
abbrev pub AcceptWaits : Place → Type 0
AcceptWaits p = (accept : WaitingAccept) → p.accepting ≡ Some accept → p.attaches ≡ []

-- so each call that waits does so for the peer, or for the end of its session
pub record AreWaiting (s : State) : Type 0 where
  pub links : (n : ℕ) (l : Called) → link_of n s ≡ Some l → Waits l
  pub accepts : (session : ℕ) (p : Place) → place_of session s ≡ Some p → AcceptWaits p

-- these links know that their session has stopped
abbrev pub AreStopped : List ℕ → State → Type 0
AreStopped [] s = Unit {0}
AreStopped (n ∷ ns) s = ((l : Called) → link_of n s ≡ Some l → is_stopped l.side ≡ true) × AreStopped ns s

-- nothing more comes of a session only once its links know that it has stopped
abbrev pub IsInOrder : ℕ → LinkInput → State → Type 0
IsInOrder session input.Over s = AreStopped (links_at (place_of session s)) s
IsInOrder session x s = Unit {0}

-- a call is one that the links take
abbrev pub IsOrderly : Deed → State → Type 0
IsOrderly (Asks name call max) s = MayCall s call
IsOrderly (Hears session x) s = IsInOrder session x s
IsOrderly d s = Unit {0}

abbrev pub AreOrderly : (old : State) (ds : List Deed) (new : State) → Did old ds new → Type 0
AreOrderly old [] new h = Unit {0}
AreOrderly old (d ∷ ds) new h = IsOrderly d old × AreOrderly h.0 ds new h.1.1
