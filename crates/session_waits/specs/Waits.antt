-- The calls that wait at the sessions of an end (OASIS AMQP 1.0, part 2, sections 2.5.1 and 2.5.4).
use Rattle.std.specs.Prelude.{◌≡◌, ℕ, All, List, [], ◌∷◌, Option, Some, None}
use Rattle.amqp_session.specs.Laws.{IsTidy}
use Rattle.amqp_session.specs.declared.session.SessionState.TheVariants as state
use Rattle.amqp_sessions.specs.declared.sessions.Waiting.TheVariants.{Begin}
use Rattle.amqp_sessions.specs.Laws.{AllWaitForEnd}
use Rattle.amqp_sessions.specs.Parts.{EndpointState}
use Rattle.amqp_sessions.specs.State.{State, endpoint_of}
use Rattle.session_lives.specs.Deeds.{Deed, Ends, Halts, Concludes, Did}

-- the session stands; this end has sent its Begin, and the peer's was not read (section 2.5.1)
abbrev pub BeginWaits : Option EndpointState → Type 0
BeginWaits None = ⊥
BeginWaits (Some e) = e.session.state ≡ state.BeginSent

-- of each session: a Transfer of a link waits only where the peer's window has no room (section 2.5.6)
abbrev pub AllTidy : State → Type 0
AllTidy s = All (λ e. IsTidy e.1.session) s.endpoints

-- A `begin` that waits does so for the peer's Begin, an `end` for its End (section 2.5.4), and a Transfer for the
-- window.
pub record AreWaiting (s : State) : Type 0 where
  pub begins : (name : ℕ) → s.waiting ≡ Some (Begin name) → BeginWaits (endpoint_of name s)
  pub ends : AllWaitForEnd s
  pub held : AllTidy s

-- a call ends no session whose `begin` waits, and the connection has not stopped
abbrev pub IsOrderly : Deed → State → Type 0
IsOrderly (Ends name session condition) s = s.waiting ≡ Some (Begin session) → ⊥
IsOrderly (Halts why) s = ⊥
IsOrderly (Concludes why) s = ⊥
IsOrderly d s = Unit {0}

abbrev pub AreOrderly : (old : State) (ds : List Deed) (new : State) → Did old ds new → Type 0
AreOrderly old [] new h = Unit {0}
AreOrderly old (d ∷ ds) new h = IsOrderly d old × AreOrderly h.0 ds new h.1.1
