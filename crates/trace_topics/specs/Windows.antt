-- Windows between the two ends of a trace (OASIS AMQP 1.0, part 2, section 2.5.6).
use Rattle.std.specs.Prelude.{ℕ, List}
use Rattle.amqp_words.specs.declared.step.End.{End as Side}
use Rattle.amqp_calls.specs.declared.step.Step.{Step}
use Rattle.amqp_calls.specs.declared.trace.Entry.{Entry}
use Rattle.amqp_sessions.specs.Parts.{EndpointState}
use Rattle.amqp_world.specs.History.{other}
use Rattle.amqp_session_world.specs.Carried.{AreCarried}
use Rattle.session_laws.specs.Holding.{Move}
use Rattle.window_laws.specs.Starting.{Start}
use Rattle.world_lives.specs.Lived.{MomentOf}
use Rattle.world_lives.specs.WorldWindows.Facing.{Stands, Faces, IsEven, WindowHolds, Waits}
use Rattle.world_lives.specs.WorldWindows.Hearing.{Hears}

-- What the sessions of an end heard of windows is what the other end's were built with; from two moments at which nothing is
-- on its way between two sessions, the one has written no more Transfers than the other has heard and the window that it
-- announced; and no session writes a Transfer before it has read a Begin.
pub record WindowsHold (steps : List Step) (entries : List Entry) (k : AreCarried steps entries) : Type 0 where
  pub announced : (e : Side) → Hears e steps entries k.made
  pub kept : (e : Side) (c d : ℕ)
      (p : MomentOf e steps entries k.made) (n : ℕ) (u : Start) (js : List Move) (y : EndpointState)
      (q : MomentOf (other e) steps entries k.made) (m : ℕ) (t : Start) (ns : List Move) (x : EndpointState)
      → Faces d c n u js y _ _ _ _ p → Faces c d m t ns x _ _ _ _ q
      → IsEven c u js _ _ _ _ p t ns _ _ _ _ q → IsEven d t ns _ _ _ _ q u js _ _ _ _ p
      → WindowHolds c n m u t js ns y x _ _ _ _ p _ _ _ _ q
  pub begun : (e : Side) (p : MomentOf e steps entries k.made) (n : ℕ) (u : Start) (js : List Move) (y : EndpointState)
      → Stands n u js y _ _ _ _ p → Waits n u js y _ _ _ _ p
