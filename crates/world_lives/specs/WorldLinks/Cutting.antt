-- Moments between two steps of two ends that made steps from the start.
use Rattle.std.specs.Prelude.{◌≡◌, ℕ, List, ◌++◌}
use Rattle.amqp_words.specs.declared.step.End.{End as Side}
use Rattle.amqp_calls.specs.declared.step.Step.{Step}
use Rattle.amqp_calls.specs.declared.trace.Entry.{Entry}
use Rattle.amqp_links.specs.State.{State as Links}
use Rattle.amqp_sessions.specs.State.{State as Sessions}
use Rattle.amqp_world.specs.History.{other}
use Rattle.amqp_session_world.specs.Turn.{AreMade}
use Rattle.session_laws.specs.Holding.{transfers as transfers_in}
use Rattle.session_laws.specs.Messages.{on as on_handle}
use Rattle.world_lives.specs.EndLives.Laws.{IsFront}
use Rattle.world_lives.specs.Lived.{Both, sessions_at, links_at, life, Moment, MomentOf}
use Rattle.world_lives.specs.Hearing.{read_before, written_before}

-- A moment of an end behind the first of its steps: it did by then what its life in these has, and its sessions and its
-- links are as they are behind the last of them.
pub record IsBehind (e : Side) (before : List Step) (early : List Entry) (w : AreMade before early) (none : Links)
    (all : List Both) (last : Sessions) (end : Links) (p : Moment none all last end) : Type 0 where
  pub did : p.before ≡ life e before early w
  pub sessions : p.sessions ≡ sessions_at e w.view
  pub links : p.links ≡ links_at e w.view

-- the ends made the first of their steps, with the first of the entries, and of each there is a moment behind these
pub record HaveMoments (before after : List Step) (entries : List Entry) (m : AreMade (before ++ after) entries)
    : Type 0 where
  pub early : List Entry
  pub late : List Entry
  pub whole : early ++ late ≡ entries
  pub made : AreMade before early
  pub moment : (e : Side) → MomentOf e (before ++ after) entries m
  pub behind : (e : Side) → IsBehind e before early made _ _ _ _ (moment e)

-- wherever the steps are cut in two
abbrev pub StepsAreCut : Type 0
StepsAreCut =
    (before after : List Step) (entries : List Entry) (m : AreMade (before ++ after) entries)
    → HaveMoments before after entries m

-- two moments, one of each end, behind the same steps
pub record AreBehind (e : Side) (steps : List Step) (entries : List Entry) (m : AreMade steps entries)
    (p : MomentOf e steps entries m) (q : MomentOf (other e) steps entries m) : Type 0 where
  pub before : List Step
  pub early : List Entry
  pub made : AreMade before early
  pub here : IsBehind e before early made _ _ _ _ p
  pub there : IsBehind (other e) before early made _ _ _ _ q

-- At such moments the Transfers on a handle that the one has read on a channel are the first of those that the other
-- has written there, or is to write.
abbrev pub ReadWasWritten : Type 0
ReadWasWritten =
    (e : Side) (steps : List Step) (entries : List Entry) (m : AreMade steps entries) (c handle : ℕ)
    (p : MomentOf e steps entries m) (q : MomentOf (other e) steps entries m) → AreBehind e steps entries m p q
    → IsFront (on_handle handle (transfers_in (read_before c _ _ _ _ p)))
    (on_handle handle (transfers_in (written_before c _ _ _ _ q)))
