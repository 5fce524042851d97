-- Which steps are valid (docs/SPECIFICATION.md, "Valid steps").
use Rattle.std.specs.Prelude.{◌+◌, ◌≤◌, List, length, ⊤}
use Rattle.amqp_peer.specs.declared.peer.PeerKind.{PeerKind}
use Rattle.amqp_peer.specs.declared.peer.PeerKind.TheVariants as kind
use Rattle.amqp_peer.specs.Calls.{IsValidCall}
use Rattle.amqp_words.specs.declared.step.End.{End}
use Rattle.amqp_words.specs.declared.step.End.TheVariants.{Client, Listener}
use Rattle.amqp_words.specs.declared.step.Act.{Act}
use Rattle.amqp_words.specs.declared.step.Act.TheVariants.{Take, TakeAll, Call}
use Rattle.amqp_words.specs.declared.step.Step.{Step}
use Rattle.amqp_world.specs.History.{Event, other, wrote, taken, calls, replied, last_moment}

-- which side of a connection an end is
abbrev pub kind_of : End → PeerKind
kind_of Client = kind.Client
kind_of Listener = kind.Listener

-- an end takes at most what is in flight to it, and makes the calls that its calls and replies so far allow
abbrev pub IsValidAct : End → List Event → Act → Type 0
IsValidAct e past (Take n) = taken e past + n ≤ length (wrote (other e) past)
IsValidAct e past TakeAll = ⊤
IsValidAct e past (Call call) = IsValidCall (kind_of e) (calls e past) (replied e past) (length past) call

-- a step after a past
pub record IsValid (past : List Event) (step : Step) : Type 0 where
  pub moment : last_moment past ≤ step.at
  pub act : IsValidAct step.end past step.act
