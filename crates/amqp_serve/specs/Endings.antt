-- How runs over links end.
use Rattle.std.specs.Prelude.{◌≡◌, ◌≤◌, ◌<◌, ℕ, List, Option}
use Rattle.list_laws.specs.Told.{Gains}
use Rattle.amqp_wire.specs.declared.link.Link.{Ghosts}
use Rattle.amqp_end.specs.declared.end.End.{End}
use Rattle.amqp_peer.specs.Peering.{link_of}
use Rattle.amqp_served.specs.Count.{count_text}
use Rattle.amqp_served.specs.declared.ending.Ending.{Ending}
use Rattle.amqp_served.specs.declared.ending.Ending.TheVariants.{Done, Usage, Memory, ReadFault, WriteFault, PeerFault, TimedOut}
use Rattle.amqp_serve.specs.Answers.{counted_all}
use Rattle.amqp_serve.specs.declared.failure.Failure.{Failure}
use Rattle.amqp_serve.specs.declared.failure.Failure.TheVariants as failure
use Rattle.amqp_serve.specs.Ran.{Turn, Ran, told, accepts, IsClosed}

-- a run that goes no further, for whatever reason
abbrev pub IsFailure : Ending → Type 0
IsFailure Done = ⊥
IsFailure Usage = ⊥
IsFailure _ = Unit {0}

-- a run that goes no further since an answer is an error or not what was asked for, or since what a call is for has ended
abbrev pub IsOfPeer : Failure → Type 0
IsOfPeer (failure.Answer answer) = Unit {0}
IsOfPeer failure.Over = Unit {0}
IsOfPeer failure.Unexpected = Unit {0}
IsOfPeer _ = ⊥

-- the link of an end has counted a fault
abbrev pub HasFault : {L : Type 0} → Ghosts L → End L → Type 0
HasFault {L} link e = (d : L) → 0 < link.faults (link_of d e.connection)

-- the link of an end has counted none
abbrev pub IsSound : {L : Type 0} → Ghosts L → End L → Type 0
IsSound {L} link e = (d : L) → link.faults (link_of d e.connection) ≡ 0

-- an end was served until its peer had closed the connection without an error; so many messages came in its answers, and of each it has
-- called an accept before
pub record WasServed {L : Type 0} (link : Ghosts L) (old new : End L) (count : ℕ) : Type 0 where
  pub turns : List Turn
  pub ran : Ran link old turns new
  pub counts : count ≡ counted_all (told turns) 0
  pub accepted : count ≤ accepts turns
  pub closed : IsClosed new

-- the same, and the line of that number was written
pub record ServedAndTold {L : Type 0} (link : Ghosts L) (old new : End L) (written written' : Option (List ℕ)) : Type 0 where
  pub count : ℕ
  pub served : WasServed link old new count
  pub wrote : Gains written written' (count_text count)

-- the line of such a number
pub record Lined {L : Type 0} (link : Ghosts L) (old new : End L) (text : List ℕ) : Type 0 where
  pub count : ℕ
  pub served : WasServed link old new count
  pub line : text ≡ count_text count
