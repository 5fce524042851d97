-- Two ends of a connection, in words of what happened at each (OASIS AMQP 1.0, part 2, section 2.4).
use Rattle.std.specs.Prelude.{◌≡◌, ℕ, List, [], ◌∷◌, ◌++◌, map, ⊤}
use Rattle.amqp_wire.specs.declared.link.Stop.TheVariants as stop
use Rattle.amqp_wire.specs.declared.link.Held.TheVariants as held
use Rattle.amqp_wire.specs.Events.{LinkEvent, NotRead, NotWritten, Includes}
use Rattle.amqp_transport.specs.declared.frames.Frame.{Frame}
use Rattle.amqp_transport.specs.Kinds.{amqp_again}
use Rattle.amqp_peer.specs.amqp_words.declared.call.Call.{Call}
use Rattle.amqp_peer.specs.Calls.{IsClose}
use Rattle.amqp_peer.specs.Causes.{IsTied}
use Rattle.amqp_peer.specs.History.{Local, link_in, given_in, read_in, wrote_in}
use Rattle.amqp_peer.specs.Said.{HasSaid, HasStray}

-- these events tell of a link that did not fail or fill, and whose input did not end
pub record IsCalm (events : List LinkEvent) : Type 0 where
  pub unfailed_reads : Includes events (NotRead stop.Failed) → ⊥
  pub unfailed_writes : Includes events (NotWritten held.Failed) → ⊥
  pub unended : Includes events (NotRead stop.End) → ⊥
  pub unfilled : Includes events (NotWritten held.Full) → ⊥

-- an end whose link is calm reads what another wrote
pub record Meets (h far : List Local) : Type 0 where
  pub calm : IsCalm (link_in h)
  pub tied : IsTied h
  pub far_tied : IsTied far
  pub far_said : HasSaid far
  pub left : List ℕ
  pub reads : read_in h ++ left ≡ wrote_in far

-- the same, and no frame that the end was given is astray
pub record MeetsUnstrayed (h far : List Local) : Type 0 where
  pub meets : Meets h far
  pub unstrayed : HasStray (given_in h) → ⊥

-- the frames that were given are the first of those that were queued, as they are read again
pub record Hears (given sent : List Frame) : Type 0 where
  pub first : List Frame
  pub others : List Frame
  pub split : sent ≡ first ++ others
  pub items : given ≡ map amqp_again first

-- none of these calls is a close
abbrev pub NoneCloses : List (ℕ × Call) → Type 0
NoneCloses [] = ⊤
NoneCloses (call ∷ calls) = (IsClose call.1 → ⊥) × NoneCloses calls
