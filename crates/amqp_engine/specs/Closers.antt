-- Whose Close came first (OASIS AMQP 1.0, part 2, sections 2.4.3 and 2.4.6).
use Rattle.std.specs.Prelude.{◌≡◌, List, [], ◌∷◌, ⊤}
use Rattle.amqp_transport.specs.amqp_frames.declared.body.FrameBody.{FrameBody}
use Rattle.amqp_transport.specs.amqp_frames.declared.body.FrameBody.TheVariants as b
use Rattle.amqp_transport.specs.amqp_frames.declared.shared.ConnectionStopReason.{ConnectionStopReason}
use Rattle.amqp_transport.specs.amqp_frames.declared.shared.ConnectionStopReason.TheVariants as why
use Rattle.amqp_transport.specs.declared.frames.Frame.{Frame}
use Rattle.amqp_engine.specs.declared.phase.Phase.{Phase}
use Rattle.amqp_engine.specs.declared.phase.Phase.TheVariants as p
use Rattle.amqp_engine.specs.State.{State}

-- no Close was queued or read, this end queued its own first, or the peer's was read first
pub data Closer : Type 0 where
  Nobody : Closer
  This : Closer
  Peer : Closer

-- a frame of whoever this is: the first Close counts
abbrev pub closer_by : Closer → FrameBody → Closer → Closer
closer_by who (b.Close x) Nobody = who
closer_by who (b.Close x) This = This
closer_by who (b.Close x) Peer = Peer
closer_by who body c = c

-- after a step in which these frames were read, or these were queued
abbrev pub closer_after : List Frame → List Frame → Closer → Closer
closer_after [] [] c = c
closer_after [] (x ∷ queued) c = closer_by This x.body c
closer_after (x ∷ given) queued c = closer_by Peer x.body c

-- a reason of this end's own, and one of the peer's
abbrev pub IsOwnReason : ConnectionStopReason → Type 0
IsOwnReason why.Closed = ⊤
IsOwnReason (why.ClosedWithError e) = ⊤
IsOwnReason why.RemoteClosed = ⊥
IsOwnReason (why.RemoteClosedWithError e) = ⊥

abbrev pub IsPeerReason : ConnectionStopReason → Type 0
IsPeerReason why.Closed = ⊥
IsPeerReason (why.ClosedWithError e) = ⊥
IsPeerReason why.RemoteClosed = ⊤
IsPeerReason (why.RemoteClosedWithError e) = ⊤

-- Whose Close came first, by the reason of the stop. An error of the peer's is the reason whether its Close came first or answered.
abbrev pub IsFirst : ConnectionStopReason → Closer → Type 0
IsFirst why.Closed c = c ≡ This
IsFirst (why.ClosedWithError e) c = c ≡ This
IsFirst why.RemoteClosed c = c ≡ Peer
IsFirst (why.RemoteClosedWithError e) c = ⊤

-- the same, by how far the connection is
abbrev pub IsCloser : Phase → ConnectionStopReason → Closer → Type 0
IsCloser p.OpenSent reason c = (c ≡ Nobody) × (reason ≡ why.Closed)
IsCloser p.Opened reason c = (c ≡ Nobody) × (reason ≡ why.Closed)
IsCloser p.CloseReceived reason c = (c ≡ Peer) × IsPeerReason reason
IsCloser p.Refused reason c = (c ≡ Nobody) × (reason ≡ why.Closed)
IsCloser (p.Rejected rejection) reason c = (c ≡ Nobody) × (reason ≡ why.Closed)
IsCloser p.CloseSent reason c = (c ≡ This) × IsOwnReason reason
IsCloser p.Discarding reason c = (c ≡ This) × IsOwnReason reason
IsCloser p.Ended reason c = IsFirst reason c
IsCloser p.Failed reason c = ⊤

-- a step keeps it so
abbrev pub KeepsCloser : {L : Type 0} → State L → List Frame → List Frame → State L → Type 0
KeepsCloser old given queued new = (c : Closer) → IsCloser old.phase old.reason c → IsCloser new.phase new.reason (closer_after given queued c)
