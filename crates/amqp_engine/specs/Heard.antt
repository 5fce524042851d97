-- What an end has heard on its connection, by how far it is (OASIS AMQP 1.0, part 2, section 2.4).
use Rattle.std.specs.Prelude.{◌≡◌, ◌⊎◌, true, ℕ, List, [], ◌∷◌, ◌++◌, Option, Some, None, IsSome}
use Rattle.amqp_transport.specs.amqp_performatives.declared.close.Close.{Close}
use Rattle.amqp_composites.specs.declared.error.Error.{Error as AmqpError}
use Rattle.amqp_transport.specs.amqp_performatives.declared.open.Open.{Open}
use Rattle.amqp_transport.specs.amqp_frames.declared.body.FrameBody.{FrameBody}
use Rattle.amqp_transport.specs.amqp_frames.declared.body.FrameBody.TheVariants as b
use Rattle.amqp_transport.specs.amqp_frames.declared.shared.ConnectionStopReason.{ConnectionStopReason}
use Rattle.amqp_transport.specs.amqp_frames.declared.shared.ConnectionStopReason.TheVariants as why
use Rattle.amqp_transport.specs.amqp_frames.Session.{of_session}
use Rattle.amqp_transport.specs.declared.frames.Frame.{Frame}
use Rattle.amqp_engine.specs.declared.phase.BodyKind.{BodyKind}
use Rattle.amqp_engine.specs.declared.phase.BodyKind.TheVariants as kind
use Rattle.amqp_engine.specs.declared.phase.Phase.{Phase}
use Rattle.amqp_engine.specs.declared.phase.Phase.TheVariants as p
use Rattle.amqp_engine.specs.declared.phase.Rejection.{Rejection}
use Rattle.amqp_engine.specs.declared.phase.Rejection.TheVariants as rejection
use Rattle.amqp_engine.specs.Phases.{kind_of, IsInner, IsClose}
use Rattle.amqp_engine.specs.State.{remote_reason, own_reason, answered_reason}

-- no Close is among them
abbrev pub AllUnclosed : List Frame → Type 0
AllUnclosed [] = Unit {0}
AllUnclosed (x ∷ xs) = (IsClose (kind_of x.body) → ⊥) × AllUnclosed xs

-- the peer's Open, and no Close behind it (part 2, section 2.4.1)
pub record IsGreeted (given : List Frame) : Type 0 where
  pub channel : ℕ
  pub first : Open
  pub more : List Frame
  pub each : AllUnclosed more
  pub is : given ≡ record { channel = channel; body = b.Open first } ∷ more

-- it has no place while the connection is open: a second Open, or a frame of a session (part 2, section 2.4)
abbrev pub IsStray : BodyKind → Type 0
IsStray kind.Open = Unit {0}
IsStray kind.Session = Unit {0}
IsStray kind.Empty = ⊥
IsStray kind.Close = ⊥

-- a second Open, or a Begin
abbrev pub IsOpening : FrameBody → Type 0
IsOpening (b.Open x) = Unit {0}
IsOpening (b.Begin x) = Unit {0}
IsOpening body = ⊥

-- a Begin that asks for a session, as it names no channel (part 2, section 2.7.2)
abbrev pub IsAsking : FrameBody → Type 0
IsAsking (b.Begin x) = x.remote_channel ≡ None
IsAsking body = ⊥

-- any other frame of a session: a Begin that names a channel of this end, or one for a session that the peer has begun
abbrev pub IsAddressed : FrameBody → Type 0
IsAddressed (b.Begin x) = IsSome x.remote_channel
IsAddressed body = of_session body ≡ true

-- Which frames may be refused for which reason (part 2, sections 2.5.1, 2.7.1 and 2.7.2): `IllegalState` an Open or a Begin that comes
-- out of order, `NotImplemented` a Begin that asks for a session, `NotFound` a frame for a session that is not there, `FramingError` a
-- frame of a session beyond what was agreed.
abbrev pub IsStrayFor : Rejection → FrameBody → Type 0
IsStrayFor rejection.IllegalState body = IsOpening body
IsStrayFor rejection.NotImplemented body = IsAsking body
IsStrayFor rejection.NotFound body = IsAddressed body
IsStrayFor rejection.FramingError body = of_session body ≡ true

-- the peer's Open, and last a frame that is refused (part 2, section 2.4)
pub record IsRejected (given : List Frame) : Type 0 where
  pub front : List Frame
  pub last : Frame
  pub before : IsGreeted front
  pub stray : IsStray (kind_of last.body)
  pub is : given ≡ front ++ last ∷ []

-- the same, and it may be refused for that reason
pub record IsRejectedFor (why : Rejection) (given : List Frame) : Type 0 where
  pub it : IsRejected given
  pub fits : IsStrayFor why it.last.body

-- the peer's Close, in place of Open or behind it, and nothing more; the reason is its own (part 2, section 2.4.3)
pub record IsParted (reason : ConnectionStopReason) (given : List Frame) : Type 0 where
  pub front : List Frame
  pub channel : ℕ
  pub last : Close
  pub before : (front ≡ []) ⊎ IsGreeted front
  pub is : given ≡ front ++ record { channel = channel; body = b.Close last } ∷ []
  pub told : reason ≡ remote_reason last.error

-- one frame in place of the peer's Open, which is neither Open nor Close (part 2, section 2.4.1)
pub record IsMistaken (reason : ConnectionStopReason) (given : List Frame) : Type 0 where
  pub first : Frame
  pub other : IsInner (kind_of first.body)
  pub is : given ≡ first ∷ []
  pub told : reason ≡ why.Closed

-- the peer's Close, after this end has closed for a reason of its own; an error of the peer's is the reason then (part 2, section
-- 2.4.3)
pub record IsAnswered (reason : ConnectionStopReason) (given : List Frame) : Type 0 where
  pub front : List Frame
  pub channel : ℕ
  pub last : Close
  pub own : Option AmqpError
  pub before : IsGreeted front
  pub is : given ≡ front ++ record { channel = channel; body = b.Close last } ∷ []
  pub told : reason ≡ answered_reason (own_reason own) last.error

-- all was heard (part 2, section 2.4.3)
abbrev pub IsOver : ConnectionStopReason → List Frame → Type 0
IsOver reason given = IsParted reason given ⊎ (IsMistaken reason given ⊎ IsAnswered reason given)

-- What was read so far, and the reason that is kept, by how far the connection is (part 2, section 2.4.6). An engine that failed had
-- heard all before, or its reason is not the peer's.
abbrev pub IsHeard : Phase → ConnectionStopReason → List Frame → Type 0
IsHeard p.OpenSent reason given = (given ≡ []) × (reason ≡ why.Closed)
IsHeard p.Opened reason given = IsGreeted given × (reason ≡ why.Closed)
IsHeard p.CloseReceived reason given = IsParted reason given
IsHeard p.Refused reason given = IsMistaken reason given
IsHeard (p.Rejected rejection) reason given = IsRejectedFor rejection given × (reason ≡ why.Closed)
IsHeard p.CloseSent reason given = IsGreeted given × (reason ≡ own_reason None)
IsHeard p.Discarding reason given = IsGreeted given × (own : AmqpError) × (reason ≡ own_reason (Some own))
IsHeard p.Ended reason given = IsOver reason given
IsHeard p.Failed reason given = (reason ≡ why.Closed) ⊎ IsOver reason given

-- the peer's Close came last, for that error, in place of Open or behind it (part 2, section 2.7.9)
pub record HasLeft (error : Option AmqpError) (given : List Frame) : Type 0 where
  pub front : List Frame
  pub channel : ℕ
  pub before : (front ≡ []) ⊎ IsGreeted front
  pub is : given ≡ front ++ record { channel = channel; body = b.Close (record { error = error }) } ∷ []

-- what a reason says of the frames that were read: where it is the peer's, its Close was the last, for that error (part 2, section
-- 2.4.3)
abbrev pub IsReason : ConnectionStopReason → List Frame → Type 0
IsReason why.Closed given = Unit {0}
IsReason (why.ClosedWithError e) given = IsGreeted given ⊎ IsAnswered (why.ClosedWithError e) given
IsReason why.RemoteClosed given = HasLeft None given
IsReason (why.RemoteClosedWithError e) given = HasLeft (Some e) given
