-- What may be said next.
use Rattle.std.proofs.Common.{◌≡◌, ◌⊎◌, inl, inr, List, [], ◌∷◌, ◌++◌, Option, Some, None, true, refl, ap}
use Rattle.amqp_transport.specs.amqp_frames.declared.body.FrameBody.{FrameBody}
use Rattle.amqp_transport.specs.amqp_frames.declared.body.FrameBody.TheVariants as b
use Rattle.amqp_transport.specs.amqp_frames.Session.{of_session}
use Rattle.amqp_transport.specs.declared.frames.Frame.{Frame}
use Rattle.amqp_engine.specs.declared.phase.Phase.{Phase}
use Rattle.amqp_engine.specs.declared.phase.Phase.TheVariants as p
use Rattle.amqp_composites.specs.declared.error.Error.{Error as AmqpError}
use Rattle.amqp_engine.specs.Phases.{kind_of, IsInner, IsClose}
use Rattle.amqp_engine.specs.State.{close_phase}
use Rattle.amqp_engine.specs.Sentence.{IsSaid, IsBegun, IsClosed, AllInner}

pub said_failed : (q : Phase) (sent : List Frame) → IsSaid q sent → IsSaid p.Failed sent
said_failed p.OpenSent sent s = inl s
said_failed p.Opened sent s = inl s
said_failed p.CloseReceived sent s = inl s
said_failed p.Refused sent s = inl s
said_failed (p.Rejected why) sent s = inl s
said_failed p.CloseSent sent s = inr s
said_failed p.Discarding sent s = inr s
said_failed p.Ended sent s = inr s
said_failed p.Failed sent s = s

pub said_form : (q : Phase) (sent : List Frame) → IsSaid q sent → IsBegun sent ⊎ IsClosed sent
said_form q sent s = said_failed q sent s

inner_push : (xs : List Frame) (x : Frame) → AllInner xs → IsInner (kind_of x.body) → AllInner (xs ++ x ∷ [])
inner_push [] x a i = (i, tt)
inner_push (y ∷ xs) x a i = (a.0, inner_push xs x a.1 i)

pub begun_push : (sent : List Frame) (x : Frame) → IsInner (kind_of x.body) → IsBegun sent → IsBegun (sent ++ x ∷ [])
begun_push sent x i s = record { first = s.first; inner = s.inner ++ x ∷ []; each = inner_push s.inner x s.each i; is = ap (λ (xs : List Frame). xs ++ x ∷ []) s.is }

pub closed_push : (sent : List Frame) (x : Frame) → IsClose (kind_of x.body) → IsBegun sent → IsClosed (sent ++ x ∷ [])
closed_push sent x i s = record { front = sent; last = x; begun = s; close = i; is = refl }

pub said_closing : (error : Option AmqpError) (sent : List Frame) → IsClosed sent → IsSaid (close_phase error) sent
said_closing None sent s = s
said_closing (Some e) sent s = s

pub session_is_inner : (body : FrameBody) → of_session body ≡ true → IsInner (kind_of body)
session_is_inner (b.Open y) e = absurd (cc e)
session_is_inner (b.Close y) e = absurd (cc e)
session_is_inner b.Empty e = absurd (cc e)
session_is_inner (b.Begin y) e = tt
session_is_inner (b.Attach y) e = tt
session_is_inner (b.Flow y) e = tt
session_is_inner (b.Transfer y z) e = tt
session_is_inner (b.Disposition y) e = tt
session_is_inner (b.Detach y) e = tt
session_is_inner (b.End y) e = tt
