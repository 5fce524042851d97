-- What the reason of a stop says of the frames that were read.
use Rattle.std.proofs.Common.{◌≡◌, ◌⊎◌, inl, inr, ℕ, List, [], ◌∷◌, ◌++◌, Option, Some, None, refl, sym, ap, ◌∙◌, subst}
use Rattle.amqp_transport.specs.amqp_performatives.declared.close.Close.{Close}
use Rattle.amqp_composites.specs.declared.error.Error.{Error as AmqpError}
use Rattle.amqp_transport.specs.amqp_frames.declared.shared.ConnectionStopReason.{ConnectionStopReason}
use Rattle.amqp_transport.specs.amqp_frames.declared.shared.ConnectionStopReason.TheVariants as why
use Rattle.amqp_transport.specs.amqp_frames.declared.body.FrameBody.TheVariants as b
use Rattle.amqp_transport.specs.declared.frames.Frame.{Frame}
use Rattle.amqp_engine.specs.declared.phase.Phase.{Phase}
use Rattle.amqp_engine.specs.declared.phase.Phase.TheVariants as p
use Rattle.amqp_engine.specs.State.{State, remote_reason, own_reason, answered_reason}
use Rattle.amqp_engine.specs.Heard.{IsHeard, IsGreeted, IsParted, IsAnswered, IsOver, IsReason, HasLeft}
use Rattle.amqp_engine.specs.Sentence.{Has, History}

reason_is : (given : List Frame) (reason other : ConnectionStopReason) → reason ≡ other → IsReason other given → IsReason reason given
reason_is given reason other e r = subst (λ (z : ConnectionStopReason). IsReason z given) (sym e) r

closed_reason : (given : List Frame) (reason : ConnectionStopReason) → reason ≡ why.Closed → IsReason reason given
closed_reason given reason e = reason_is given reason why.Closed e tt

-- the peer's Close, for that error
left_by : (given front : List Frame) (channel : ℕ) (error : Option AmqpError) (last : Close) → last.error ≡ error → (front ≡ []) ⊎ IsGreeted front → given ≡ front ++ record { channel = channel; body = b.Close last } ∷ [] → HasLeft error given
left_by given front channel error last e before is =
    subst (λ (y : Option AmqpError). HasLeft y given) e (record { front = front; channel = channel; before = before; is = is })

remote_is : (given : List Frame) (error : Option AmqpError) → HasLeft error given → IsReason (remote_reason error) given
remote_is given None h = h
remote_is given (Some e) h = h

parted_reason : (given : List Frame) (reason : ConnectionStopReason) → IsParted reason given → IsReason reason given
parted_reason given reason h =
    reason_is given reason (remote_reason h.last.error) h.told (remote_is given h.last.error (left_by given h.front h.channel h.last.error h.last refl h.before h.is))

-- an own reason, where the peer's Close has no error
own_is : (given : List Frame) (reason : ConnectionStopReason) (own : Option AmqpError) → reason ≡ own_reason own → IsGreeted given ⊎ IsAnswered reason given → IsReason reason given
own_is given reason None e h = closed_reason given reason e
own_is given reason (Some y) e h =
    reason_is given reason (why.ClosedWithError y) e (subst (λ (z : ConnectionStopReason). IsGreeted given ⊎ IsAnswered z given) e h)

answered_by : (given : List Frame) (reason : ConnectionStopReason) (error : Option AmqpError) (h : IsAnswered reason given) → h.last.error ≡ error → IsReason reason given
answered_by given reason None h e = own_is given reason h.own (h.told ∙ ap (λ (y : Option AmqpError). answered_reason (own_reason h.own) y) e) (inr h)
answered_by given reason (Some y) h e =
    reason_is given reason (why.RemoteClosedWithError y) (h.told ∙ ap (λ (z : Option AmqpError). answered_reason (own_reason h.own) z) e)
    (left_by given h.front h.channel (Some y) h.last e (inr h.before) h.is)

over_reason : (given : List Frame) (reason : ConnectionStopReason) → IsOver reason given → IsReason reason given
over_reason given reason (inl h) = parted_reason given reason h
over_reason given reason (inr (inl h)) = closed_reason given reason h.told
over_reason given reason (inr (inr h)) = answered_by given reason h.last.error h refl

pub heard_reason : (q : Phase) (reason : ConnectionStopReason) (given : List Frame) → IsHeard q reason given → IsReason reason given
heard_reason p.OpenSent reason given h = closed_reason given reason h.1
heard_reason p.Opened reason given h = closed_reason given reason h.1
heard_reason p.CloseReceived reason given h = parted_reason given reason h
heard_reason p.Refused reason given h = closed_reason given reason h.told
heard_reason (p.Rejected w) reason given h = closed_reason given reason h.1
heard_reason p.CloseSent reason given h = closed_reason given reason h.1
heard_reason p.Discarding reason given h = own_is given reason (Some h.1) h.2 (inl h.0)
heard_reason p.Ended reason given h = over_reason given reason h
heard_reason p.Failed reason given (inl h) = closed_reason given reason h
heard_reason p.Failed reason given (inr h) = over_reason given reason h

pub reason_told : {L : Type 0} (before arrived : List ℕ) (s : State L) (h : History) → Has before arrived s h → IsReason s.reason h.given
reason_told before arrived s h has = heard_reason s.phase s.reason h.given has.heard
