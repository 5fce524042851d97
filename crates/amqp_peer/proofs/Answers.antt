-- Why the last answer of a call comes.
use Rattle.std.proofs.Common.{◌≡◌, ◌⊎◌, inl, inr, ℕ, List, [], ◌∷◌, ◌++◌, Bool, true, false, if◌then◌else◌, Option, Some, None, sym, ap, ◌∙◌, subst}
use Rattle.std.proofs.lemmas.List.{append-nil}
use Rattle.amqp_composites.specs.declared.error.Error.{Error as AmqpError}
use Rattle.amqp_frames.specs.declared.body.FrameBody.{FrameBody}
use Rattle.amqp_frames.specs.declared.body.FrameBody.TheVariants as b
use Rattle.amqp_frames.specs.declared.shared.ConnectionStopReason.{ConnectionStopReason}
use Rattle.amqp_wire.specs.declared.link.Held.TheVariants.{Full}
use Rattle.amqp_wire.specs.Events.{NotWritten, Includes}
use Rattle.amqp_transport.specs.declared.frames.Frame.{Frame}
use Rattle.amqp_engine.specs.Closers.{Closer, IsFirst, IsCloser}
use Rattle.amqp_engine.specs.declared.error.Error.{Error as ConnectionFault}
use Rattle.amqp_engine.specs.declared.error.Error.TheVariants as connection
use Rattle.amqp_engine.specs.declared.phase.Phase.{Phase}
use Rattle.amqp_engine.specs.declared.phase.Phase.TheVariants as p
use Rattle.amqp_engine.specs.Heard.{IsMistaken, IsHeard, IsOver}
use Rattle.amqp_engine.specs.Phases.{kind_of, is_stopped, has_failed, IsClose}
use Rattle.amqp_engine.specs.Sentence.{IsSaid, IsClosed}
use Rattle.amqp_engine.specs.State.{State, stop_reason_of, remote_reason, own_reason, answered_reason}
use Rattle.amqp_words.specs.declared.call.Call.{Call}
use Rattle.amqp_words.specs.declared.reply.Reply.TheVariants as reply
use Rattle.amqp_peer.specs.Closers.{closer_in}
use Rattle.amqp_peer.specs.Causes.{BeginsWithOpen, EndsWithClose, IsLeft, IsOut, HasCause}
use Rattle.amqp_peer.specs.History.{Local, link_in, given_in, sent_in}
use Rattle.amqp_peer.specs.Peering.{IsRunning, IsUnmadeAt, IsFaultIn}
use Rattle.amqp_peer.specs.Runs.{told_by, told_of, error_by, open_failure, open_reply, close_reply}
use Rattle.amqp_peer.proofs.Hears.{mistaken_other, answered_begins, parted_unheard, close_begins_not, other_then}
use Rattle.amqp_peer.proofs.Written.{out_running}

-- ---- where a connection has stopped

stopped_reason : {L : Type 0} (s : State L) → is_stopped s.phase ≡ true → stop_reason_of s ≡ Some s.reason
stopped_reason s e = ap (λ (t : Bool). if t then Some s.reason else None) e

-- without a fault it has heard all
pub over_in : (q : Phase) (reason : ConnectionStopReason) (xs : List Frame) → is_stopped q ≡ true → has_failed q ≡ false → IsHeard q reason xs → IsOver reason xs
over_in p.OpenSent reason xs s f h = absurd (cc s)
over_in p.Opened reason xs s f h = absurd (cc s)
over_in p.CloseReceived reason xs s f h = absurd (cc s)
over_in p.Refused reason xs s f h = absurd (cc s)
over_in (p.Rejected why) reason xs s f h = absurd (cc s)
over_in p.CloseSent reason xs s f h = absurd (cc s)
over_in p.Discarding reason xs s f h = absurd (cc s)
over_in p.Ended reason xs s f h = h
over_in p.Failed reason xs s f h = absurd (cc f)

-- ---- an open or accept

shut_cause : (h : List Local) (channel : ℕ) (error : Option AmqpError) → given_in h ≡ record { channel = channel; body = b.Close (record { error = error }) } ∷ [] → HasCause h (reply.OpenError (open_failure (told_by (remote_reason error))))
shut_cause h channel None e = record { channel = channel; is = e }
shut_cause h channel (Some x) e = record { channel = channel; is = e }

open_over : (h : List Local) (reason : ConnectionStopReason) → (BeginsWithOpen (given_in h) → ⊥) → (IsMistaken reason (given_in h) → ⊥) → IsOver reason (given_in h) → HasCause h (reply.OpenError (open_failure (told_by reason)))
open_over h reason u k (inl o) =
    subst (λ (r : ConnectionStopReason). HasCause h (reply.OpenError (open_failure (told_by r)))) (sym o.told) (shut_cause h o.channel o.last.error (parted_unheard reason (given_in h) o u))
open_over h reason u k (inr (inl o)) = absurd (k o)
open_over h reason u k (inr (inr o)) = absurd (u (answered_begins reason (given_in h) o))

open_fault : {L : Type 0} (e : ConnectionFault) (s : State L) (h : List Local) → IsUnmadeAt (Some e) s h → HasCause h (reply.OpenError (open_failure (Some e)))
open_fault (connection.Memory a) s h u = absurd u.0
open_fault (connection.TransportError t) s h u = u.0.1
open_fault connection.IllegalState s h u = u.0
open_fault connection.NotImplemented s h u = absurd u.0
open_fault connection.NotFound s h u = absurd u.0
open_fault connection.RemoteClosed s h u = absurd u.0
open_fault (connection.RemoteClosedWithError x) s h u = absurd u.0

-- why an open or accept fails whose connection has stopped
pub open_cause : {L : Type 0} (call : Call) (fault : Option ConnectionFault) (s : State L) (h : List Local) → IsRunning call s h → is_stopped s.phase ≡ true → IsUnmadeAt fault s h → HasCause h (open_reply (error_by fault (stop_reason_of s)))
open_cause call None s h k e u =
    subst (λ (r : Option ConnectionStopReason). HasCause h (open_reply (told_of r))) (sym (stopped_reason s e))
    (open_over h s.reason u.unheard (λ m. u.kept (mistaken_other s.reason (given_in h) m)) (over_in s.phase s.reason (given_in h) e u.sound k.runs.heard))
open_cause call (Some f) s h k e u = open_fault f s h u

-- ---- a close

-- the Close that was sent is the last frame
close_body : (channel : ℕ) (front : List Frame) (body : FrameBody) (xs : List Frame) → IsClose (kind_of body) → xs ≡ front ++ record { channel = channel; body = body } ∷ [] → EndsWithClose xs
close_body channel front (b.Open x) xs c e = absurd c
close_body channel front (b.Begin x) xs c e = absurd c
close_body channel front (b.Attach x) xs c e = absurd c
close_body channel front (b.Flow x) xs c e = absurd c
close_body channel front (b.Transfer x y) xs c e = absurd c
close_body channel front (b.Disposition x) xs c e = absurd c
close_body channel front (b.Detach x) xs c e = absurd c
close_body channel front (b.End x) xs c e = absurd c
close_body channel front (b.Close x) xs c e = record { front = front; channel = channel; last = x; is = e }
close_body channel front b.Empty xs c e = absurd c

pub ends_with_close : (xs : List Frame) → IsClosed xs → EndsWithClose xs
ends_with_close xs c = close_body c.last.channel c.front c.last.body xs c.close c.is

pub said_close : (q : Phase) (sent : List Frame) → is_stopped q ≡ true → has_failed q ≡ false → IsSaid q sent → EndsWithClose sent
said_close p.OpenSent sent s f h = absurd (cc s)
said_close p.Opened sent s f h = absurd (cc s)
said_close p.CloseReceived sent s f h = absurd (cc s)
said_close p.Refused sent s f h = absurd (cc s)
said_close (p.Rejected why) sent s f h = absurd (cc s)
said_close p.CloseSent sent s f h = absurd (cc s)
said_close p.Discarding sent s f h = absurd (cc s)
said_close p.Ended sent s f h = ends_with_close sent h
said_close p.Failed sent s f h = absurd (cc f)

left_cause : (h : List Local) (error : Option AmqpError) → IsLeft error (given_in h) → IsFirst (remote_reason error) (closer_in h) → HasCause h (close_reply (told_by (remote_reason error)))
left_cause h None l f = (l, f)
left_cause h (Some e) l f = l

own_cause : (h : List Local) (own : Option AmqpError) → IsLeft None (given_in h) → EndsWithClose (sent_in h) → IsOut h → IsFirst (own_reason own) (closer_in h) → HasCause h (close_reply (told_by (own_reason own)))
own_cause h None l c out f = record { heard = l; said = c; first = f; out = out }
own_cause h (Some e) l c out f = record { heard = l; said = c; first = f; out = out }

answered_cause : (h : List Local) (own error : Option AmqpError) → IsLeft error (given_in h) → EndsWithClose (sent_in h) → IsOut h → IsFirst (answered_reason (own_reason own) error) (closer_in h) → HasCause h (close_reply (told_by (answered_reason (own_reason own) error)))
answered_cause h own None l c out f = own_cause h own l c out f
answered_cause h own (Some e) l c out f = l

close_over : (h : List Local) (reason : ConnectionStopReason) → BeginsWithOpen (given_in h) → EndsWithClose (sent_in h) → IsOut h → IsFirst reason (closer_in h) → IsOver reason (given_in h) → HasCause h (close_reply (told_by reason))
close_over h reason g c out f (inl o) =
    subst (λ (r : ConnectionStopReason). HasCause h (close_reply (told_by r))) (sym o.told)
    (left_cause h o.last.error (elim o.before [
      | inl e ↦ absurd (close_begins_not (given_in h) (record { channel = o.channel; last = o.last; is = o.is ∙ ap (λ (u : List Frame). u ++ record { channel = o.channel; body = b.Close o.last } ∷ []) e }) g)
      | inr x ↦ record { front = o.front; channel = o.channel; before = x; is = o.is }
    ]) (subst (λ (r : ConnectionStopReason). IsFirst r (closer_in h)) o.told f))
close_over h reason g c out f (inr (inl o)) = absurd (other_then (given_in h) [] (mistaken_other reason (given_in h) o) (subst BeginsWithOpen (sym (append-nil (given_in h))) g))
close_over h reason g c out f (inr (inr o)) =
    let l : IsLeft o.last.error (given_in h) = record { front = o.front; channel = o.channel; before = o.before; is = o.is } in
    subst (λ (r : ConnectionStopReason). HasCause h (close_reply (told_by r))) (sym o.told)
    (answered_cause h o.own o.last.error l c out (subst (λ (r : ConnectionStopReason). IsFirst r (closer_in h)) o.told f))

-- a connection that has stopped, and whose transport has not failed, knows whose Close came first
ended_first : (q : Phase) (reason : ConnectionStopReason) (c : Closer) → is_stopped q ≡ true → has_failed q ≡ false → IsCloser q reason c → IsFirst reason c
ended_first p.OpenSent reason c s f k = absurd (cc s)
ended_first p.Opened reason c s f k = absurd (cc s)
ended_first p.CloseReceived reason c s f k = absurd (cc s)
ended_first p.Refused reason c s f k = absurd (cc s)
ended_first (p.Rejected why) reason c s f k = absurd (cc s)
ended_first p.CloseSent reason c s f k = absurd (cc s)
ended_first p.Discarding reason c s f k = absurd (cc s)
ended_first p.Ended reason c s f k = k
ended_first p.Failed reason c s f k = absurd (cc f)

close_fault : {L : Type 0} (e : ConnectionFault) (s : State L) (h : List Local) → IsFaultIn (Some e) s h → HasCause h (close_reply (Some e))
close_fault (connection.Memory a) s h u = absurd u.0
close_fault (connection.TransportError t) s h u = u.0.1
close_fault connection.IllegalState s h u = u.0
close_fault connection.NotImplemented s h u = u.0
close_fault connection.NotFound s h u = u.0
close_fault connection.RemoteClosed s h u = absurd u.0
close_fault (connection.RemoteClosedWithError x) s h u = absurd u.0

-- why a close is answered so whose connection has stopped
pub close_cause : {L : Type 0} (call : Call) (fault : Option ConnectionFault) (s : State L) (h : List Local) → IsRunning call s h → is_stopped s.phase ≡ true → (has_failed s.phase ≡ true) ⊎ (Includes (link_in h) (NotWritten Full) ⊎ (s.wire.codec.output ≡ []))
    → BeginsWithOpen (given_in h) → IsFaultIn fault s h → HasCause h (close_reply (error_by fault (stop_reason_of s)))
close_cause call None s h k e w g u =
    let out : Includes (link_in h) (NotWritten Full) ⊎ (s.wire.codec.output ≡ []) = elim w [ inl f ↦ absurd (cc (f, u)) | inr x ↦ x ] in
    subst (λ (r : Option ConnectionStopReason). HasCause h (close_reply (told_of r))) (sym (stopped_reason s e))
    (close_over h s.reason g (said_close s.phase (sent_in h) e u k.runs.said) (out_running call s h k out) (ended_first s.phase s.reason (closer_in h) e u k.closer) (over_in s.phase s.reason (given_in h) e u k.runs.heard))
close_cause call (Some f) s h k e w g u = close_fault f s h u
