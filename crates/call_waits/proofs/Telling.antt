-- Why a call is told to wait that has no other answer.
use Rattle.std.specs.Prelude.{◌≡◌, ℕ, nat_lt, Bool, true, false, length, List, Option, Some, None, Result, Err, if◌then◌else◌, refl}
use Rattle.std.proofs.Common.{sym, ◌∙◌, arith}
use Rattle.std.proofs.lemmas.Bool.Decides.{nat_tests}
use Rattle.amqp_performatives.specs.declared.detach.Detach.{Detach}
use Rattle.amqp_frames.specs.declared.shared.SessionStopReason.{SessionStopReason}
use Rattle.amqp_link.specs.declared.error.DetachError.TheVariants.{IllegalState}
use Rattle.amqp_link.specs.declared.error.LinkStateError.{LinkStateError}
use Rattle.amqp_link.specs.declared.error.LinkStateError.TheVariants as state
use Rattle.amqp_link.specs.Link as link
use Rattle.amqp_link_words.specs.declared.link_reply.LinkReply.TheVariants as reply
use Rattle.amqp_link_calls.specs.Replies.{sent_reply}
use Rattle.amqp_link_calls.specs.Side.{Sender}
use Rattle.amqp_receiver.specs.declared.error.RecvError.{RecvError}
use Rattle.amqp_receiver.specs.declared.error.RecvError.TheVariants as recv
use Rattle.amqp_receiver.specs.Receiver.{State as ReceiverState}
use Rattle.amqp_receiver.specs.Receiving.{Got, fails, next, receiving, ended, ended_as}
use Rattle.amqp_sender.specs.declared.error.SendError.{SendError}
use Rattle.amqp_sender.specs.declared.error.SendError.TheVariants as error
use Rattle.amqp_sender.specs.Sender.{State as SenderState}
use Rattle.amqp_sender.specs.Sending.{Made, tells, is_too_large, is_settled, sending_with, sending_unless}
use Rattle.call_waits.specs.Laws.{SendWaits, RecvWaits}
use Rattle.call_waits.proofs.Receivers as receivers

-- ---- sending

no_credit : (n : ℕ) → nat_lt 0 n ≡ false → n ≡ 0
no_credit n h = grind (arith, nat_tests)

abbrev Waited : Option LinkStateError → SenderState → Made → Type 0
Waited o s m = sent_reply m.answer ≡ reply.Pending → (s.credit ≡ 0) × (o ≡ None) × (Sender m.state ≡ Sender s)

with_waited : (b : Bool) (payload : List ℕ) (format : ℕ) (settled batchable : Bool) (s : SenderState) → nat_lt 0 s.credit ≡ b → Waited None s (sending_with b payload format settled batchable s)
with_waited true payload format settled batchable s e h = absurd cc
with_waited false payload format settled batchable s e h = (no_credit s.credit e, refl, refl)

detaching_waited : (d : Bool) (payload : List ℕ) (format : ℕ) (settled batchable : Bool) (s : SenderState)
    → Waited None s (if d then tells (Err (error.Detached IllegalState)) s else sending_with (nat_lt 0 s.credit) payload format settled batchable s)
detaching_waited true payload format settled batchable s h = absurd cc
detaching_waited false payload format settled batchable s h = with_waited (nat_lt 0 s.credit) payload format settled batchable s refl h

unless_waited : (o : Option LinkStateError) (payload : List ℕ) (format : ℕ) (settled batchable : Bool) (s : SenderState) → Waited o s (sending_unless o payload format settled batchable s)
unless_waited (Some e) payload format settled batchable s h = absurd cc
unless_waited None payload format settled batchable s h = detaching_waited (link.is_detaching s.link.phase) payload format settled batchable s h

large_waited : (c : Bool) (o : Option LinkStateError) (e : SendError) (payload : List ℕ) (format : ℕ) (settled batchable : Bool) (s : SenderState)
    → Waited o s (if c then tells (Err e) s else sending_unless o payload format settled batchable s)
large_waited true o e payload format settled batchable s h = absurd cc
large_waited false o e payload format settled batchable s h = unless_waited o payload format settled batchable s h

pub send_waits : SendWaits
send_waits x s h =
    large_waited (is_too_large (length x.payload) s.link.max_message_size) (link.refusal s.link) (error.MessageSizeExceeded (length x.payload) s.link.max_message_size)
    x.payload 0 (is_settled s.link.own.snd_settle_mode x.settled) x.batchable s h

-- ---- receiving

neither : (r : Option Detach) (o : Option SessionStopReason) → link.ended_by r o ≡ None → (r ≡ None) × (o ≡ None)
neither (Some d) o h = absurd cc
neither None (Some why) h = absurd cc
neither None None h = (refl, refl)

ended_none : (o : Option LinkStateError) (s : ReceiverState) → (ended_as o s).answer ≡ None → o ≡ None
ended_none (Some e) s h = absurd cc
ended_none None s h = refl

next_none : (o : Option (Result Got RecvError)) (s : ReceiverState) → (next o s ended).answer ≡ None → (s.link.remote ≡ None) × (s.link.stop_reason ≡ None)
next_none (Some x) s h = absurd cc
next_none None s h = neither s.link.remote s.link.stop_reason (ended_none (link.ended_by s.link.remote s.link.stop_reason) s h)

received_by : (c : Bool) (s : ReceiverState) → (if c then fails (recv.LinkStateError state.IllegalState) s else (let t = receiving s.incoming s in next t.answer t.state ended)).answer ≡ None
    → (c ≡ false) × (s.link.remote ≡ None) × (s.link.stop_reason ≡ None)
received_by true s h = absurd cc
received_by false s h =
    let t = receiving s.incoming s in
    let a = next_none t.answer t.state h in
    let k = (receivers.receiving_stays s.incoming s).keeps.stays in
    (refl, sym k.remote ∙ a.0, sym k.stop ∙ a.1)

pub recv_waits : RecvWaits
recv_waits s h = received_by s.link.is_closed s h
