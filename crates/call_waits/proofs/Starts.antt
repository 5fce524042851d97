-- Where a link is made its calls wait for the peer, or none waits.
use Rattle.std.specs.Prelude.{ℕ, None, Result, Ok, Err, refl}
use Rattle.amqp_link.specs.declared.endpoint.AttachPoll.{AttachPoll}
use Rattle.amqp_link.specs.declared.endpoint.AttachPoll.TheVariants.{Pending, Done}
use Rattle.amqp_link.specs.declared.error.AttachError.{AttachError}
use Rattle.amqp_link_calls.specs.Answering.{accept_told}
use Rattle.amqp_link_calls.specs.Called.{begun, answering_side}
use Rattle.amqp_link_calls.specs.Side.{Side, polled, polled_answer}
use Rattle.call_waits.specs.Laws.{SenderWaits, ReceiverWaits, AcceptedWaits}
use Rattle.call_waits.specs.Waits.{Waits}
use Rattle.call_waits.proofs.Tables.{none_keyed}

pub sender_waits : SenderWaits
sender_waits name session handle x =
    record { attach = λ n e h. refl; part = λ w e h. absurd cc; unsettled = λ place n e. absurd cc; outcome = λ place n e h. absurd cc; once = none_keyed; over = λ h. absurd cc }

pub receiver_waits : ReceiverWaits
receiver_waits name session handle x =
    record { attach = λ n e h. refl; part = λ w e h. absurd cc; unsettled = λ place n e. absurd cc; outcome = λ place n e h. absurd cc; once = none_keyed; over = λ h. absurd cc }

-- a link that no call attaches
none_waits : (session : ℕ) (s : Side) → Waits (begun session s None)
none_waits session s =
    record { attach = λ n e h. absurd cc; part = λ w e h. absurd cc; unsettled = λ place n e. absurd cc; outcome = λ place n e h. absurd cc; once = none_keyed; over = λ h. absurd cc }

told_waits : (r : Result AttachPoll AttachError) (session : ℕ) (s : Side) → Waits (accept_told r (begun session s None))
told_waits (Ok Done) session s =
    record { attach = λ n e h. absurd cc; part = λ w e h. absurd cc; unsettled = λ place n e. absurd cc; outcome = λ place n e h. absurd cc; once = none_keyed; over = λ h. absurd cc }
told_waits (Ok Pending) session s = none_waits session s
told_waits (Err x) session s = none_waits session s

pub accepted_waits : AcceptedWaits
accepted_waits session handle settings mode auto x =
    let s = answering_side x.role settings mode auto handle x in told_waits (polled_answer s) session (polled s)
