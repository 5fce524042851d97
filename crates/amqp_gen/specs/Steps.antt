-- The steps of the messages.
use Rattle.std.specs.Prelude.{ℕ, zero, suc, ◌+◌, List, [], ◌∷◌, ◌++◌, length, None, true, false}
use Rattle.amqp_calls.specs.declared.step.Act.TheVariants.{TakeAll}
use Rattle.amqp_calls.specs.declared.step.Step.{Step}
use Rattle.amqp_link_words.specs.declared.link_call.Disposal.TheVariants.{Accepted}
use Rattle.amqp_link_words.specs.declared.link_call.LinkCall.TheVariants as call
use Rattle.amqp_words.specs.declared.step.End.TheVariants.{Client, Listener}
use Rattle.amqp_gen.specs.Rule.{advanced, body_length, number_at, message_of}
use Rattle.amqp_gen.specs.Step.{step_of, link_step}

-- the steps of one message with a body of so many bytes, of which the first has that position: it is sent, received and accepted, and
-- its outcome is asked
abbrev pub message_steps : ℕ → ℕ → List Step
message_steps at n =
    link_step Client (call.Send 9 (record { payload = message_of n; has_body = true; settled = None; batchable = false }))
    ∷ step_of Listener TakeAll
    ∷ link_step Listener (call.Recv 10)
    ∷ link_step Listener (call.Dispose 10 Accepted ((at + 2) ∷ []))
    ∷ step_of Client TakeAll
    ∷ link_step Client (call.Outcome at)
    ∷ []

-- a message follows those steps
abbrev pub with_message : List Step → ℕ → List Step
with_message steps n = steps ++ message_steps (length steps) n

-- so many messages follow them, whose lengths the rule makes from the start
abbrev pub with_messages : List Step → ℕ → ℕ → List Step
with_messages steps start zero = steps
with_messages steps start (suc n) = with_message (with_messages steps start n) (body_length (number_at start (suc n)))

-- how many bytes their bodies have together
abbrev pub bytes_of : ℕ → ℕ → ℕ
bytes_of start zero = 0
bytes_of start (suc n) = bytes_of start n + body_length (number_at start (suc n))
