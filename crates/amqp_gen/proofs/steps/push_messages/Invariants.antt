use Rattle.std.proofs.Common.{◌≡◌, ◌≤◌, ◌*◌}
use Rattle.amqp_gen.specs.Rule.{number_at}
use Rattle.amqp_gen.specs.Steps.{with_messages, bytes_of}
use Rattle.amqp_gen.proofs.steps.push_messages.Given as goal

-- so many messages were added
abbrev pub invariant-loop-number : goal.invariant-loop-number
invariant-loop-number l =
    (l.x ≡ number_at l.start l.number) × (l.bytes ≡ bytes_of l.start l.number) × (l.steps.items ≡ with_messages l.fn.steps.items l.start l.number) × (l.bytes ≤ 1000 * l.number)
