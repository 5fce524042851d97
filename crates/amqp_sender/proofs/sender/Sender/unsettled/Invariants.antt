use Rattle.std.proofs.Common.{◌≡◌, ◌++◌}
use Rattle.amqp_sender.specs.Sender.{seen}
use Rattle.amqp_sender.proofs.sender.Sender.unsettled.Given as goal

-- what was copied so far, and what is left
abbrev pub invariant-loop-tag : goal.invariant-loop-tag
invariant-loop-tag l = (seen l.self).unsettled ≡ l.deliveries.items ++ l.tag-iterator
