use Rattle.std.proofs.Common.{◌≡◌, ◌++◌, map}
use Rattle.amqp_end.specs.Answers.{of_link}
use Rattle.amqp_end.proofs.running.add_link_replies.Given as goal

abbrev pub invariant-loop-answer : goal.invariant-loop-answer
invariant-loop-answer l = l.replies.items ≡ l.fn.replies.items ++ map of_link l.yielded
