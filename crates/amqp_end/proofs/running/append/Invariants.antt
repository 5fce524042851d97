use Rattle.std.proofs.Common.{◌≡◌, ◌++◌}
use Rattle.amqp_end.proofs.running.append.Given as goal

abbrev pub invariant-loop-answer : goal.invariant-loop-answer
invariant-loop-answer l = l.replies.items ≡ l.fn.replies.items ++ l.yielded
