use Rattle.std.proofs.Common.{◌≡◌, ◌++◌}
use Rattle.amqp_end.specs.Answers.{answers_to, answers_to_others}
use Rattle.amqp_end.proofs.running.add_own.Given as goal

abbrev pub invariant-loop-answer : goal.invariant-loop-answer
invariant-loop-answer l = record {
  told : l.replies.items ≡ l.fn.replies.items ++ answers_to l.fn.name l.yielded;
  others : l.others.items ≡ answers_to_others l.fn.name l.yielded;
}
