use Rattle.std.proofs.Common.{◌≡◌}
use Rattle.amqp_serve.specs.Answers.{last_answer}
use Rattle.amqp_serve.proofs.answers.answer_to.Given as goal

abbrev pub invariant-loop-named : goal.invariant-loop-named
invariant-loop-named l = l.answer ≡ last_answer l.name l.yielded
