use Rattle.std.proofs.Common.{◌≡◌}
use Rattle.amqp_serve.specs.Answers.{counted_all}
use Rattle.amqp_serve.proofs.serving.hear_list.Given as goal

abbrev pub invariant-loop-named : goal.invariant-loop-named
invariant-loop-named l = record { messages : l.served.messages ≡ counted_all l.yielded l.fn.served.messages; owed : l.served.owed ≡ counted_all l.yielded l.fn.served.owed }
