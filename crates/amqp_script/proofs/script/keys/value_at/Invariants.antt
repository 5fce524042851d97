use Rattle.std.proofs.Common.{◌≡◌}
use Rattle.amqp_script.specs.Keys.{value_at as value_of}
use Rattle.amqp_script.specs.Words.{words_left}
use Rattle.amqp_script.proofs.script.keys.value_at.Given as goal

abbrev pub invariant-loop-argument : goal.invariant-loop-argument
invariant-loop-argument l = value_of l.name (words_left l.argument-iterator) ≡ value_of l.name (words_left l.fn.arguments)
