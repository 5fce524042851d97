use Rattle.std.proofs.Common.{◌≡◌, length}
use Rattle.amqp_link_script.specs.Keys.{has_only as only_test}
use Rattle.amqp_script.specs.Words.{words_left}
use Rattle.amqp_link_script.proofs.keys.has_only.Given as goal

abbrev pub invariant-arguments : goal.invariant-arguments
invariant-arguments l = only_test l.keys (words_left l.later) ≡ only_test l.keys (words_left l.fn.arguments)

abbrev pub decreases-arguments : goal.decreases-arguments
decreases-arguments l = length (words_left l.later)
