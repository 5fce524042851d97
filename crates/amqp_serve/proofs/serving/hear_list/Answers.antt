use Rattle.std.proofs.Common.{refl}
use Rattle.amqp_serve.specs.Answers.{counted_all}
use Rattle.amqp_serve.proofs.serving.hear_list.Goals as goal

pub loop-named-init : goal.loop-named-init
unfolding counted_all
loop-named-init c = record { messages = refl; owed = refl }
