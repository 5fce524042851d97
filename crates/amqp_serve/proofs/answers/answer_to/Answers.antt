use Rattle.std.proofs.Common.{refl}
use Rattle.amqp_serve.specs.Answers.{last_answer}
use Rattle.amqp_serve.proofs.Runs.{answer_found, answer_kept}
use Rattle.amqp_serve.proofs.answers.answer_to.Goals as goal

pub loop-named-init : goal.loop-named-init
unfolding last_answer
loop-named-init c = refl

pub loop-named-preserved-then-other-name : goal.loop-named-preserved-then-other-name
loop-named-preserved-then-other-name c = answer_found c.args.name c.loop-named.yielded c.in-Some.named c.if-other-name.true

pub loop-named-preserved : goal.loop-named-preserved
loop-named-preserved c = answer_kept c.args.name c.loop-named.yielded c.in-Some.named c.loop-named.answer c.if-other-name.false c.loop-named.invariant
