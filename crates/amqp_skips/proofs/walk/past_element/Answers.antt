use Rattle.std.proofs.Common.{List, ℕ, Option, subst, sym}
use Rattle.amqp_faults.specs.Sees.{Sees}
use Rattle.amqp_skips.proofs.Walked.{element_deep, element_is}
use Rattle.amqp_skips.proofs.walk.past_element.Goals as goal

pub returns-then-levels-eq0-clause-past : goal.returns-then-levels-eq0-clause-past
returns-then-levels-eq0-clause-past c = element_deep c.args.levels c.args.layout c.args.bytes.now c.if-levels-eq0.true

pub returns-else-levels-eq0-clause-past : goal.returns-else-levels-eq0-clause-past
returns-else-levels-eq0-clause-past c =
    subst (λ (z : Option (List ℕ)). Sees (λ x. x.now) c.past_scalar.result z) (sym (element_is c.args.levels c.args.layout c.args.bytes.now c.if-levels-eq0.false)) c.past_scalar.ensures.past
