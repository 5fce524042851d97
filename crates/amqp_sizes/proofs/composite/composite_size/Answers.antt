use Rattle.std.proofs.Common.{arith}
use Rattle.amqp_fields.specs.Fields.{trimmed}
use Rattle.amqp_sizes.proofs.Listed.{composite_is, composite_shallow, composite_long}
use Rattle.amqp_sizes.proofs.composite.composite_size.Goals as goal

pub returns-then-levels-lt2 : goal.returns-then-levels-lt2
returns-then-levels-lt2 c = λ kind fs within e h. composite_shallow kind fs c.args.levels c.if-levels-lt2.true

pub returns-in_err-fields : goal.returns-in_err-fields
returns-in_err-fields c = rw c.from_residual.ensures (λ kind fs within e h. composite_long kind fs within c.args.levels e (c.in_err-fields.ensures.fields within fs h))

pub returns : goal.returns
returns c = λ kind fs within e h. composite_is kind fs c.list_size.result within c.args.levels e (omega (arith, c.if-levels-lt2.false)) (c.list_size.ensures.value within (trimmed fs) (c.in_ok-fields.ensures.fields within fs h))
