use Rattle.std.proofs.Common.{refl}
use Rattle.amqp_composites.specs.declared.kind.CompositeKind.TheVariants as kind
use Rattle.amqp_performatives.specs.Begin.{begin_fields}
use Rattle.amqp_sizes.proofs.performatives.begin_size.Goals as goal

pub returns : goal.returns
returns c = c.composite_size.ensures kind.Begin (begin_fields c.args.body.now) _ refl (c.optional.ensures, (c.required.ensures, (c.required-2.ensures, (c.required-3.ensures, (c.unless.ensures _ c.is.ensures, (c.optional-2.ensures, (c.optional-3.ensures, (c.optional-4.ensures, tt))))))))
