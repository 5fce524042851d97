use Rattle.std.proofs.Common.{refl}
use Rattle.amqp_composites.specs.declared.kind.CompositeKind.TheVariants as kind
use Rattle.amqp_performatives.specs.Open.{open_fields}
use Rattle.amqp_sizes.proofs.performatives.open_size.Goals as goal

pub returns : goal.returns
returns c = c.composite_size.ensures kind.Open (open_fields c.args.body.now) _ refl (c.required.ensures, (c.optional.ensures, (c.unless.ensures _ c.is.ensures, (c.unless-2.ensures _ c.is-2.ensures, (c.optional-2.ensures, (c.optional-3.ensures, (c.optional-4.ensures, (c.optional-5.ensures, (c.optional-6.ensures, (c.optional-7.ensures, tt))))))))))
