use Rattle.std.proofs.Common.{refl}
use Rattle.amqp_composites.specs.declared.kind.CompositeKind.TheVariants as kind
use Rattle.amqp_performatives.specs.Detach.{detach_fields}
use Rattle.amqp_sizes.proofs.performatives.detach_size.Goals as goal

pub returns : goal.returns
returns c = c.composite_size.ensures kind.Detach (detach_fields c.args.body.now) _ refl (c.required.ensures, (c.unless.ensures _ c.is.ensures, (c.optional.ensures, tt)))
