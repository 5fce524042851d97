use Rattle.std.proofs.Common.{refl}
use Rattle.amqp_composites.specs.declared.kind.CompositeKind.TheVariants as kind
use Rattle.amqp_performatives.specs.Close.{close_fields}
use Rattle.amqp_sizes.proofs.performatives.close_size.Goals as goal

pub returns : goal.returns
returns c = c.composite_size.ensures kind.Close (close_fields c.args.body.now) _ refl (c.optional.ensures, tt)
