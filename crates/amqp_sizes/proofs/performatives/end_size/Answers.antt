use Rattle.std.proofs.Common.{refl}
use Rattle.amqp_composites.specs.declared.kind.CompositeKind.TheVariants as kind
use Rattle.amqp_performatives.specs.End.{end_fields}
use Rattle.amqp_sizes.proofs.performatives.end_size.Goals as goal

pub returns : goal.returns
returns c = c.composite_size.ensures kind.End (end_fields c.args.body.now) _ refl (c.optional.ensures, tt)
