use Rattle.amqp_composites.specs.declared.kind.CompositeKind.TheVariants as kind
use Rattle.amqp_composites.specs.Error.{error_fields}
use Rattle.amqp_sizes.proofs.termini.error_size.Goals as goal

pub returns : goal.returns
returns c = c.composite_size.ensures kind.Error (error_fields c.args.error.now) _ c.inner-within.ensures (c.required.ensures, (c.optional.ensures, (c.optional-2.ensures, tt)))
