use Rattle.amqp_composites.specs.declared.kind.CompositeKind.TheVariants as kind
use Rattle.amqp_termini.specs.States.{modified_fields}
use Rattle.amqp_sizes.proofs.termini.modified_size.Goals as goal

pub returns : goal.returns
returns c = c.composite_size.ensures kind.Modified (modified_fields c.args.state.now) _ c.inner-within.ensures (c.optional.ensures, (c.optional-2.ensures, (c.optional-3.ensures, tt)))
