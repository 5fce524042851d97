use Rattle.amqp_composites.specs.declared.kind.CompositeKind.TheVariants as kind
use Rattle.amqp_termini.specs.States.{rejected_fields}
use Rattle.amqp_sizes.proofs.termini.rejected_size.Goals as goal

pub returns : goal.returns
returns c = c.composite_size.ensures kind.Rejected (rejected_fields c.args.state.now) _ c.inner.ensures (c.optional.ensures, tt)
