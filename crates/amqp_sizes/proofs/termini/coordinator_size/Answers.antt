use Rattle.amqp_composites.specs.declared.kind.CompositeKind.TheVariants as kind
use Rattle.amqp_termini.specs.Target.{coordinator_fields}
use Rattle.amqp_sizes.proofs.termini.coordinator_size.Goals as goal

pub returns : goal.returns
returns c = c.composite_size.ensures kind.Coordinator (coordinator_fields c.args.coordinator.now) _ c.inner.ensures (c.optional.ensures, tt)
