use Rattle.amqp_composites.specs.declared.kind.CompositeKind.TheVariants as kind
use Rattle.amqp_termini.specs.States.{declared_fields}
use Rattle.amqp_sizes.proofs.termini.declared_size.Goals as goal

pub returns : goal.returns
returns c = c.composite_size.ensures kind.Declared (declared_fields c.args.state.now) _ c.inner.ensures (c.required.ensures, tt)
