use Rattle.amqp_composites.specs.declared.kind.CompositeKind.TheVariants as kind
use Rattle.amqp_termini.specs.States.{received_fields}
use Rattle.amqp_sizes.proofs.termini.received_size.Goals as goal

pub returns : goal.returns
returns c = c.composite_size.ensures kind.Received (received_fields c.args.state.now) _ c.inner-within.ensures (c.required.ensures, (c.required-2.ensures, tt))
