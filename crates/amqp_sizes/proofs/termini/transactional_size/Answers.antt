use Rattle.amqp_composites.specs.declared.kind.CompositeKind.TheVariants as kind
use Rattle.amqp_termini.specs.Transactional.{transactional_state_fields}
use Rattle.amqp_sizes.proofs.termini.transactional_size.Goals as goal

pub returns : goal.returns
returns c = c.composite_size.ensures kind.TransactionalState (transactional_state_fields c.args.state.now) _ c.inner-within.ensures (c.required.ensures, (c.optional.ensures, tt))
