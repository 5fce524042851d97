use Rattle.std.proofs.Common.{[], refl}
use Rattle.amqp_composites.specs.declared.kind.CompositeKind.TheVariants as kind
use Rattle.amqp_sizes.proofs.termini.delivery_state_size.Goals as goal

pub returns-in-Accepted : goal.returns-in-Accepted
returns-in-Accepted c = rw c.in-Accepted.is (c.composite_size.ensures kind.Accepted [] _ refl tt)

pub returns-in-Released : goal.returns-in-Released
returns-in-Released c = rw c.in-Released.is (c.composite_size-in-Released.ensures kind.Released [] _ refl tt)
