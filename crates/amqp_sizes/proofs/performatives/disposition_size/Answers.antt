use Rattle.std.proofs.Common.{refl}
use Rattle.amqp_composites.specs.declared.kind.CompositeKind.TheVariants as kind
use Rattle.amqp_performatives.specs.Disposition.{disposition_fields}
use Rattle.amqp_sizes.proofs.performatives.disposition_size.Goals as goal

pub returns : goal.returns
returns c = c.composite_size.ensures kind.Disposition (disposition_fields c.args.body.now) _ refl (c.required.ensures, (c.required-2.ensures, (c.optional.ensures, (c.unless.ensures _ c.is.ensures, (c.optional-2.ensures, (c.unless-2.ensures _ c.is-2.ensures, tt))))))
