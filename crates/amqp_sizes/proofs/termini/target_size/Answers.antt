use Rattle.amqp_composites.specs.declared.kind.CompositeKind.TheVariants as kind
use Rattle.amqp_termini.specs.Target.{target_fields}
use Rattle.amqp_sizes.proofs.termini.target_size.Goals as goal

pub returns : goal.returns
returns c = c.composite_size.ensures kind.Target (target_fields c.args.target.now) _ c.inner-within.ensures (c.optional.ensures, (c.unless.ensures _ c.is.ensures, (c.unless-2.ensures _ c.is_session_end.ensures, (c.unless-3.ensures _ c.is-2.ensures, (c.unless-4.ensures _ c.is-3.ensures, (c.optional-2.ensures, (c.optional-3.ensures, tt)))))))
