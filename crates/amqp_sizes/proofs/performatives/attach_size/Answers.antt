use Rattle.std.proofs.Common.{ℕ, Option, refl, subst}
use Rattle.amqp_fields.specs.Fields.{maybe, of_ulong}
use Rattle.amqp_composites.specs.declared.kind.CompositeKind.TheVariants as kind
use Rattle.amqp_performatives.specs.Attach.{attach_fields}
use Rattle.amqp_sizes.specs.Taken.{IsSlot}
use Rattle.amqp_sizes.proofs.performatives.attach_size.Goals as goal

pub returns : goal.returns
returns c = c.composite_size.ensures kind.Attach (attach_fields c.args.body.now) _ refl (c.required.ensures, (c.required-2.ensures, (c.required-3.ensures, (c.unless.ensures _ c.is.ensures, (c.unless-2.ensures _ c.is-2.ensures, (c.optional.ensures, (c.optional-2.ensures, (c.optional-3.ensures, (c.unless-3.ensures _ c.is-3.ensures, (c.optional-4.ensures, (subst (λ (z : Option ℕ). IsSlot c.optional-5.result 32 (maybe of_ulong z)) c.nonzero.ensures c.optional-5.ensures, (c.optional-6.ensures, (c.optional-7.ensures, (c.optional-8.ensures, tt))))))))))))))
