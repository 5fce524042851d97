use Rattle.std.proofs.Common.{refl, subst, sym}
use Rattle.amqp_data.specs.declared.kind.ElementKind.TheVariants as k
use Rattle.amqp_data.specs.Data.{Items, AreOfKind}
use Rattle.amqp_fields.proofs.Symbols.{symbols_of_kind}
use Rattle.amqp_fields.proofs.field.array_of.Goals as goal

pub returns-in-None : goal.returns-in-None
returns-in-None c = c.in-None.ensures.none refl (subst (λ (vs : Items). AreOfKind k.Symbol vs) (sym c.in_ok-values.ensures) (symbols_of_kind c.args.symbols.now))
