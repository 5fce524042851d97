use Rattle.std.proofs.Common.{Bool, subst, arith}
use Rattle.amqp_value.specs.Canonical.{narrow_if}
use Rattle.amqp_fields.specs.Fields.{symbol_items}
use Rattle.amqp_sizes.specs.Texts.{HaveElementsSize}
use Rattle.amqp_sizes.proofs.Symbols.{symbols_are, symbols_refused}
use Rattle.amqp_sizes.proofs.scalars.symbols_size.Goals as goal

pub returns-in_err-elements : goal.returns-in_err-elements
returns-in_err-elements c = rw c.from_residual.ensures (symbols_refused c.args.levels c.args.symbols.now (rw c.are_short.ensures at c.in_err-elements.ensures))

pub returns : goal.returns
returns c = symbols_are c.compound_size.result c.in_ok-elements.elements c.args.levels c.args.symbols.now (omega (arith, c.array_depth.ensures, c.if-levels-array_depth.false))
    (subst (λ (z : Bool). HaveElementsSize c.in_ok-elements.elements (narrow_if z) (symbol_items c.args.symbols.now)) c.are_short.ensures c.in_ok-elements.ensures) c.compound_size.ensures
