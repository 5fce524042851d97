use Rattle.std.proofs.Common.{None, Some, subst}
use Rattle.amqp_data.specs.View.{items_view}
use Rattle.amqp_value.specs.declared.code.ScalarCode.{ScalarCode}
use Rattle.amqp_value.specs.Writing.{MeasuresElements}
use Rattle.amqp_value.proofs.ArrayItems.{are_behind}
use Rattle.amqp_value.proofs.Sizes.{array_unmeasured, elements_are}
use Rattle.amqp_value.proofs.size.array_size.Goals as goal

pub elements_size-requires : goal.elements_size-requires
elements_size-requires c = rw c.element_code-code.ensures (are_behind c.args.kind (items_view c.args.values.now) c.requires)

pub returns-in_err-items : goal.returns-in_err-items
returns-in_err-items c =
    rw c.from_residual.ensures (array_unmeasured c.args.kind (items_view c.args.values.now) (subst (λ (e : ScalarCode). MeasuresElements e None (items_view c.args.values.now)) c.element_code-code.ensures c.in_err-items.ensures))

pub returns : goal.returns
returns c =
    elements_are c.compound_size.result c.in_ok-items.items c.args.kind c.args.values.now (subst (λ (e : ScalarCode). MeasuresElements e (Some c.in_ok-items.items) (items_view c.args.values.now)) c.element_code-code.ensures c.in_ok-items.ensures) c.compound_size.ensures
