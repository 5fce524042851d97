use Rattle.std.proofs.Common.{refl, arith}
use Rattle.amqp_data.specs.View.{items_view}
use Rattle.amqp_value.proofs.ElementsRead.{never_mixed}
use Rattle.amqp_value.proofs.reading.compounds.read_elements_in.Goals as goal

pub unreachable-requires : goal.unreachable-requires
unreachable-requires c =
    c.in-None.ensures.none refl (never_mixed c.args.width c.args.depth c.in_ok-count.count c.in_ok-code.code c.in_ok-code.kind (items_view c.in_ok-values.values.items) c.args.content.now c.in_ok-count.rest.now c.in_ok-code.rest.now c.in_ok-values.after_elements.now (λ i. omega (arith, c.type_inv.content i)) c.in_ok-count.ensures c.in_ok-code.ensures c.in_ok-values.ensures)
