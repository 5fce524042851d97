use Rattle.std.proofs.Common.{arith}
use Rattle.amqp_data.proofs.Lists.{item_of_kind, more_of_kind}
use Rattle.amqp_data.proofs.array.are_of_kind.Goals as goal

pub returns-then-not-is_of_kind : goal.returns-then-not-is_of_kind
returns-then-not-is_of_kind c =
    grind (arith, c.is_of_kind.ensures, c.if-not-is_of_kind.true, item_of_kind c.args.kind c.args.values.now c.loop-value.value-index c.value-item.result c.loop-value-test.true c.value-item.is)

pub loop-value-preserved : goal.loop-value-preserved
loop-value-preserved c =
    more_of_kind c.args.kind c.args.values.now c.loop-value.value-index c.value-item.result c.loop-value-test.true c.value-item.is c.loop-value.invariant (grind (arith, c.is_of_kind.ensures, c.if-not-is_of_kind.false))
