use Rattle.amqp_fields.proofs.Symbols.{next_made}
use Rattle.amqp_fields.proofs.field.values_of.Goals as goal

pub loop-symbol-preserved : goal.loop-symbol-preserved
loop-symbol-preserved c =
    rw c.in_ok-push.ensures.items (next_made c.args.symbols.now c.loop-symbol.symbol-index c.symbol-item.result c.loop-symbol.values.items _ c.loop-symbol-test.true c.symbol-item.is c.loop-symbol.invariant c.in_ok-copy.ensures)
