use Rattle.std.proofs.Common.{◌≡◌, take}
use Rattle.amqp_data.specs.View.{items_view}
use Rattle.amqp_fields.specs.Fields.{symbol_items}
use Rattle.amqp_fields.proofs.field.values_of.Given as goal

abbrev pub invariant-loop-symbol : goal.invariant-loop-symbol
invariant-loop-symbol l = items_view l.values.items ≡ symbol_items (take l.symbol-index l.symbols)
