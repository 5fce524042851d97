use Rattle.std.proofs.Common.{◌≡◌, drop}
use Rattle.amqp_value.specs.Canonical.{are_short}
use Rattle.amqp_fields.specs.Fields.{symbol_items}
use Rattle.amqp_sizes.proofs.scalars.are_short.Given as goal

abbrev pub invariant-loop-symbol : goal.invariant-loop-symbol
invariant-loop-symbol l = are_short (symbol_items l.symbols) ≡ are_short (symbol_items (drop l.symbol-index l.symbols))
