use Rattle.std.proofs.Common.{drop}
use Rattle.amqp_value.specs.Canonical.{narrow_if}
use Rattle.amqp_sizes.proofs.Symbols.{SizingSymbols}
use Rattle.amqp_sizes.proofs.scalars.elements_size.Given as goal

abbrev pub invariant-loop-symbol : goal.invariant-loop-symbol
invariant-loop-symbol l = SizingSymbols (narrow_if l.is_short) l.total (drop l.symbol-index l.symbols) l.symbols
