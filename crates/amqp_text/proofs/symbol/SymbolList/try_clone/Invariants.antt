use Rattle.std.proofs.Common.{◌≡◌, take}
use Rattle.amqp_text.proofs.symbol.SymbolList.try_clone.Given as goal

abbrev pub invariant-loop-symbol : goal.invariant-loop-symbol
invariant-loop-symbol l = l.symbols.items ≡ take l.symbol-index l.symbol-items
