use Rattle.std.proofs.Common.{sym, arith}
use Rattle.std.proofs.lemmas.Bool.Decides.{nat_tests}
use Rattle.amqp_sizes.proofs.Symbols.{filled_depth}
use Rattle.amqp_sizes.proofs.scalars.array_depth.Goals as goal

pub returns-else-is_empty : goal.returns-else-is_empty
returns-else-is_empty c = let h = c.if-is_empty.ensures in sym (filled_depth c.args.symbols.now (λ e. grind (arith, nat_tests)))
