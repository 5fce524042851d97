use Rattle.std.proofs.Common.{arith}
use Rattle.amqp_value.specs.Canonical.{narrow_if}
use Rattle.amqp_sizes.proofs.Symbols.{symbols_go, symbol_long, symbols_long, symbols_end}
use Rattle.amqp_sizes.proofs.scalars.elements_size.Goals as goal

pub returns-then-length-ge-SIZE_LIMIT : goal.returns-then-length-ge-SIZE_LIMIT
returns-then-length-ge-SIZE_LIMIT c =
    symbol_long (narrow_if c.args.is_short) c.loop-symbol.total c.args.symbols.now c.loop-symbol.symbol-index c.symbol-item.result c.loop-symbol-test.true c.symbol-item.is c.loop-symbol.invariant
    (omega (arith, c.len-length.ensures, c.if-length-ge-SIZE_LIMIT.true))

pub returns-in_err-total : goal.returns-in_err-total
returns-in_err-total c =
    rw c.from_residual.ensures (symbols_long (narrow_if c.args.is_short) c.loop-symbol.total c.args.symbols.now c.loop-symbol.symbol-index c.symbol-item.result c.loop-symbol-test.true c.symbol-item.is c.loop-symbol.invariant
    (omega (arith, c.in_err-total.ensures.none, c.len-length.ensures, c.length_octets-octets.ensures)))

pub loop-symbol-preserved : goal.loop-symbol-preserved
loop-symbol-preserved c =
    symbols_go (narrow_if c.args.is_short) c.loop-symbol.total c.in_ok-total.total c.args.symbols.now c.loop-symbol.symbol-index c.symbol-item.result c.loop-symbol-test.true c.symbol-item.is c.loop-symbol.invariant
    (omega (arith, c.in_ok-total.ensures.some.0, c.len-length.ensures, c.length_octets-octets.ensures))
    (omega (arith, c.len-length.ensures, c.if-length-ge-SIZE_LIMIT.false))
    c.in_ok-total.ensures.some.1

pub returns-then-total : goal.returns-then-total
returns-then-total c =
    symbols_end (narrow_if c.args.is_short) c.loop-symbol.total c.args.symbols.now c.loop-symbol.symbol-index c.loop-symbol-test.false c.loop-symbol.invariant (omega (arith, c.if-total.true))
