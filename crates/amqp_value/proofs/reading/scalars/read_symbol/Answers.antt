use Rattle.std.proofs.Common.{refl}
use Rattle.std.proofs.lemmas.Result.{err_from_is_err_and}
use Rattle.amqp_value.specs.Reading.{symbol_at}
use Rattle.amqp_value.proofs.Ascii.{is_ascii-from_IsAscii}
use Rattle.amqp_value.proofs.Texts.{symbol_fails}
use Rattle.amqp_value.proofs.reading.scalars.read_symbol.Goals as goal

pub returns-in_err-symbol : goal.returns-in_err-symbol
returns-in_err-symbol c =
    let p = err_from_is_err_and c.from_residual-in_err-symbol.result c.from_residual-in_err-symbol.ensures.1 in
    rw (p.1, p.2) (symbol_fails c.in_err-symbol.field-0.0 c.args.width c.args.bytes.now c.in_ok-octets.octets.now c.in_ok-octets.rest.now c.in_ok-octets.ensures c.in_err-symbol.ensures.refused)

pub returns : goal.returns
unfolding symbol_at
returns c = rw (c.in_ok-octets.ensures, is_ascii-from_IsAscii c.in_ok-octets.octets.now c.in_ok-symbol.ensures.ascii, c.in_ok-symbol.ensures.ok) refl
