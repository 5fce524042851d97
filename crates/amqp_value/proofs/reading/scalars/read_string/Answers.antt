use Rattle.std.proofs.Common.{refl}
use Rattle.std.proofs.lemmas.Result.{err_from_is_err_and}
use Rattle.std.proofs.lemmas.Str.{is_utf8-from_IsUtf8}
use Rattle.amqp_value.specs.Reading.{text_at}
use Rattle.amqp_value.proofs.Texts.{text_fails}
use Rattle.amqp_value.proofs.reading.scalars.read_string.Goals as goal

pub returns-in_err-text : goal.returns-in_err-text
returns-in_err-text c =
    let p = err_from_is_err_and c.from_residual-in_err-text.result c.from_residual-in_err-text.ensures.1 in
    rw (p.1, p.2) (text_fails c.in_err-text.field-0.0 c.args.width c.args.bytes.now c.in_ok-octets.octets.now c.in_ok-octets.rest.now c.in_ok-octets.ensures c.in_err-text.ensures.refused)

pub returns : goal.returns
unfolding text_at
returns c = rw (c.in_ok-octets.ensures, is_utf8-from_IsUtf8 c.in_ok-octets.octets.now c.in_ok-text.ensures.utf8, c.in_ok-text.ensures.ok) refl
