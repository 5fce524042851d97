use Rattle.std.proofs.lemmas.Result.{err_from_is_err_and}
use Rattle.amqp_sasl_bodies.proofs.SaslRead.{unread, more_behind, said_sasl}
use Rattle.amqp_sasl_bodies.proofs.sasl_bytes.decode_sasl.Goals as goal

pub returns-in_err-value : goal.returns-in_err-value
returns-in_err-value c =
    let p = err_from_is_err_and c.from_residual.result c.from_residual.ensures.1 in
    rw (p.1, p.2) (unread c.in_err-value.field-0.0 c.args.input.now c.in_err-value.ensures)

pub returns-then-used-input : goal.returns-then-used-input
returns-then-used-input c = more_behind c.args.input.now (c.in_ok-value.value, c.in_ok-value.used) c.in_ok-value.ensures c.if-used-input.true

pub returns : goal.returns
returns c = said_sasl c.from_value.result c.args.input.now (c.in_ok-value.value, c.in_ok-value.used) c.in_ok-value.ensures c.if-used-input.false c.from_value.ensures
