use Rattle.std.proofs.Common.{[]}
use Rattle.std.proofs.lemmas.Result.{err_from_is_err_and}
use Rattle.amqp_sasl_bodies.specs.SaslBody.{of_sasl_body}
use Rattle.amqp_data.specs.Data.{item, no_items}
use Rattle.amqp_sasl_bodies.specs.SaslBytes.{SpellsSasl}
use Rattle.amqp_readback.proofs.Bodies.{body_back, body_unwritten}
use Rattle.amqp_readback.proofs.body.sasl_read_back.Goals as goal

pub returns-in_err-bytes : goal.returns-in_err-bytes
returns-in_err-bytes c =
    let p = err_from_is_err_and c.from_residual.result c.from_residual.ensures.1 in
    rw (p.1, p.2) (body_unwritten c.in_err-bytes.field-0.0 [] c.args.body.now (item (of_sasl_body c.args.body.now) no_items) c.in_err-bytes.ensures.bytes)

pub returns : goal.returns
returns c =
    let body = c.args.body.now in
    body_back c.decode_sasl.result SpellsSasl c.as_slice.result.now c.in_ok-bytes.bytes [] body (item (of_sasl_body body) no_items) c.as_slice.ensures c.in_ok-bytes.ensures.bytes c.in_ok-bytes.ensures.spelled c.decode_sasl.ensures
