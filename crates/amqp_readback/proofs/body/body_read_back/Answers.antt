use Rattle.std.proofs.lemmas.Result.{err_from_is_err_and}
use Rattle.amqp_frames.specs.Body.{SpellsBody, body_values, body_payload, read_again_body}
use Rattle.amqp_readback.proofs.Bodies.{body_back, body_unwritten}
use Rattle.amqp_readback.proofs.body.body_read_back.Goals as goal

pub returns-in_err-bytes : goal.returns-in_err-bytes
returns-in_err-bytes c =
    let p = err_from_is_err_and c.from_residual.result c.from_residual.ensures.1 in
    rw (p.1, p.2) (body_unwritten c.in_err-bytes.field-0.0 (body_payload c.args.body.now) (read_again_body c.args.body.now) (body_values c.args.body.now) c.in_err-bytes.ensures.bytes)

pub returns : goal.returns
returns c =
    let body = c.args.body.now in
    body_back c.decode_body.result SpellsBody c.as_slice.result.now c.in_ok-bytes.bytes (body_payload body) (read_again_body body) (body_values body) c.as_slice.ensures c.in_ok-bytes.ensures.bytes c.in_ok-bytes.ensures.spelled c.decode_body.ensures
