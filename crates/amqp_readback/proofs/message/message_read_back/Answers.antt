use Rattle.std.proofs.lemmas.Result.{err_from_is_err_and}
use Rattle.amqp_messages.specs.Message.{seen}
use Rattle.amqp_readback.proofs.Bodies.{message_back, message_unwritten}
use Rattle.amqp_readback.proofs.message.message_read_back.Goals as goal

pub returns-in_err-bytes : goal.returns-in_err-bytes
returns-in_err-bytes c =
    let p = err_from_is_err_and c.from_residual.result c.from_residual.ensures.1 in
    rw (p.1, p.2) (message_unwritten c.in_err-bytes.field-0.0 (seen c.args.message.now) c.in_err-bytes.ensures.bytes)

pub returns : goal.returns
returns c = message_back c.decode_message.result c.as_slice.result.now c.in_ok-bytes.bytes (seen c.args.message.now) c.as_slice.ensures c.in_ok-bytes.ensures.bytes c.in_ok-bytes.ensures.spelled c.decode_message.ensures
