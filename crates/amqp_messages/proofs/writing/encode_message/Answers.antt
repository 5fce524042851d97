use Rattle.std.proofs.lemmas.Result.{err_from_is_err_and}
use Rattle.amqp_messages.specs.Message.{seen}
use Rattle.amqp_messages.specs.Writing.{message_items}
use Rattle.amqp_messages.proofs.Added.{encoded, not_encoded, whole_spelled}
use Rattle.amqp_messages.proofs.Again.{message_again}
use Rattle.amqp_messages.proofs.writing.encode_message.Goals as goal

pub returns-in_err-put_message-clause-bytes : goal.returns-in_err-put_message-clause-bytes
returns-in_err-put_message-clause-bytes c =
    let p = err_from_is_err_and c.from_residual-in_err-put_message.result c.from_residual-in_err-put_message.ensures.1 in
    rw (p.1, p.2) (not_encoded c.in_err-put_message.field-0.0 c.in_ok-out.out c.put_message.new.out (message_items (seen c.args.message.now)) c.in_err-put_message.ensures.adds)

pub returns-clause-bytes : goal.returns-clause-bytes
returns-clause-bytes c = encoded c.in_ok-out.out c.put_message.new.out (message_items (seen c.args.message.now)) c.in_ok-out.ensures c.in_ok-put_message.ensures.adds

pub returns-clause-spelled : goal.returns-clause-spelled
returns-clause-spelled c =
    let m = seen c.args.message.now in
    whole_spelled c.in_ok-out.out c.put_message.new.out m c.in_ok-out.ensures c.in_ok-put_message.ensures.adds (message_again m c.in_ok-put_message.ensures.valid)
