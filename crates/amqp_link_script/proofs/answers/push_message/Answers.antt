use Rattle.std.proofs.Common.{◌∙◌, sym, ap}
use Rattle.amqp_messages.specs.Message.{seen}
use Rattle.amqp_messages.specs.Writing.{message_items}
use Rattle.amqp_script.specs.Hex.{bytes_text}
use Rattle.amqp_link_script.proofs.Fits.{text_fits, text_long}
use Rattle.amqp_link_script.proofs.answers.push_message.Goals as goal

pub returns-in-Ok : goal.returns-in-Ok
returns-in-Ok c =
    let fits = rw c.in-Ok.is at c.encode_message.ensures.bytes in
    rw (text_fits (message_items (seen c.args.message.now)) c.in-Ok.bytes fits ∙ ap bytes_text (sym c.as_slice.ensures)) c.push_bytes.ensures

pub returns-in-Err-Size : goal.returns-in-Err-Size
returns-in-Err-Size c =
    rw (text_long (message_items (seen c.args.message.now)) (rw c.in-Err-Size.field-0-is at c.in-Err-Size.ensures).bytes) c.push_word.ensures
