use Rattle.std.proofs.Common.{◌∙◌, sym, ap}
use Rattle.amqp_data.specs.Data.{dict}
use Rattle.amqp_script.specs.Hex.{bytes_text}
use Rattle.amqp_script.proofs.Sized.{text_written, text_long}
use Rattle.amqp_link_script.proofs.answers.push_map.Goals as goal

pub returns-in-Ok : goal.returns-in-Ok
returns-in-Ok c =
    let said = text_written (dict c.args.map.now) _ _ c.new-bytes.ensures c.in-Ok.ensures in
    rw (said ∙ ap bytes_text (sym c.as_slice.ensures)) c.push_bytes.ensures

pub returns-in-Err-Size : goal.returns-in-Err-Size
returns-in-Err-Size c =
    let refused = rw c.in-Err-Size.field-0-is at c.in-Err-Size.ensures in
    rw (text_long (dict c.args.map.now) refused.1 refused.2) c.push_word-in-Err-Size.ensures
