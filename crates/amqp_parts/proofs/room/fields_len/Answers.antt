use Rattle.std.proofs.Common.{Some, sym, ap, ◌∙◌}
use Rattle.amqp_parts.proofs.Measured.{says}
use Rattle.amqp_parts.proofs.room.fields_len.Goals as goal

pub returns-in-Ok : goal.returns-in-Ok
returns-in-Ok c = ap (λ n. Some n) c.len.ensures ∙ sym (rw c.in-Ok.is at (says c.put_alone.result c.transfer_list.result c.args.transfer.now c.put_alone.ensures c.transfer_list.ensures.list))

pub returns-in-Err-Decode : goal.returns-in-Err-Decode
returns-in-Err-Decode c = sym (rw (c.in-Err-Decode.is, c.in-Err-Decode.field-0-is) at (says c.put_alone.result c.transfer_list.result c.args.transfer.now c.put_alone.ensures c.transfer_list.ensures.list))

pub returns-in-Err-Size : goal.returns-in-Err-Size
returns-in-Err-Size c = sym (rw (c.in-Err-Size.is, c.in-Err-Size.field-0-is) at (says c.put_alone.result c.transfer_list.result c.args.transfer.now c.put_alone.ensures c.transfer_list.ensures.list))
