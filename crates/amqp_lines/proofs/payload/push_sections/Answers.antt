use Rattle.amqp_lines.proofs.Payloads.{adds_message, adds_size}
use Rattle.amqp_lines.proofs.payload.push_sections.Goals as goal

pub returns-in_ok-told-in-Ok : goal.returns-in_ok-told-in-Ok
returns-in_ok-told-in-Ok c = adds_message c.args.transfer.now c.args.payload.now _ _ _ c.requires.whole c.in-Ok.ensures.0 c.in_ok-told-in-Ok.ensures

pub returns-in_ok-push_size-in-Err-Decode : goal.returns-in_ok-push_size-in-Err-Decode
returns-in_ok-push_size-in-Err-Decode c =
    let none = rw c.in-Err-Decode.field-0-is at c.in-Err-Decode.ensures in
    adds_size c.args.transfer.now c.args.payload.now _ _ c.requires.some (λ whole m spells. none m spells) c.in_ok-push_size-in-Err-Decode.ensures
