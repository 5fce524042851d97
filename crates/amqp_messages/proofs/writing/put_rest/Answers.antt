use Rattle.std.proofs.lemmas.Result.{err_from_is_err_and}
use Rattle.amqp_fields.specs.Fields.{of_map}
use Rattle.amqp_messages.specs.declared.kind.SectionKind.TheVariants as kind
use Rattle.amqp_messages.specs.Message.{said}
use Rattle.amqp_messages.specs.Writing.{present, body_items}
use Rattle.amqp_messages.proofs.Added.{follow, stop}
use Rattle.amqp_messages.proofs.writing.put_rest.Goals as goal

pub returns-in_err-put_body-clause-adds : goal.returns-in_err-put_body-clause-adds
returns-in_err-put_body-clause-adds c =
    let p = err_from_is_err_and c.from_residual.result c.from_residual.ensures.1 in
    rw (p.1, p.2) (stop c.in_err-put_body.field-0.0 c.args.out.now c.put_body.new.out c.put_body.new.out (body_items (said c.args.message.now.body)) (present kind.Footer of_map c.args.message.now.footer) c.in_err-put_body.ensures)

pub returns-clause-adds : goal.returns-clause-adds
returns-clause-adds c =
    follow c.put_optional.result c.args.out.now c.put_body.new.out c.put_optional.new.out (body_items (said c.args.message.now.body)) (present kind.Footer of_map c.args.message.now.footer) c.in_ok-put_body.ensures c.put_optional.ensures.adds
