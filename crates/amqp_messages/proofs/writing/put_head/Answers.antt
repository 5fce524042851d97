use Rattle.std.specs.Prelude.{Err}
use Rattle.std.proofs.lemmas.Result.{err_from_is_err_and}
use Rattle.amqp_fields.specs.Fields.{of_map}
use Rattle.amqp_messages.specs.declared.kind.SectionKind.TheVariants as kind
use Rattle.amqp_messages.specs.Content.{of_header}
use Rattle.amqp_messages.specs.Writing.{◌&◌, present}
use Rattle.amqp_messages.proofs.Added.{follow, stop}
use Rattle.amqp_messages.proofs.writing.put_head.Goals as goal

pub returns-in_err-put_optional-clause-adds : goal.returns-in_err-put_optional-clause-adds
returns-in_err-put_optional-clause-adds c =
    let p = err_from_is_err_and c.from_residual.result c.from_residual.ensures.1 in
    let m = c.args.message.now in
    let rest = present kind.DeliveryAnnotations of_map m.delivery_annotations & present kind.MessageAnnotations of_map m.message_annotations in
    rw (p.1, p.2) (stop c.in_err-put_optional.field-0.0 c.args.out.now c.put_optional.new.out c.put_optional.new.out (present kind.Header of_header m.header) rest c.in_err-put_optional.ensures.adds)

pub returns-in_err-put_optional-2-clause-adds : goal.returns-in_err-put_optional-2-clause-adds
returns-in_err-put_optional-2-clause-adds c =
    let p = err_from_is_err_and c.from_residual-in_err-put_optional-2.result c.from_residual-in_err-put_optional-2.ensures.1 in
    let m = c.args.message.now in
    let delivery = present kind.DeliveryAnnotations of_map m.delivery_annotations in
    let message = present kind.MessageAnnotations of_map m.message_annotations in
    rw (p.1, p.2)
    (follow (Err c.in_err-put_optional-2.field-0.0) c.args.out.now c.put_optional.new.out c.put_optional-2.new.out (present kind.Header of_header m.header) (delivery & message) c.in_ok-put_optional.ensures.adds
    (stop c.in_err-put_optional-2.field-0.0 c.put_optional.new.out c.put_optional-2.new.out c.put_optional-2.new.out delivery message c.in_err-put_optional-2.ensures.adds))

pub returns-clause-adds : goal.returns-clause-adds
returns-clause-adds c =
    let m = c.args.message.now in
    let delivery = present kind.DeliveryAnnotations of_map m.delivery_annotations in
    let message = present kind.MessageAnnotations of_map m.message_annotations in
    follow c.put_optional-3.result c.args.out.now c.put_optional.new.out c.put_optional-3.new.out (present kind.Header of_header m.header) (delivery & message) c.in_ok-put_optional.ensures.adds
    (follow c.put_optional-3.result c.put_optional.new.out c.put_optional-2.new.out c.put_optional-3.new.out delivery message c.in_ok-put_optional-2.ensures.adds c.put_optional-3.ensures.adds)
