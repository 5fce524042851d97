use Rattle.std.proofs.lemmas.Result.{err_from_is_err_and}
use Rattle.amqp_fields.specs.Fields.{of_map}
use Rattle.amqp_messages.specs.declared.kind.SectionKind.TheVariants as kind
use Rattle.amqp_messages.specs.Content.{of_properties}
use Rattle.amqp_messages.specs.Writing.{present}
use Rattle.amqp_messages.proofs.Added.{follow, stop}
use Rattle.amqp_messages.proofs.writing.put_about.Goals as goal

pub returns-in_err-put_optional-clause-adds : goal.returns-in_err-put_optional-clause-adds
returns-in_err-put_optional-clause-adds c =
    let p = err_from_is_err_and c.from_residual.result c.from_residual.ensures.1 in
    let m = c.args.message.now in
    rw (p.1, p.2) (stop c.in_err-put_optional.field-0.0 c.args.out.now c.put_optional.new.out c.put_optional.new.out (present kind.Properties of_properties m.properties) (present kind.ApplicationProperties of_map m.application_properties) c.in_err-put_optional.ensures.adds)

pub returns-clause-adds : goal.returns-clause-adds
returns-clause-adds c =
    let m = c.args.message.now in
    follow c.put_optional-2.result c.args.out.now c.put_optional.new.out c.put_optional-2.new.out (present kind.Properties of_properties m.properties) (present kind.ApplicationProperties of_map m.application_properties) c.in_ok-put_optional.ensures.adds c.put_optional-2.ensures.adds
