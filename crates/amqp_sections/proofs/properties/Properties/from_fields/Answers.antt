use Rattle.std.proofs.lemmas.Result.{err_from_is_err_and}
use Rattle.amqp_fields.specs.Left.{left}
use Rattle.amqp_sections.proofs.Parts.{properties_stop}
use Rattle.amqp_sections.proofs.properties.Properties.from_fields.Goals as goal

pub returns-in_err-end : goal.returns-in_err-end
returns-in_err-end c =
    let p = err_from_is_err_and c.from_residual-in_err-end.result c.from_residual-in_err-end.ensures.1 in
    rw (p.1, p.2) (properties_stop c.in_err-end.field-0.0 (left c.args.fields) (left c.read_address.new.fields) (left c.read_content.new.fields) c.in_ok-address.address c.in_ok-content.content
    c.in_ok-address.ensures.value c.in_ok-address.ensures.rest c.in_ok-content.ensures.value c.in_ok-content.ensures.rest c.in_err-end.ensures)
