use Rattle.std.proofs.lemmas.Result.{err_from_is_err_and}
use Rattle.amqp_composites.specs.amqp_fields.Left.{left}
use Rattle.amqp_performatives.proofs.Parts.{attach_stops}
use Rattle.amqp_performatives.proofs.attach.read_attach.Goals as goal

pub returns-in_err-end : goal.returns-in_err-end
returns-in_err-end c =
    let p = err_from_is_err_and c.from_residual-in_err-end.result c.from_residual-in_err-end.ensures.1 in
    rw (p.1, p.2) (attach_stops c.in_err-end.field-0.0 (left c.args.fields) (left c.read_link.new.fields) (left c.read_ends.new.fields) (left c.read_limits.new.fields) c.in_ok-link.link c.in_ok-ends.ends c.in_ok-limits.limits
    c.in_ok-link.ensures.value c.in_ok-link.ensures.rest c.in_ok-ends.ensures.value c.in_ok-ends.ensures.rest c.in_ok-limits.ensures.value c.in_ok-limits.ensures.rest c.in_err-end.ensures)
