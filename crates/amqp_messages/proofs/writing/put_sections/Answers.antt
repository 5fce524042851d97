use Rattle.std.proofs.Common.{List, subst}
use Rattle.std.specs.Prelude.{Ok, Err}
use Rattle.std.proofs.lemmas.Result.{err_from_is_err_and}
use Rattle.amqp_data.specs.Data.{no_items, item}
use Rattle.amqp_described.specs.Writing.{numbered}
use Rattle.amqp_messages.specs.Kind.{number_of}
use Rattle.amqp_messages.specs.Writing.{each, AddsAll}
use Rattle.amqp_messages.proofs.Added.{one_section, follow, stop}
use Rattle.amqp_messages.proofs.writing.put_sections.Goals as goal

pub returns-in_err-write : goal.returns-in_err-write
returns-in_err-write g c =
    let p = err_from_is_err_and c.from_residual.result c.from_residual.ensures.1 in
    let front = item (numbered (number_of c.args.kind) (g.T.Content.writes c.args.sections.now.first)) no_items in
    let rest = each c.args.kind g.T.Content.writes c.args.sections.now.rest.items in
    rw (p.1, p.2)
    (stop c.in_err-write.field-0.0 c.args.out.now c.write.new.out c.write.new.out front rest (one_section c.args.kind g.T.Content.writes c.args.sections.now.first c.number.result (Err c.in_err-write.field-0.0) c.args.out.now c.write.new.out c.number.ensures c.in_err-write.ensures.adds))

pub returns : goal.returns
returns g c =
    let front = item (numbered (number_of c.args.kind) (g.T.Content.writes c.args.sections.now.first)) no_items in
    let rest = each c.args.kind g.T.Content.writes c.args.sections.now.rest.items in
    follow c.put_each.result c.args.out.now c.write.new.out c.put_each.new.out front rest
    (one_section c.args.kind g.T.Content.writes c.args.sections.now.first c.number.result (Ok tt) c.args.out.now c.write.new.out c.number.ensures c.in_ok-write.ensures.adds)
    (subst (λ (z : List g.row.T.Denot). AddsAll c.put_each.result c.write.new.out c.put_each.new.out (each c.args.kind g.T.Content.writes z)) c.deref.ensures.value c.put_each.ensures)
