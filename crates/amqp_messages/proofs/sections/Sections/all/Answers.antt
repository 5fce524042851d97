use Rattle.std.proofs.Common.{Vec, Global}
use Rattle.std.proofs.lemmas.Result.{err_from_is_err_and}
use Rattle.amqp_data.specs.View.{view}
use Rattle.amqp_messages.specs.Sections.{left, sections}
use Rattle.amqp_messages.proofs.Taken.{goes_on, fails, is_done}
use Rattle.amqp_messages.proofs.sections.Sections.all.Goals as goal

pub returns-in_err-from_section : goal.returns-in_err-from_section
returns-in_err-from_section g c =
    let p = err_from_is_err_and c.from_residual.result c.from_residual.ensures.1 in
    rw (p.1, p.2)
    (fails c.args.kind g.T.Content.reads (λ (x : Vec g.row.T.Denot Global). x.items) c.loop-content.found.items (left c.loop-content.self) (left c.take.new.self) (view c.in-Some.content) c.in_err-from_section.field-0.0 (left c.take.new.self) (sections c.args.kind g.T.Content.reads (left c.args.self.now)) c.in-Some.ensures.value c.in-Some.ensures.rest c.in_err-from_section.ensures c.loop-content.invariant)

pub loop-content-preserved : goal.loop-content-preserved
loop-content-preserved g c =
    rw c.in_ok-push.ensures.items (goes_on c.args.kind g.T.Content.reads c.loop-content.found.items (left c.loop-content.self) (left c.take.new.self) (view c.in-Some.content) c.in_ok-from_section.field-0 (sections c.args.kind g.T.Content.reads (left c.args.self.now)) c.in-Some.ensures.value c.in-Some.ensures.rest c.in_ok-from_section.ensures c.loop-content.invariant)

pub returns : goal.returns
returns g c = is_done c.args.kind g.T.Content.reads c.loop-content.found.items (left c.loop-content.self) (left c.take.new.self) (sections c.args.kind g.T.Content.reads (left c.args.self.now)) c.in_default.ensures.value c.in_default.ensures.rest c.loop-content.invariant
