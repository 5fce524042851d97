use Rattle.std.proofs.Common.{◌∙◌, sym, subst}
use Rattle.amqp_calls.specs.declared.call.Call.{Call}
use Rattle.amqp_serve.specs.Ran.{Answered}
use Rattle.amqp_serve.proofs.Runs.{settled_by, settled_on}
use Rattle.amqp_serve.proofs.connecting.send_and_settle.Goals as goal

pub returns-then-is_outcome-clause-settled : goal.returns-then-is_outcome-clause-settled
returns-then-is_outcome-clause-settled g c =
    let link = g.L.Link in
    let old = c.args.end.now in
    let behind = c.ask.new.end in
    let name = c.in_ok-sent.sent in
    let reply = c.in_ok-reply.reply in
    let answered = subst (λ (call : Call). Answered link c.send_one.new.end behind c.give.result call reply) c.outcome.ensures c.in_ok-reply.ensures.answered in
    let settled = settled_by link old c.send_one.new.end behind name c.give.result c.args.link c.args.message.now reply c.in_ok-sent.ensures.sent answered (sym c.is_outcome.ensures ∙ c.if-is_outcome.true) in
    settled_on link old behind c.forget.new.end c.args.link c.args.message.now reply settled c.forget.ensures
