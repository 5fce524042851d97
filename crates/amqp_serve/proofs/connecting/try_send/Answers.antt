use Rattle.std.proofs.Common.{◌≡◌, ◌∙◌, Option, Some, sym, subst}
use Rattle.std.specs.Prelude.{IfSome}
use Rattle.amqp_calls.specs.declared.reply.Reply.{Reply}
use Rattle.amqp_serve.proofs.Runs.{sent_now}
use Rattle.amqp_serve.proofs.connecting.try_send.Goals as goal

pub returns-then-is_sent-clause-sent : goal.returns-then-is_sent-clause-sent
returns-then-is_sent-clause-sent g c =
    let is = subst (λ (x : Option Reply). IfSome x (λ reply. c.in_ok-answer.answer ≡ Some reply)) c.in-Some.is c.in_ok-reply.ensures.granted in
    sent_now g.L.Link c.args.end.now c.ask_now.new.end c.args.name c.args.call c.in_ok-answer.answer c.in-Some.reply c.in_ok-answer.ensures.asked is
    (sym c.is_sent.ensures ∙ c.if-is_sent.true)
