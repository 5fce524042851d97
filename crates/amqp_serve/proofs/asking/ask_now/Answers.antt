use Rattle.std.proofs.Common.{rules}
use Rattle.amqp_end.specs.Asks.{MayAsk}
use Rattle.amqp_serve.proofs.Runs.{asked_now}
use Rattle.amqp_serve.proofs.asking.ask_now.Goals as goal

pub returns-in-Ok-clause-asked : goal.returns-in-Ok-clause-asked
returns-in-Ok-clause-asked g c =
    let may : MayAsk c.args.end.now c.args.name c.args.call = search rules in
    asked_now g.L.Link c.args.end.now c.call.new.self c.take_replies.new.end c.args.name c.now.result c.args.call c.take_replies.result.items c.answer_to.result
    may c.in-Ok.ensures.ok c.take_replies.ensures.took c.take_replies.ensures.replies c.answer_to.ensures
