use Rattle.std.proofs.Common.{◌∙◌, true, false, sym}
use Rattle.amqp_clients.proofs.Deliveries.{delivered_by}
use Rattle.amqp_clients.proofs.sending.send_text.Goals as goal

pub returns-then-is_accepted-clause-delivered : goal.returns-then-is_accepted-clause-delivered
returns-then-is_accepted-clause-delivered g c =
    delivered_by g.L.Link c.args.end.now c.send_and_settle.new.end c.args.link c.as_str.result.now c.args.text.now c.in_ok-message.field-0 c.in-Some.message c.in_ok-outcome.outcome true
    c.as_str.ensures c.in_ok-message.ensures c.in-Some.is c.in_ok-outcome.ensures.settled (sym c.if-is_accepted.true ∙ c.is_accepted.ensures)

pub returns-clause-delivered : goal.returns-clause-delivered
returns-clause-delivered g c =
    delivered_by g.L.Link c.args.end.now c.send_and_settle.new.end c.args.link c.as_str.result.now c.args.text.now c.in_ok-message.field-0 c.in-Some.message c.in_ok-outcome.outcome false
    c.as_str.ensures c.in_ok-message.ensures c.in-Some.is c.in_ok-outcome.ensures.settled (sym c.if-is_accepted.false ∙ c.is_accepted.ensures)
