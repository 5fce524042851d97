use Rattle.amqp_clients.proofs.Deliveries.{gave_by}
use Rattle.amqp_clients.proofs.receiving.ask_line.Goals as goal

pub returns-clause-gave : goal.returns-clause-gave
returns-clause-gave g c =
    gave_by g.L.Link c.args.end.now c.ask_now.new.end c.args.link c.args.name c.recv.result c.in_ok-reply.field-0 c.in-Some.reply c.take_line.new.line.items c.in_ok-found.found c.recv.ensures
    c.in_ok-reply.ensures.asked c.in-Some.is c.in_ok-found.ensures.line
