use Rattle.amqp_serve.proofs.Runs.{silent_on}
use Rattle.amqp_serve.proofs.asking.go_on.Goals as goal

pub returns-in-Ok-clause-ran : goal.returns-in-Ok-clause-ran
returns-in-Ok-clause-ran g c = silent_on g.L.Link c.args.end.now c.wait_for.new.end c.poll.new.self c.now.result c.wait_for.ensures c.in-Ok.ensures.ok
