use Rattle.amqp_serve.specs.Ran.{Waits}
use Rattle.amqp_serve.proofs.asking.ask.Given as goal

abbrev pub invariant-loop : goal.invariant-loop
invariant-loop g l = Waits g.L.Link l.fn.end l.end l.name l.fn.call l.answer
