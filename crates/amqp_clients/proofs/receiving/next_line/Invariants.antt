use Rattle.amqp_serve.specs.Ran.{RanOn}
use Rattle.amqp_clients.proofs.receiving.next_line.Given as goal

abbrev pub invariant-loop : goal.invariant-loop
invariant-loop g l = RanOn g.L.Link l.fn.end l.end
