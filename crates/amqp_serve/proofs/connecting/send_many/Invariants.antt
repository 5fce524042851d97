use Rattle.amqp_serve.specs.Ran.{SentAll}
use Rattle.amqp_serve.proofs.connecting.send_many.Given as goal

abbrev pub invariant-loop-number : goal.invariant-loop-number
invariant-loop-number g l = SentAll g.L.Link l.fn.end l.link l.message l._number l.end
