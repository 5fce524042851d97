use Rattle.std.proofs.Common.{◌≡◌}
use Rattle.amqp_serve.specs.Ran.{Heard}
use Rattle.amqp_serve.proofs.serving.serve_all.Given as goal

abbrev pub invariant-loop : goal.invariant-loop
invariant-loop g l = Heard g.L.Link l.fn.end l.end l.initial.served l.served
