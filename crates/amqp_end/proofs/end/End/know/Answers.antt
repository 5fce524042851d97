use Rattle.std.proofs.Common.{refl, ap}
use Rattle.amqp_end.proofs.Goes.{on_known}
use Rattle.amqp_links.specs.State.{State as Links}
use Rattle.amqp_end.proofs.end.End.know.Goals as goal

pub returns-clause-goes : goal.returns-clause-goes
returns-clause-goes g c = on_known g.L.Link c.args.at c.args.self.now _ refl refl c.set_moment.ensures refl refl refl

pub returns-clause-between : goal.returns-clause-between
returns-clause-between g c = record { incoming = refl; output = ap (λ (z : Links). z.output) c.set_moment.ensures }
