use Rattle.std.proofs.Common.{refl, ap, ◌∙◌}
use Rattle.amqp_end.proofs.Goes.{on_ok, on_looked}
use Rattle.amqp_links.specs.State.{State as Links, seen as linked}
use Rattle.amqp_end.proofs.Handed.{looked_output}
use Rattle.amqp_end.proofs.end.End.look_at_links.Goals as goal

pub returns-clause-goes : goal.returns-clause-goes
returns-clause-goes g c = on_ok c.look.result (λ h at. on_looked g.L.Link at c.args.self.now _ refl refl h refl refl refl) c.look.ensures

pub returns-clause-between : goal.returns-clause-between
returns-clause-between g c = on_ok c.look.result (λ h. record { incoming = refl; output = ap (λ (z : Links). z.output) h ∙ looked_output (linked c.args.self.now.links) }) c.look.ensures
