use Rattle.std.proofs.Common.{refl}
use Rattle.amqp_end.proofs.Goes.{on_still, on_linked, none_handed}
use Rattle.amqp_end.specs.Deeds.{LinksHear}
use Rattle.amqp_end.proofs.Handed.{over_deed}
use Rattle.amqp_end.proofs.end.End.hear_session.Goals as goal

pub returns-in_ok-on_input-in-Some-clause-goes : goal.returns-in_ok-on_input-in-Some-clause-goes
returns-in_ok-on_input-in-Some-clause-goes g c = λ at. on_linked g.L.Link at c.in-Some.session c.in-Some.input c.args.self.now _ refl c.in-Some.ensures c.in_ok-on_input-in-Some.ensures refl refl refl

pub returns-in-None-clause-goes : goal.returns-in-None-clause-goes
returns-in-None-clause-goes g c = λ at. on_still g.L.Link at c.args.self.now _ refl (none_handed _ _ c.in-None.ensures) refl refl refl refl

pub returns-in_ok-on_input-in-Some-clause-one : goal.returns-in_ok-on_input-in-Some-clause-one
returns-in_ok-on_input-in-Some-clause-one g c = λ at. over_deed g.L.Link at (LinksHear c.in-Some.session c.in-Some.input) c.args.self.now _ (refl, c.in-Some.ensures, c.in_ok-on_input-in-Some.ensures)

pub returns-in-None-clause-one : goal.returns-in-None-clause-one
returns-in-None-clause-one g c = c.in-None.ensures.0.1
