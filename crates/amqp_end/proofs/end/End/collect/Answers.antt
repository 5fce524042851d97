use Rattle.std.proofs.Common.{refl}
use Rattle.amqp_end.proofs.Goes.{on_ok, on_any, on_told}
use Rattle.amqp_end.proofs.Rests.{said_taken}
use Rattle.amqp_end.proofs.Handed.{between_taken}
use Rattle.amqp_end.proofs.end.End.collect.Goals as goal

pub returns-clause-goes : goal.returns-clause-goes
returns-clause-goes g c = on_ok c.append.result (λ h at. on_told g.L.Link at _ c.args.self.now _ _ c.in_ok-fresh.ensures refl refl refl refl refl h) c.append.ensures

pub returns-clause-said : goal.returns-clause-said
returns-clause-said g c = on_any c.append.result (said_taken c.args.self.now c.take_answers.new.self _ c.in_ok-fresh.ensures)

pub returns-clause-between : goal.returns-clause-between
returns-clause-between g c = on_any c.append.result (between_taken c.args.self.now c.take_answers.new.self _ _ c.in_ok-fresh.ensures refl refl)
