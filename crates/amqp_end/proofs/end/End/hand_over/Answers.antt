use Rattle.std.proofs.Common.{◌∙◌}
use Rattle.amqp_end.proofs.Goes.{on_then}
use Rattle.amqp_end.proofs.Opened.{opened_late, opened_hears}
use Rattle.amqp_end.proofs.Handed.{between_then}
use Rattle.amqp_end.proofs.end.End.hand_over.Goals as goal

pub returns-clause-goes : goal.returns-clause-goes
returns-clause-goes g c = λ at. on_then g.L.Link at c.args.self.now c.write.new.self c.give_back.new.self (c.in_ok-write.ensures.goes at) (c.give_back.ensures.goes at)

pub returns-clause-said : goal.returns-clause-said
returns-clause-said g c = λ o. record { output = c.give_back.ensures.output ∙ c.in_ok-write.ensures.written; freed = c.give_back.ensures.freed }

pub returns-then-not-is_open-clause-said : goal.returns-then-not-is_open-clause-said
returns-then-not-is_open-clause-said g c = λ o. absurd (cc (c.is_open.ensures, c.if-not-is_open.true, o))

pub returns-clause-between : goal.returns-clause-between
returns-clause-between g c = between_then c.args.self.now c.write.new.self c.give_back.new.self c.in_ok-write.ensures.between c.give_back.ensures.between
