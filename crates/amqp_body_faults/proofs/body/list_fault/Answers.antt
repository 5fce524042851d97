use Rattle.std.proofs.Common.{sym, ◌∙◌}
use Rattle.amqp_body_faults.specs.Bodies.{no_list, another_list, wrong_fields}
use Rattle.amqp_body_faults.proofs.body.list_fault.Goals as goal

pub returns-then-is_performative-clause-wrong : goal.returns-then-is_performative-clause-wrong
returns-then-is_performative-clause-wrong c = wrong_fields c.args.input.now c.in-Some.kind (rw c.in-Some.is at c.in_ok-kind.ensures) (sym c.is_performative.ensures ∙ c.if-is_performative.true) c.requires.none

pub returns-else-is_performative-clause-wrong : goal.returns-else-is_performative-clause-wrong
returns-else-is_performative-clause-wrong c = another_list c.args.input.now c.in-Some.kind (rw c.in-Some.is at c.in_ok-kind.ensures) (sym c.is_performative.ensures ∙ c.if-is_performative.false)

pub returns-in-None-clause-wrong : goal.returns-in-None-clause-wrong
returns-in-None-clause-wrong c = no_list c.args.input.now (rw c.in-None.is at c.in_ok-kind.ensures)
