use Rattle.std.proofs.Common.{sym, ◌∙◌}
use Rattle.amqp_body_faults.specs.Sasl.{no_list, another_list, wrong_fields}
use Rattle.amqp_body_faults.proofs.sasl.list_fault.Goals as goal

pub returns-then-is_sasl_body-clause-wrong : goal.returns-then-is_sasl_body-clause-wrong
returns-then-is_sasl_body-clause-wrong c = wrong_fields c.args.input.now c.in-Some.kind (rw c.in-Some.is at c.in_ok-kind.ensures) (sym c.is_sasl_body.ensures ∙ c.if-is_sasl_body.true) c.requires.none

pub returns-else-is_sasl_body-clause-wrong : goal.returns-else-is_sasl_body-clause-wrong
returns-else-is_sasl_body-clause-wrong c = another_list c.args.input.now c.in-Some.kind (rw c.in-Some.is at c.in_ok-kind.ensures) (sym c.is_sasl_body.ensures ∙ c.if-is_sasl_body.false)

pub returns-in-None-clause-wrong : goal.returns-in-None-clause-wrong
returns-in-None-clause-wrong c = no_list c.args.input.now (rw c.in-None.is at c.in_ok-kind.ensures)
