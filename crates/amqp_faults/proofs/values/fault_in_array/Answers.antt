use Rattle.std.proofs.Common.{sym, ◌∙◌}
use Rattle.amqp_faults.specs.Faults.{no_element_code, no_element, in_elements}
use Rattle.amqp_faults.proofs.values.fault_in_array.Goals as goal

pub returns-in_default-clause-wrong : goal.returns-in_default-clause-wrong
returns-in_default-clause-wrong c = λ w. rw (c.whole.ensures, c.in_default.ensures) (no_element_code c.args.depth w c.args.count)

pub returns-in-None-clause-wrong : goal.returns-in-None-clause-wrong
returns-in-None-clause-wrong c = λ w. rw (c.reason_of_code.ensures, c.in-Some.ensures) (no_element c.args.depth w c.args.count c.in-Some.first c.in-Some.elements.now (sym c.in-None.ensures))

pub returns-in-Some-element_layout-clause-wrong : goal.returns-in-Some-element_layout-clause-wrong
returns-in-Some-element_layout-clause-wrong c = λ w.
    rw (c.behind_one.ensures, c.in-Some.ensures) (in_elements c.args.depth w c.args.count c.in-Some.first c.in-Some-element_layout.layout c.in-Some.elements.now c.fault_in_elements.result.place c.fault_in_elements.result.reason (sym c.in-Some-element_layout.ensures) c.fault_in_elements.ensures.wrong)
