use Rattle.std.proofs.Common.{sym, ◌∙◌}
use Rattle.amqp_faults.specs.Faults.{element_past}
use Rattle.amqp_skips.proofs.Walked.{none_behind, elements_are}
use Rattle.amqp_skips.proofs.walk.past_elements.Goals as goal

pub returns-in_err-rest-clause-past : goal.returns-in_err-rest-clause-past
returns-in_err-rest-clause-past c =
    rw c.from_residual-in_err-rest.ensures
    (elements_are c.args.levels c.args.count c.in_ok-first.first c.in_ok-layout.layout c.args.bytes.now c.in_ok-first.elements.now c.in_ok-first.ensures (sym c.in_ok-layout.ensures)
    ∙ none_behind (element_past c.args.levels c.in_ok-layout.layout) c.elements.counter c.args.count c.in_ok-first.elements.now c.elements.rest.now c.elements.invariant.0 c.in_err-rest.ensures.past c.elements-test.true)
