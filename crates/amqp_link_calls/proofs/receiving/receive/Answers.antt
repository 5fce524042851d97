use Rattle.std.proofs.Common.{◌∙◌}
use Rattle.amqp_link_calls.proofs.receiving.receive.Goals as goal

pub returns-in-Ok-Ready-clause-state : goal.returns-in-Ok-Ready-clause-state
returns-in-Ok-Ready-clause-state c =
    let h = rw c.in-Ok-Ready.field-0-is at c.in-Ok-Ready.ensures in
    rw (c.into_parts-info.ensures.0 ∙ h.1.1.1.0) h.1.1.0

pub returns-in-Ok-Ready-clause-answer : goal.returns-in-Ok-Ready-clause-answer
returns-in-Ok-Ready-clause-answer c =
    let h = rw c.in-Ok-Ready.field-0-is at c.in-Ok-Ready.ensures in
    (h.0, (h.1.0, c.into_parts-info.ensures.0 ∙ h.1.1.1.0, rw c.into_parts-info.ensures.1 h.1.1.1.3))
