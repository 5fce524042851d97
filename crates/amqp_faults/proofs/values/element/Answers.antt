use Rattle.amqp_faults.proofs.Made.{deep_element, sees_element}
use Rattle.amqp_faults.proofs.values.element.Goals as goal

pub returns-then-depth-eq0 : goal.returns-then-depth-eq0
returns-then-depth-eq0 c = deep_element c.args.depth c.args.layout c.args.bytes.now c.if-depth-eq0.true

pub returns : goal.returns
returns c = sees_element (λ x. x.now) c.pass.result c.args.depth c.args.layout c.args.bytes.now c.if-depth-eq0.false c.pass.ensures
