use Rattle.amqp_text.specs.Bytes.{lists_decide}
use Rattle.amqp_text.proofs.laws.equal_is_the_same.Goals as goal

pub returns-clause-lists : goal.returns-clause-lists
returns-clause-lists c = lists_decide
