use Rattle.amqp_skips.proofs.Walked.{wrong_none}
use Rattle.amqp_skips.proofs.walk.past_scalar.Goals as goal

pub returns-in-Err-clause-past : goal.returns-in-Err-clause-past
returns-in-Err-clause-past c = wrong_none c.args.layout c.args.bytes.now c.in-Err.field-0 c.in-Err.ensures
