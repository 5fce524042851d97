use Rattle.std.proofs.Common.{sym, ◌∙◌}
use Rattle.amqp_faults.specs.Faults.{ends', unlike'}
use Rattle.amqp_faults.proofs.scalars.pass.Goals as goal

pub returns-in-None : goal.returns-in-None
returns-in-None c = ends' c.args.layout c.args.bytes.now c.in-None.ensures.taken

pub returns-else-is_like : goal.returns-else-is_like
returns-else-is_like c = rw c.unlike.ensures (unlike' c.args.layout c.args.bytes.now c.in-Some.octets.now c.in-Some.rest.now c.in-Some.ensures.taken (sym c.is_like.ensures ∙ c.if-is_like.false))
