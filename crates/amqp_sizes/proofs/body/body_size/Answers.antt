use Rattle.std.proofs.Common.{arith}
use Rattle.amqp_sizes.proofs.body.body_size.Goals as goal

pub overflow_add-result : goal.overflow_add-result
overflow_add-result c = omega (arith, c.in-Some.ensures.small, c.payload_len.ensures.small)
