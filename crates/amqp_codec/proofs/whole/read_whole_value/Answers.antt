use Rattle.std.proofs.Common.{[]}
use Rattle.amqp_codec.proofs.Wholes.{with_nothing, none_left}
use Rattle.amqp_codec.proofs.whole.read_whole_value.Goals as goal

pub returns-then-left-eq0-clause-only : goal.returns-then-left-eq0-clause-only
returns-then-left-eq0-clause-only c =
    λ v spelled nests. (c.in-Ok.ensures.only c.args.input.now [] v (with_nothing c.args.input.now) spelled nests).0

pub returns-else-left-eq0-clause-left : goal.returns-else-left-eq0-clause-left
returns-else-left-eq0-clause-left c =
    λ n e v spelled nests. c.if-left-eq0.false (none_left c.args.input.now c.in-Ok.used (c.in-Ok.ensures.only c.args.input.now [] v (with_nothing c.args.input.now) spelled nests).1)
