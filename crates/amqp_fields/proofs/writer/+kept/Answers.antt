use Rattle.std.proofs.Common.{◌≡◌, true}
use Rattle.amqp_fields.proofs.Trimmed.{with_last, without_last}
use Rattle.amqp_fields.proofs.writer.+kept.Goals as goal

pub returns-then-is_null-clause-trimmed : goal.returns-then-is_null-clause-trimmed
returns-then-is_null-clause-trimmed t c =
    without_last c.args.values.now c.in-Some.front.now c.in-Some.last.now c.kept.result c.in-Some.ensures.cases.0 (c.is_null.ensures.0 c.if-is_null.true) c.kept.ensures.within c.kept.ensures.trimmed

pub returns-else-is_null-clause-trimmed : goal.returns-else-is_null-clause-trimmed
returns-else-is_null-clause-trimmed t c =
    with_last c.args.values.now c.in-Some.front.now c.in-Some.last.now c.in-Some.ensures.cases.0 (λ e. let null : c.is_null.result ≡ true = c.is_null.ensures.1 e in cc)
