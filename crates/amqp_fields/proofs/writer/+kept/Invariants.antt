use Rattle.std.proofs.Common.{length}
use Rattle.amqp_fields.proofs.writer.+kept.Given as goal

abbrev pub decreases-kept : goal.decreases-kept
decreases-kept l = length l.values.now
