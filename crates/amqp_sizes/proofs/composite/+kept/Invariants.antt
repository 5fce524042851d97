use Rattle.std.proofs.Common.{length}
use Rattle.amqp_sizes.proofs.composite.+kept.Given as goal

abbrev pub decreases-kept : goal.decreases-kept
decreases-kept l = length l.slots.now
