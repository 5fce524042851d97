use Rattle.std.proofs.Common.{length}
use Rattle.amqp_message_faults.proofs.Walked.{Walked}
use Rattle.amqp_message_faults.proofs.message.fault_among.Given as goal

abbrev pub invariant-sections : goal.invariant-sections
invariant-sections l = Walked l.input l.rest l.last

abbrev pub decreases-sections : goal.decreases-sections
decreases-sections l = length l.rest
