use Rattle.std.proofs.Common.{◌≡◌, length}
use Rattle.amqp_receiver.specs.Receiver.{seen}
use Rattle.amqp_receiver.specs.Receiving.{receiving}
use Rattle.amqp_receiver.proofs.receiver.Receiver.receive_waiting.Given as goal

abbrev pub invariant-loop-incoming : goal.invariant-loop-incoming
invariant-loop-incoming l = receiving (seen l.self).incoming (seen l.self) ≡ receiving (seen l.fn.self).incoming (seen l.fn.self)

abbrev pub decreases-loop-incoming : goal.decreases-loop-incoming
decreases-loop-incoming l = length l.self.incoming.items
