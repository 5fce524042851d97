use Rattle.std.proofs.Common.{◌≡◌, length}
use Rattle.std.specs.Vec.Iter.{into_iter_items}
use Rattle.amqp_receiver.specs.Receiver.{seen}
use Rattle.amqp_receiver.specs.Disposing.{writing}
use Rattle.amqp_receiver.proofs.receiver.Receiver.say_orders.Given as goal

abbrev pub invariant-loop-order : goal.invariant-loop-order
invariant-loop-order l = record (seen l.self) { link = writing (into_iter_items l.left) (seen l.self).link } ≡ record (seen l.fn.self) { link = writing (into_iter_items l.initial.left) (seen l.fn.self).link }

abbrev pub decreases-loop-order : goal.decreases-loop-order
decreases-loop-order l = length (into_iter_items l.left)
