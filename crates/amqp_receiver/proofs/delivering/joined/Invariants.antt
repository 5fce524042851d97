use Rattle.std.proofs.Common.{◌≡◌, ◌++◌, length}
use Rattle.std.specs.Vec.Iter.{into_iter_items}
use Rattle.amqp_receiver.specs.Delivering.{all_bytes}
use Rattle.amqp_receiver.proofs.delivering.joined.Given as goal

abbrev pub invariant-loop-payload : goal.invariant-loop-payload
invariant-loop-payload l = l.bytes ++ all_bytes (into_iter_items l.left) ≡ all_bytes (into_iter_items l.initial.left)

abbrev pub decreases-loop-payload : goal.decreases-loop-payload
decreases-loop-payload l = length (into_iter_items l.left)
