use Rattle.std.proofs.Common.{◌≡◌, drop}
use Rattle.amqp_termini.specs.Unsettled.{state_of}
use Rattle.amqp_termini.proofs.unsettled.UnsettledMap.get.Given as goal

abbrev pub invariant-loop-delivery : goal.invariant-loop-delivery
invariant-loop-delivery l = state_of l.delivery_tag (drop l.delivery-index l.delivery-items) ≡ state_of l.delivery_tag l.self
