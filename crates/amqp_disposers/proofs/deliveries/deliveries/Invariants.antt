use Rattle.std.proofs.Common.{◌≡◌}
use Rattle.amqp_disposers.specs.Deliveries.{deliveries_below}
use Rattle.amqp_disposers.proofs.deliveries.deliveries.Given as goal

abbrev pub invariant-loop-number : goal.invariant-loop-number
invariant-loop-number l = l.infos.items ≡ deliveries_below l.number
