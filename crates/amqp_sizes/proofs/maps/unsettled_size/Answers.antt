use Rattle.std.proofs.Common.{None, List, subst, length}
use Rattle.amqp_data.specs.Data.{dict}
use Rattle.amqp_termini.specs.declared.unsettled.UnsettledDelivery.{UnsettledDelivery}
use Rattle.amqp_termini.specs.Unsettled.{pairs_of}
use Rattle.amqp_sizes.specs.Taken.{HasSize, Takes}
use Rattle.amqp_sizes.proofs.Pairs.{map_is, map_refused, count_deliveries}
use Rattle.amqp_sizes.proofs.maps.unsettled_size.Goals as goal

pub returns-in_err-bytes : goal.returns-in_err-bytes
returns-in_err-bytes c =
    rw c.from_residual.ensures (subst (λ (z : List UnsettledDelivery). Takes None c.args.levels (dict (pairs_of z))) c.deliveries-deliveries.ensures.value
    (map_refused c.args.levels (pairs_of c.deliveries-deliveries.result.now) c.in_err-bytes.ensures))

pub returns : goal.returns
returns c =
    subst (λ (z : List UnsettledDelivery). HasSize c.compound_size.result c.args.levels (dict (pairs_of z))) c.deliveries-deliveries.ensures.value
    (map_is c.compound_size.result c.in_ok-bytes.bytes (length c.deliveries-deliveries.result.now) c.args.levels (pairs_of c.deliveries-deliveries.result.now) c.if-levels-eq0.false c.in_ok-bytes.ensures
    (count_deliveries c.deliveries-deliveries.result.now) c.compound_size.ensures)
