use Rattle.std.proofs.Common.{◌<◌, length, if◌then◌else◌, arith, rules}
use Rattle.amqp_clients.proofs.Deliveries.{delivered_next, at_most_one}
use Rattle.amqp_clients.proofs.sending.send_all.Goals as goal

pub loop-text-preserved : goal.loop-text-preserved
loop-text-preserved g c =
    let test = c.loop-text-test.true in
    let within : c.loop-text.text-index < length c.args.messages.now = search rules in
    record {
      delivered = delivered_next g.L.Link c.args.end.now c.loop-text.end c.send_text.new.end c.args.messages.now c.text-item.result c.loop-text.text-index c.loop-text.refused
          (if c.in_ok-accepted.accepted then 0 else 1) c.counted-refused.result within c.text-item.is c.loop-text.invariant.delivered c.in_ok-accepted.ensures.delivered c.counted-refused.ensures;
      below = omega (arith, c.counted-refused.ensures, at_most_one c.in_ok-accepted.accepted);
    }
