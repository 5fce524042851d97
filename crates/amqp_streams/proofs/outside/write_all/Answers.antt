use Rattle.std.proofs.Common.{length, ap, arith, length-drop}
use Rattle.std.proofs.lemmas.List.{take_rest}
use Rattle.amqp_streams.proofs.Told.{gains_more}
use Rattle.amqp_streams.proofs.outside.write_all.Goals as goal

pub writes-preserved : goal.writes-preserved
writes-preserved g c =
    let b = c.in-Took.ensures.bytes in
    record {
      within = omega (arith, b.0, ap length (take_rest c.args.text.now c.writes.at), length-drop c.writes.at c.args.text.now, c.writes.invariant.within);
      gained = gains_more _ _ _ c.args.text.now c.writes.at c.in-Took.count c.writes.invariant.gained b.2;
      later = omega (arith, c.writes.invariant.later, c.write.ensures.cause.later);
    }
