use Rattle.std.proofs.Common.{arith}
use Rattle.amqp_data.specs.View.{view}
use Rattle.amqp_faults.proofs.Read.{is_seen, none_read}
use Rattle.amqp_faults.proofs.front.front.Goals as goal

pub returns-in-Ok : goal.returns-in-Ok
returns-in-Ok c =
    (is_seen c.args.depth c.in-Ok.used c.args.bytes.now _ (view c.in-Ok.value) c.in-Ok.ensures.found c.in-Ok.ensures.nests c.split_at.ensures.back, omega (arith, c.split_at.ensures.back_len))

pub returns-in-Err-Decode : goal.returns-in-Err-Decode
returns-in-Err-Decode c = none_read c.args.depth c.args.bytes.now (λ i. omega (arith, c.type_inv.bytes i)) (c.in-Err-Decode.ensures.none (cc))
