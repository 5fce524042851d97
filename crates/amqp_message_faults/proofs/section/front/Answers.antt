use Rattle.std.proofs.Common.{arith}
use Rattle.amqp_data.specs.View.{view}
use Rattle.amqp_message_faults.specs.Sees.{none_begins, one_begins}
use Rattle.amqp_message_faults.proofs.section.front.Goals as goal

pub returns-in-Err : goal.returns-in-Err
returns-in-Err c =
    (one_begins c.args.last c.args.bytes.now (view c.in-Ok.value) c.in-Ok.used c.in-Err.reason c.in-Ok.ensures.0 (rw c.in-Err.is at c.in_ok-kind-in-Ok.ensures), omega arith)

pub returns-in_ok-fault-in-Err-Decode : goal.returns-in_ok-fault-in-Err-Decode
returns-in_ok-fault-in-Err-Decode c =
    (none_begins c.args.last c.args.bytes.now c.in_ok-fault-in-Err-Decode.fault.offset c.in_ok-fault-in-Err-Decode.fault.reason c.in_ok-fault-in-Err-Decode.ensures.wrong, c.in_ok-fault-in-Err-Decode.ensures.within)
