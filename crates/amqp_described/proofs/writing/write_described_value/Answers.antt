use Rattle.std.proofs.Common.{arith}
use Rattle.amqp_value.specs.amqp_data.View.{view}
use Rattle.amqp_described.proofs.Numbered.{behind_number}
use Rattle.amqp_described.proofs.writing.write_described_value.Goals as goal

pub returns : goal.returns
returns c =
    behind_number c.put_value.result c.based.result c.args.out.now c.put_number.new.out c.put_value.new.out c.args.number (view c.args.value.now) 32 (omega arith) c.based.ensures c.in_ok-put_number.ensures c.put_value.ensures
