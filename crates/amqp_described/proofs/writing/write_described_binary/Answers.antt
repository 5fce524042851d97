use Rattle.std.proofs.Common.{arith}
use Rattle.amqp_value.specs.amqp_data.Data.{scalar, binary}
use Rattle.amqp_described.proofs.Numbered.{behind_number}
use Rattle.amqp_described.proofs.writing.write_described_binary.Goals as goal

pub returns : goal.returns
returns c =
    behind_number c.write_binary.result c.based.result c.args.out.now c.put_number.new.out c.write_binary.new.out c.args.number (scalar (binary c.args.bytes.now)) 32 (omega arith) c.based.ensures c.in_ok-put_number.ensures c.write_binary.ensures
