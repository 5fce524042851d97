use Rattle.std.proofs.Common.{arith}
use Rattle.amqp_value.specs.amqp_data.Data.{dict}
use Rattle.amqp_described.proofs.Numbered.{behind_number}
use Rattle.amqp_described.proofs.writing.write_described_map.Goals as goal

pub returns : goal.returns
returns c =
    behind_number c.write_map.result c.based.result c.args.out.now c.put_number.new.out c.write_map.new.out c.args.number (dict c.args.map.now) 32 (omega arith) c.based.ensures c.in_ok-put_number.ensures c.write_map.ensures
