use Rattle.std.proofs.Common.{arith}
use Rattle.amqp_value.specs.amqp_data.Data.{list}
use Rattle.amqp_value.specs.amqp_data.View.{items_view}
use Rattle.amqp_described.proofs.Numbered.{behind_number}
use Rattle.amqp_described.proofs.writing.write_described_list.Goals as goal

pub returns : goal.returns
returns c =
    behind_number c.write_list.result c.based.result c.args.out.now c.put_number.new.out c.write_list.new.out c.args.number (list (items_view c.args.values.now)) 32 (omega arith) c.based.ensures c.in_ok-put_number.ensures c.write_list.ensures
