use Rattle.std.proofs.Common.{arith}
use Rattle.amqp_value.specs.amqp_data.Data.{list}
use Rattle.amqp_value.specs.amqp_data.View.{items_view}
use Rattle.amqp_described.proofs.Numbered.{behind_number}
use Rattle.amqp_described.proofs.writing.write_described_fields.Goals as goal

pub returns : goal.returns
returns c =
    behind_number c.write_fields.result c.based.result c.args.out.now c.put_number.new.out c.write_fields.new.out c.args.number (list (items_view c.args.fields.now)) 33 (omega arith) c.based.ensures c.in_ok-put_number.ensures c.write_fields.ensures
