use Rattle.amqp_data.specs.View.{items_view}
use Rattle.amqp_value.proofs.Written.{items_known}
use Rattle.amqp_value.proofs.writing.items_length.Goals as goal

pub unreachable-requires : goal.unreachable-requires
unreachable-requires c = items_known (items_view c.args.values.now) c.requires c.in-None.ensures
