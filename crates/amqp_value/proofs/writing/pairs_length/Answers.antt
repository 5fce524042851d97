use Rattle.amqp_data.specs.View.{pairs_view}
use Rattle.amqp_value.proofs.Written.{pairs_known}
use Rattle.amqp_value.proofs.writing.pairs_length.Goals as goal

pub unreachable-requires : goal.unreachable-requires
unreachable-requires c = pairs_known (pairs_view c.args.entries.now) c.requires c.in-None.ensures
