use Rattle.amqp_link_tables.proofs.Lowest.{lowest_within, lowest_above}
use Rattle.std.proofs.Common.{sym, arith}
use Rattle.amqp_link_tables.proofs.handles.Handles.lowest_up_to.Goals as goal

pub returns-then-lowest-from-clause-lowest : goal.returns-then-lowest-from-clause-lowest
returns-then-lowest-from-clause-lowest c = sym (lowest_within c.args.self.now c.lowest-lowest.result c.args.handle_max c.lowest-lowest.ensures (omega arith))

pub returns-else-lowest-from-clause-lowest : goal.returns-else-lowest-from-clause-lowest
returns-else-lowest-from-clause-lowest c = sym (lowest_above c.args.self.now c.lowest-lowest.result c.args.handle_max c.lowest-lowest.ensures (omega arith))
