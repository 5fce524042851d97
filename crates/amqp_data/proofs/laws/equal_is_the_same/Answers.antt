use Rattle.amqp_data.specs.SameLaws.{value_decides, same_items_decides, same_pairs_decides}
use Rattle.amqp_data.proofs.laws.equal_is_the_same.Goals as goal

pub returns-clause-values : goal.returns-clause-values
returns-clause-values c = value_decides

pub returns-clause-lists : goal.returns-clause-lists
returns-clause-lists c = same_items_decides

pub returns-clause-maps : goal.returns-clause-maps
returns-clause-maps c = same_pairs_decides
