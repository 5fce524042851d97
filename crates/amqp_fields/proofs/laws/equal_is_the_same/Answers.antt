use Rattle.amqp_data.specs.SameLaws.{same_pairs_decides}
use Rattle.amqp_fields.proofs.laws.equal_is_the_same.Goals as goal

pub returns-clause-fields : goal.returns-clause-fields
returns-clause-fields c = same_pairs_decides

pub returns-clause-annotations : goal.returns-clause-annotations
returns-clause-annotations c = same_pairs_decides

pub returns-clause-texts : goal.returns-clause-texts
returns-clause-texts c = same_pairs_decides
