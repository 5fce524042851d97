use Rattle.amqp_sections.proofs.Same.{header_decides, properties_decides, message_id_decides}
use Rattle.amqp_sections.proofs.laws.equal_is_the_same.Goals as goal

pub returns-clause-headers : goal.returns-clause-headers
returns-clause-headers c = header_decides

pub returns-clause-properties : goal.returns-clause-properties
returns-clause-properties c = properties_decides

pub returns-clause-message_ids : goal.returns-clause-message_ids
returns-clause-message_ids c = message_id_decides
