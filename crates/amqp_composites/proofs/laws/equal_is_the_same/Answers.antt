use Rattle.amqp_composites.proofs.Same.{error_decides, role_decides, sender_mode_decides, receiver_mode_decides}
use Rattle.amqp_composites.proofs.laws.equal_is_the_same.Goals as goal

pub returns-clause-errors : goal.returns-clause-errors
returns-clause-errors c = error_decides

pub returns-clause-roles : goal.returns-clause-roles
returns-clause-roles c = role_decides

pub returns-clause-sender_modes : goal.returns-clause-sender_modes
returns-clause-sender_modes c = sender_mode_decides

pub returns-clause-receiver_modes : goal.returns-clause-receiver_modes
returns-clause-receiver_modes c = receiver_mode_decides
