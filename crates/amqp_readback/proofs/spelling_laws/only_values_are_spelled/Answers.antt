use Rattle.amqp_readback.proofs.Spelled.{spelled_is_value}
use Rattle.amqp_readback.proofs.spelling_laws.only_values_are_spelled.Goals as goal

pub returns : goal.returns
returns c = λ text v s. spelled_is_value s
