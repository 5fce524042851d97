use Rattle.amqp_termini.specs.OutcomeState.{outcome_again}
use Rattle.amqp_termini.proofs.laws.outcome_is_the_same_again.Goals as goal

pub returns : goal.returns
returns c = outcome_again
