use Rattle.amqp_termini.proofs.Same.{outcome_decides, state_decides, terminal_state_decides, source_decides, target_decides, archetype_decides, unsettled_decides}
use Rattle.amqp_termini.proofs.laws.equal_is_the_same.Goals as goal

pub returns-clause-outcomes : goal.returns-clause-outcomes
returns-clause-outcomes c = outcome_decides

pub returns-clause-states : goal.returns-clause-states
returns-clause-states c = state_decides

pub returns-clause-terminal_states : goal.returns-clause-terminal_states
returns-clause-terminal_states c = terminal_state_decides

pub returns-clause-sources : goal.returns-clause-sources
returns-clause-sources c = source_decides

pub returns-clause-targets : goal.returns-clause-targets
returns-clause-targets c = target_decides

pub returns-clause-archetypes : goal.returns-clause-archetypes
returns-clause-archetypes c = archetype_decides

pub returns-clause-unsettled : goal.returns-clause-unsettled
returns-clause-unsettled c = unsettled_decides
