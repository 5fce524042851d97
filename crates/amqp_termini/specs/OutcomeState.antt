-- Outcomes as the states of deliveries (OASIS AMQP 1.0, part 3, section 3.4).
use Rattle.std.specs.Prelude.{◌≡◌, Result, Ok, Err, refl}
use Rattle.amqp_termini.specs.declared.outcome.Outcome.{Outcome}
use Rattle.amqp_termini.specs.declared.outcome.Outcome.TheVariants as outcome
use Rattle.amqp_termini.specs.declared.state.DeliveryState.{DeliveryState}
use Rattle.amqp_termini.specs.declared.state.DeliveryState.TheVariants as v

-- the same as a state
abbrev pub state_of_outcome : Outcome → DeliveryState
state_of_outcome (outcome.Accepted x) = v.Accepted x
state_of_outcome (outcome.Rejected x) = v.Rejected x
state_of_outcome (outcome.Released x) = v.Released x
state_of_outcome (outcome.Modified x) = v.Modified x
state_of_outcome (outcome.Declared x) = v.Declared x

-- the same as an outcome; any other state is handed back
abbrev pub outcome_of_state : DeliveryState → Result Outcome DeliveryState
outcome_of_state (v.Accepted x) = Ok (outcome.Accepted x)
outcome_of_state (v.Rejected x) = Ok (outcome.Rejected x)
outcome_of_state (v.Released x) = Ok (outcome.Released x)
outcome_of_state (v.Modified x) = Ok (outcome.Modified x)
outcome_of_state (v.Declared x) = Ok (outcome.Declared x)
outcome_of_state x = Err x

pub outcome_again : (x : Outcome) → outcome_of_state (state_of_outcome x) ≡ Ok x
outcome_again (outcome.Accepted x) = refl
outcome_again (outcome.Rejected x) = refl
outcome_again (outcome.Released x) = refl
outcome_again (outcome.Modified x) = refl
outcome_again (outcome.Declared x) = refl
