-- Copies of a state.
use Rattle.std.specs.Prelude.{ℕ}
use Rattle.amqp_termini.specs.declared.state.DeliveryState.{DeliveryState}

-- a state, and how many copies of it are at hand
pub record Copied : Type 0 where
  pub of : DeliveryState
  pub count : ℕ
