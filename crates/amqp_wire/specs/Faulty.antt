use Rattle.std.specs.Prelude.{List, ℕ, Bool}
use Rattle.amqp_wire.specs.Failures.{Failures}

-- a link in memory that may end, and of which some calls fail
pub record Faulty : Type 0 where
  pub input : List ℕ
  pub output : List ℕ
  pub mark : ℕ
  pub ends : Bool
  pub failures : Failures
