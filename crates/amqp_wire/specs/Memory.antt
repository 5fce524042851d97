use Rattle.std.specs.Prelude.{List, ℕ}
use Rattle.amqp_wire.specs.Failures.{Failures}

-- a source in memory: what is left, and which calls fail
pub record Supply : Type 0 where
  pub left : List ℕ
  pub failures : Failures

-- a sink in memory: what was written, and which calls fail
pub record Gathering : Type 0 where
  pub written : List ℕ
  pub failures : Failures
