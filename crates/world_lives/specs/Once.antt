-- The names under which an end does something are used once.
use Rattle.std.specs.Prelude.{List}
use Rattle.amqp_words.specs.declared.step.End.{End as Side}
use Rattle.amqp_calls.specs.declared.step.Step.{Step}
use Rattle.amqp_calls.specs.declared.trace.Entry.{Entry}
use Rattle.amqp_session_world.specs.Turn.{AreMade}
use Rattle.world_lives.specs.Lived.{life}
use Rattle.world_lives.specs.Naming.{AreOnce}

-- in the life of each end that makes valid steps from the start
abbrev pub NamesAreUsedOnce : Type 0
NamesAreUsedOnce =
    (e : Side) (steps : List Step) (entries : List Entry) (m : AreMade steps entries)
    → AreOnce (life e steps entries m)
