-- What the grammar of connections says of a script.
use Rattle.std.proofs.Common.{List, ℕ}
use Rattle.amqp_calls.specs.declared.step.Step.{Step}
use Rattle.amqp_session_script.specs.Script.{Spells, IsFirstBad}
use Rattle.amqp_session_script.proofs.Plains.{plain_spelled, bad_alike}
use Rattle.amqp_run.specs.Script.{Says, IsBadLine}

pub says : (script : List ℕ) (steps : List Step) → Spells script steps → Says script steps
says script steps spelled =
    record { spelled = spelled; connections = λ plain all. plain_spelled script steps plain spelled all }

pub is_bad_line : (script : List ℕ) (line : ℕ) → IsFirstBad script line → IsBadLine script line
is_bad_line script line bad = record { bad = bad; connections = λ none. bad_alike script line none bad }
