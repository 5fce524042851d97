use Rattle.std.proofs.Common.{◌++◌, ℕ, List, Option, length}
use Rattle.amqp_show.specs.Left.{lines_left}
use Rattle.amqp_show.specs.Voice.{unsaid}
use Rattle.amqp_show.specs.Told.{Tells}
use Rattle.amqp_show.proofs.told.tell.Given as goal

abbrev pub invariant-lines : goal.invariant-lines
invariant-lines l = (text : List ℕ) (after : Option (List ℕ)) (rest : List (List ℕ)) → Tells l.step l.side (unsaid l.voice) (lines_left l.rest) text after rest → Tells l.step l.side (unsaid l.fn.voice) (lines_left l.trace) (l.text.items ++ text) after rest

abbrev pub decreases-lines : goal.decreases-lines
decreases-lines l = length (lines_left l.rest)
