use Rattle.std.proofs.Common.{◌≤◌, ◌-◌, ◌++◌, ℕ, List, Option, length, drop}
use Rattle.amqp_show.specs.Voice.{Speaks}
use Rattle.amqp_show.proofs.voice.speak.Given as goal

abbrev pub invariant-pieces : goal.invariant-pieces
invariant-pieces l =
    record {
      within : l.end ≤ length l.bytes;
      said : (text : List ℕ) (left : Option (List ℕ)) → Speaks l.side (drop l.end l.bytes) text left → Speaks l.side l.bytes (l.text.items ++ text) left;
    }

abbrev pub decreases-pieces : goal.decreases-pieces
decreases-pieces l = length l.bytes - l.end
