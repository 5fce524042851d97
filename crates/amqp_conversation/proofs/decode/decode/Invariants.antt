use Rattle.std.proofs.Common.{◌≡◌, ◌≤◌, ◌-◌, ◌++◌, ℕ, List, length, drop}
use Rattle.amqp_conversation.specs.Shows.{Shows}
use Rattle.amqp_conversation.proofs.decode.decode.Given as goal

abbrev pub invariant-pieces : goal.invariant-pieces
invariant-pieces l =
    record {
      within : l.offset ≤ length l.bytes;
      shown : (text : List ℕ) (end : ℕ) (rest : List ℕ) → Shows l.offset (drop l.offset l.bytes) text end rest → Shows 0 l.bytes (l.text.items ++ text) end rest;
    }

abbrev pub decreases-pieces : goal.decreases-pieces
decreases-pieces l = length l.bytes - l.offset
