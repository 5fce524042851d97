use Rattle.std.proofs.Common.{◌+◌, ◌≤◌, ◌++◌, ℕ, List, [], Some, length}
use Rattle.amqp_show.specs.Lines.{lines_of}
use Rattle.amqp_show.specs.Left.{lines_left}
use Rattle.amqp_show.specs.Voice.{unsaid}
use Rattle.amqp_show.specs.Show.{Shows}
use Rattle.amqp_show.proofs.show.shown.Given as goal

abbrev pub invariant-steps : goal.invariant-steps
invariant-steps l =
    record {
      count : l.step + length l.lines ≤ length l.script;
      shown : (text : List ℕ) → Shows l.step (unsaid l.ends.client) (unsaid l.ends.listener) (lines_of l.lines) (lines_left l.rest) text → Shows 0 (Some []) (Some []) (lines_of l.script) (lines_of l.trace) (l.out.items ++ text);
    }

abbrev pub decreases-steps : goal.decreases-steps
decreases-steps l = length l.lines
