use Rattle.std.proofs.Common.{◌≤◌, ◌+◌, length}
use Rattle.amqp_session_script.proofs.Lines.{SaidBy, BadBy}
use Rattle.amqp_session_script.proofs.script.parse.Given as goal

abbrev pub invariant-lines : goal.invariant-lines
invariant-lines l =
    record {
      count : length l.steps.items + length l.rest ≤ length l.fn.text;
      said : SaidBy l.steps.items l.rest l.fn.text;
      bad : BadBy l.steps.items l.rest l.fn.text;
    }

abbrev pub decreases-lines : goal.decreases-lines
decreases-lines l = length l.rest
