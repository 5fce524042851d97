use Rattle.std.proofs.Common.{◌≡◌, ◌≤◌, ◌+◌, ◌==◌, length}
use Rattle.std.specs.List.{slice_split}
use Rattle.amqp_script.specs.Script.{steps_from, script_in}
use Rattle.amqp_script.proofs.Lines.{after}
use Rattle.amqp_script.proofs.script.parse.Given as goal

abbrev pub invariant-lines : goal.invariant-lines
invariant-lines l =
    record {
      count : length l.steps + length l.rest ≤ length l.fn.text;
      said : after l.steps (steps_from (length l.steps + 1) (slice_split (λ b. b == 10) l.rest)) ≡ script_in l.fn.text;
    }

abbrev pub decreases-lines : goal.decreases-lines
decreases-lines l = length l.rest
