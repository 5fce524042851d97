use Rattle.std.proofs.Common.{◌≡◌, ◌++◌, length, map}
use Rattle.amqp_link_calls.specs.Answering.{told_by}
use Rattle.amqp_link_calls.proofs.called.CalledLink.answer_all.Given as goal

abbrev pub invariant-loop-place : goal.invariant-loop-place
invariant-loop-place l = record l.self { answers = l.self.answers ++ map (told_by l.self.side) l.left } ≡ record l.fn.self { answers = l.fn.self.answers ++ map (told_by l.fn.self.side) l.initial.left }

abbrev pub decreases-loop-place : goal.decreases-loop-place
decreases-loop-place l = length l.left
