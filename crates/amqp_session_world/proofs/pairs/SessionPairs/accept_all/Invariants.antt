use Rattle.std.proofs.Common.{◌≡◌, drop}
use Rattle.amqp_session_world.specs.Paired.{seen, all_accepted}
use Rattle.amqp_session_world.proofs.pairs.SessionPairs.accept_all.Given as goal

abbrev pub invariant-loop-answer : goal.invariant-loop-answer
invariant-loop-answer l = all_accepted (drop l.answer-index l.replies) (seen l.self) ≡ all_accepted l.replies (seen l.fn.self)
