use Rattle.std.proofs.Common.{◌≡◌, drop}
use Rattle.amqp_sessions.specs.Stops.{ends_answered}
use Rattle.amqp_sessions.specs.State.{seen}
use Rattle.amqp_sessions.proofs.sessions.Sessions.answer_ends.Given as goal

-- what is left gives the whole
abbrev pub invariant-loop-at : goal.invariant-loop-at
invariant-loop-at l = record {
  same : (seen l.self).endpoints ≡ (seen l.fn.self).endpoints;
  whole : ends_answered (drop l.at (seen l.fn.self).endpoints) (seen l.self) ≡ ends_answered (seen l.fn.self).endpoints (seen l.fn.self);
}
