use Rattle.std.proofs.Common.{◌≡◌, length}
use Rattle.amqp_sessions.specs.State.{seen}
use Rattle.amqp_sessions.specs.Stops.{halting, stop_of}
use Rattle.amqp_sessions.proofs.Tables.{all_from}
use Rattle.amqp_sessions.proofs.sessions.Sessions.halt.Given as goal

-- what is left gives the whole
abbrev pub invariant-loop-at : goal.invariant-loop-at
invariant-loop-at l = record {
  count : length (seen l.self).endpoints ≡ length (seen l.fn.self).endpoints;
  whole : all_from (halting l.reason) (stop_of l.reason) l.at (seen l.self) ≡ all_from (halting l.reason) (stop_of l.reason) 0 (seen l.fn.self);
}
