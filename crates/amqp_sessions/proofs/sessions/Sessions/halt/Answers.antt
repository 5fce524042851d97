use Rattle.std.proofs.Common.{◌∙◌, arith}
use Rattle.amqp_sessions.specs.State.{seen}
use Rattle.amqp_sessions.specs.Stops.{halting, stop_of}
use Rattle.amqp_sessions.proofs.Tables.{all_next, all_count, all_last}
use Rattle.amqp_sessions.proofs.sessions.Sessions.halt.Goals as goal

pub loop-at-preserved : goal.loop-at-preserved
loop-at-preserved c = record {
  count = all_count (halting c.args.reason.now) (stop_of c.args.reason.now) _ (seen c.loop-at.self) (seen c.halt_at.new.self) c.in_ok-halt_at.ensures ∙ c.loop-at.invariant.count;
  whole = all_next (halting c.args.reason.now) (stop_of c.args.reason.now) _ (seen c.loop-at.self) (seen c.halt_at.new.self) c.in_ok-halt_at.ensures ∙ c.loop-at.invariant.whole;
}

pub returns : goal.returns
returns c = all_last (halting c.args.reason.now) (stop_of c.args.reason.now) c.loop-at.at (seen c.loop-at.self) (seen c.args.self.now) (omega arith) c.loop-at.invariant.whole
