use Rattle.std.proofs.Common.{◌∙◌, arith}
use Rattle.amqp_sessions.specs.Endpoint.{over, last_words}
use Rattle.amqp_sessions.specs.State.{seen}
use Rattle.amqp_sessions.proofs.Tables.{all_next, all_count, all_last}
use Rattle.amqp_sessions.proofs.sessions.Sessions.finish.Goals as goal

pub loop-at-preserved : goal.loop-at-preserved
loop-at-preserved c = record {
  count = all_count over last_words _ (seen c.loop-at.self) (seen c.finish_at.new.self) c.in_ok-finish_at.ensures ∙ c.loop-at.invariant.count;
  whole = all_next over last_words _ (seen c.loop-at.self) (seen c.finish_at.new.self) c.in_ok-finish_at.ensures ∙ c.loop-at.invariant.whole;
}

pub returns : goal.returns
returns c = all_last over last_words c.loop-at.at (seen c.loop-at.self) (seen c.args.self.now) (omega arith) c.loop-at.invariant.whole
