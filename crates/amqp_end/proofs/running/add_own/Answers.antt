use Rattle.std.proofs.Common.{[], ◌==◌, not}
use Rattle.amqp_sessions.specs.amqp_calls.declared.reply.NamedReply.{NamedReply}
use Rattle.amqp_end.proofs.Telling.{one_more}
use Rattle.amqp_end.proofs.running.add_own.Goals as goal

pub loop-answer-preserved : goal.loop-answer-preserved
loop-answer-preserved c = record {
  told = one_more (λ (r : NamedReply). r.name == c.args.name) _ _ _ _ _ c.loop-answer.invariant.told c.in_ok-add_to_either.ensures.told;
  others = one_more (λ (r : NamedReply). not (r.name == c.args.name)) _ _ [] _ _ c.loop-answer.invariant.others c.in_ok-add_to_either.ensures.others;
}
