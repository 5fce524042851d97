use Rattle.std.proofs.Common.{◌≡◌, ◌++◌, drop, flat_map}
use Rattle.amqp_session_script.specs.TraceText.{reply_text}
use Rattle.amqp_session_script.proofs.trace_text.push_replies.Given as goal

abbrev pub invariant-loop-reply : goal.invariant-loop-reply
invariant-loop-reply l =
    l.out.items ++ flat_map (reply_text l.step) (drop l.reply-index l.replies) ≡ l.fn.out.items ++ flat_map (reply_text l.step) l.replies
