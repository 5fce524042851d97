use Rattle.std.proofs.Common.{◌≡◌, drop}
use Rattle.amqp_gen.specs.Tally.{with_replies}
use Rattle.amqp_gen.proofs.tally.Tally.add_replies.Given as goal

-- what is left gives the whole
abbrev pub invariant-loop-reply : goal.invariant-loop-reply
invariant-loop-reply l = with_replies l.tally (drop l.reply-index l.replies) ≡ with_replies l.fn.self l.fn.replies
