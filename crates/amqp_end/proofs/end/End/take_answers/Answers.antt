use Rattle.std.proofs.Common.{refl}
use Rattle.amqp_end.proofs.Telling.{ordered_together}
use Rattle.amqp_end.proofs.end.End.take_answers.Goals as goal

pub returns : goal.returns
returns g c = record {
  connection = c.replies.ensures.left;
  sessions = c.take_replies-fresh.ensures.state;
  links = c.take_replies.ensures.state;
  ordered = ordered_together _ _ _ _ _ _ _ _ _ c.take_replies-fresh.ensures.replies c.replies.ensures.taken c.take_replies.ensures.replies c.in_ok-add_replies.ensures c.in_ok-add_link_replies.ensures c.in_ok-sort_by_name.ensures;
  last = refl;
  failed = refl;
  replies = refl;
}
