use Rattle.first_messages.proofs.Limits.{messages_arrive_within}
use Rattle.first_messages.proofs.first.messages_arrive_within.Goals as goal

pub returns : goal.returns
returns c = messages_arrive_within
