use Rattle.session_laws.proofs.Paths.{messages_arrive_in_order}
use Rattle.session_laws.proofs.messages.messages_arrive_in_order.Goals as goal

pub returns : goal.returns
returns c = messages_arrive_in_order
