use Rattle.first_messages.proofs.Unread.{none_is_read}
use Rattle.first_messages.proofs.sessions.none_is_read.Goals as goal

pub returns : goal.returns
returns c = none_is_read
