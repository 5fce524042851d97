use Rattle.first_messages.proofs.Unwritten.{none_is_written}
use Rattle.first_messages.proofs.sessions.none_is_written.Goals as goal

pub returns : goal.returns
returns c = none_is_written
