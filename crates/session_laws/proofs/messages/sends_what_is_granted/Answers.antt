use Rattle.session_laws.proofs.Credits.{sends_what_is_granted}
use Rattle.session_laws.proofs.messages.sends_what_is_granted.Goals as goal

pub returns : goal.returns
returns c = sends_what_is_granted
