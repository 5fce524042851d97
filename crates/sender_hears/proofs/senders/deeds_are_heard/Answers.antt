use Rattle.sender_hears.proofs.Deeds.{deeds_are_heard}
use Rattle.sender_hears.proofs.senders.deeds_are_heard.Goals as goal

pub returns : goal.returns
returns c = deeds_are_heard
