use Rattle.sender_hears.proofs.Runs.{one_sender_hears}
use Rattle.sender_hears.proofs.senders.one_sender_hears.Goals as goal

pub returns : goal.returns
returns c = one_sender_hears
