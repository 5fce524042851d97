use Rattle.crossing_laws.proofs.Projects.{sender_and_receiver_agree}
use Rattle.crossing_laws.proofs.endpoints.sender_and_receiver_agree.Goals as goal

pub returns : goal.returns
returns c = sender_and_receiver_agree
