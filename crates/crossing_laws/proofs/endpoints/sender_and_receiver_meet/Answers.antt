use Rattle.crossing_laws.proofs.Projects.{sender_and_receiver_meet}
use Rattle.crossing_laws.proofs.endpoints.sender_and_receiver_meet.Goals as goal

pub returns : goal.returns
returns c = sender_and_receiver_meet
