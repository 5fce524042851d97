use Rattle.crossing_laws.proofs.ReceiverGoes.{receiver_moves_its_link}
use Rattle.crossing_laws.proofs.endpoints.receiver_moves_its_link.Goals as goal

pub returns : goal.returns
returns c = receiver_moves_its_link
