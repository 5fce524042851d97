use Rattle.crossing_laws.proofs.SenderGoes.{sender_moves_its_link}
use Rattle.crossing_laws.proofs.endpoints.sender_moves_its_link.Goals as goal

pub returns : goal.returns
returns c = sender_moves_its_link
