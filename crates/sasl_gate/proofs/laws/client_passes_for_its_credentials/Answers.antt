use Rattle.sasl_gate.proofs.ClientGates.{passed_for}
use Rattle.sasl_gate.proofs.laws.client_passes_for_its_credentials.Goals as goal

pub returns : goal.returns
returns c = λ credentials hostname x events s h. passed_for credentials hostname x events s h
