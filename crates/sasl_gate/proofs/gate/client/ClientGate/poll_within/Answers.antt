use Rattle.sasl_gate.proofs.ClientGates.{client_polled}
use Rattle.sasl_gate.proofs.gate.client.ClientGate.poll_within.Goals as goal

pub returns : goal.returns
returns g c = rw (← c.self.view_is) (client_polled g.L.Link _ _ _ _ _ c.poll_within.ensures)
