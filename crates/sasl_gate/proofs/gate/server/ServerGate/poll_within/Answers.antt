use Rattle.sasl_gate.proofs.ServerGates.{server_polled}
use Rattle.sasl_gate.proofs.gate.server.ServerGate.poll_within.Goals as goal

pub returns : goal.returns
returns g c =
    rw (← c.self.view_is)
    (server_polled g.Q.PlainCredentialProvider.passwords g.P.ScramCredentialProvider.stored g.L.Link _ _ _ _ _ c.poll_within.ensures)
