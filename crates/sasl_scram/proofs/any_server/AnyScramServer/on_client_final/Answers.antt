use Rattle.sasl_scram.proofs.any_server.AnyScramServer.on_client_final.Goals as goal
use Rattle.sasl_scram.proofs.any_server.AnyScramServer.on_client_final.Goals.{in-Sha1, in-Sha256, in-Sha512}

pub returns-clause-err : goal.returns-clause-err
returns-clause-err g c =
    elim c.match-self.branch [
      | in-Sha1 w ↦ rw (← c.self.view_is, w.result-is, w.in-Sha1.is) w.on_client_final.ensures.err
      | in-Sha256 w ↦ rw (← c.self.view_is, w.result-is, w.in-Sha256.is) w.on_client_final-in-Sha256.ensures.err
      | in-Sha512 w ↦ rw (← c.self.view_is, w.result-is, w.in-Sha512.is) w.on_client_final-in-Sha512.ensures.err
    ]
