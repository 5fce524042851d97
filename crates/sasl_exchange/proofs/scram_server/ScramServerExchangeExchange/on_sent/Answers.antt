use Rattle.sasl_exchange.proofs.ScramServers.{sent_refusal}
use Rattle.sasl_exchange.proofs.scram_server.ScramServerExchangeExchange.on_sent.Goals as goal
use Rattle.sasl_exchange.proofs.scram_server.ScramServerExchangeExchange.on_sent.Goals.{in-OwesChallenge-4, in-OwesOutcome-4, in-OwesMechanisms-4}

pub returns-in-OwesRefusal-clause-grows : goal.returns-in-OwesRefusal-clause-grows
returns-in-OwesRefusal-clause-grows g c =
    elim c.match-self-5.branch [
      | in-OwesChallenge-4 w ↦ rw (← c.self.view_is, w.self-is) (sent_refusal g.P.ScramCredentialProvider.stored _ c.in-OwesRefusal.code c.in-OwesRefusal.is)
      | in-OwesOutcome-4 w ↦ rw (← c.self.view_is, w.self-is) (sent_refusal g.P.ScramCredentialProvider.stored _ c.in-OwesRefusal.code c.in-OwesRefusal.is)
      | in-OwesMechanisms-4 w ↦ rw (← c.self.view_is, w.self-is) (sent_refusal g.P.ScramCredentialProvider.stored _ c.in-OwesRefusal.code c.in-OwesRefusal.is)
    ]
