use Rattle.sasl_exchange.proofs.ScramClients.{sent_empty}
use Rattle.sasl_exchange.proofs.scram_client.ScramClientExchangeExchange.on_sent.Goals as goal
use Rattle.sasl_exchange.proofs.scram_client.ScramClientExchangeExchange.on_sent.Goals.{in-OwesResponse-3, in-AwaitsMechanisms-3}

pub returns-in-OwesEmptyResponse-clause-grows : goal.returns-in-OwesEmptyResponse-clause-grows
returns-in-OwesEmptyResponse-clause-grows c =
    elim c.match-self-4.branch [
      | in-OwesResponse-3 w ↦ rw (← c.self.view_is, w.self-is) (sent_empty _ c.in-OwesEmptyResponse.is)
      | in-AwaitsMechanisms-3 w ↦ rw (← c.self.view_is, w.self-is) (sent_empty _ c.in-OwesEmptyResponse.is)
    ]
