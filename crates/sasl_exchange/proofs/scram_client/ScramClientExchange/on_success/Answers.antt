use Rattle.sasl_exchange.proofs.ScramClients.{received_no_signature}
use Rattle.sasl_exchange.proofs.scram_client.ScramClientExchange.on_success.Goals as goal

pub returns-in-None : goal.returns-in-None
returns-in-None c = rw c.in-None.is (received_no_signature c.args.self.now c.requires)
