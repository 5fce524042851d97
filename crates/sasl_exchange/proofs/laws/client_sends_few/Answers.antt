use Rattle.sasl_exchange.proofs.ScramClients.{client_few}
use Rattle.sasl_exchange.proofs.laws.client_sends_few.Goals as goal

pub returns : goal.returns
returns c = λ x given sent h. client_few x given sent h
