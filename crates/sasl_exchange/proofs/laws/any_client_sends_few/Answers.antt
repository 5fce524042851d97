use Rattle.sasl_exchange.proofs.AnyClients.{any_client_few}
use Rattle.sasl_exchange.proofs.laws.any_client_sends_few.Goals as goal

pub returns : goal.returns
returns c = λ x given sent h. any_client_few x given sent h
