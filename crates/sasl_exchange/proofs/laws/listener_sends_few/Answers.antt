use Rattle.sasl_exchange.proofs.ScramServers.{server_few}
use Rattle.sasl_exchange.proofs.laws.listener_sends_few.Goals as goal

pub returns : goal.returns
returns g c = λ x given sent h. server_few g.P.ScramCredentialProvider.stored x given sent h
