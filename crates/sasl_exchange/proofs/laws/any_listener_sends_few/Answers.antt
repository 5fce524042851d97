use Rattle.sasl_exchange.proofs.AnyServers.{any_server_few}
use Rattle.sasl_exchange.proofs.laws.any_listener_sends_few.Goals as goal

pub returns : goal.returns
returns g c = λ x given sent h. any_server_few g.Q.PlainCredentialProvider.passwords g.P.ScramCredentialProvider.stored x given sent h
