use Rattle.std.proofs.Common.{ap, ◌∙◌}
use Rattle.sasl_exchange.specs.ScramServer.{ServerEnd}
use Rattle.sasl_exchange.proofs.ScramServers.{received_first}
use Rattle.sasl_exchange.proofs.scram_server.ScramServerExchange.on_client_first.Goals as goal

pub returns : goal.returns
returns g c =
    let answer = rw c.in-Err.ensures.same at c.refuse_text.ensures in
    let why = rw c.as_slice.ensures at c.in-Err.ensures.err in
    λ hostname. rw (← c.self.view_is)
    (received_first g.P.ScramCredentialProvider.stored _ c.args.text hostname c.in-Err.kind _ _ (ap (λ (x : ServerEnd _). x.stage) c.self.view_is ∙ c.requires) why answer)
