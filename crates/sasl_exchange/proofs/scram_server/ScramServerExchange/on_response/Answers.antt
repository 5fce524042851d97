use Rattle.sasl_exchange.proofs.ScramServers.{received_early_response, received_final}
use Rattle.sasl_exchange.proofs.scram_server.ScramServerExchange.on_response.Goals as goal

pub returns-in_default : goal.returns-in_default
returns-in_default g c =
    rw c.refuse.ensures
    (rw (← c.self.view_is) (received_early_response g.P.ScramCredentialProvider.stored _ c.args.response (rw (← c.self.view_is) at c.requires) c.in_default.not-AwaitsResponse))

pub returns : goal.returns
returns g c =
    let answer = rw c.in-Err.ensures.same at c.refuse_text.ensures in
    let why = rw c.as_slice.ensures at c.in-Err.ensures.err in
    rw (← c.self.view_is) (received_final g.P.ScramCredentialProvider.stored _ c.args.response c.in-Err.kind _ _ c.in-AwaitsResponse.is why answer)
