use Rattle.std.proofs.Common.{◌≡◌, ap, ◌∙◌}
use Rattle.sasl_exchange.specs.ScramServer.{ServerEnd}
use Rattle.sasl_exchange.proofs.ScramServers.{received_late_init, received_other_init}
use Rattle.sasl_exchange.proofs.scram_server.ScramServerExchange.on_init.Goals as goal

pub returns-in_default : goal.returns-in_default
returns-in_default g c =
    rw c.refuse.ensures
    (rw (← c.self.view_is) (received_late_init g.P.ScramCredentialProvider.stored _ c.args.init (rw (← c.self.view_is) at c.requires) c.in_default.not-AwaitsInit))

pub returns-in-Some : goal.returns-in-Some
returns-in-Some g c =
    let own : c.hash.result ≡ c.args.self.now.hash = c.hash.ensures ∙ ap (λ (x : ServerEnd _). x.hash) c.self.view_is in
    rw (c.in-Some.ensures.some, own) (c.on_client_first.ensures c.args.init.hostname)

pub returns-in-None : goal.returns-in-None
returns-in-None g c =
    let why = rw c.hash.ensures at c.in-None.ensures.none in
    rw c.refuse-in-None.ensures
    (rw (← c.self.view_is) (received_other_init g.P.ScramCredentialProvider.stored _ c.args.init c.in-AwaitsInit.is why))
