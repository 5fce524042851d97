use Rattle.std.proofs.Common.{ap, ◌∙◌}
use Rattle.sasl_exchange.specs.ScramClient.{ClientEnd}
use Rattle.sasl_exchange.proofs.ScramClients.{received_challenge}
use Rattle.sasl_exchange.proofs.scram_client.ScramClientExchange.on_server_first.Goals as goal

pub returns : goal.returns
returns c =
    rw (← c.self.view_is, c.in-Err.ensures.same)
    (received_challenge _ c.args.text c.in-Err.kind _ (ap (λ (x : ClientEnd). x.stage) c.self.view_is ∙ c.requires) (rw c.as_slice.ensures at c.in-Err.ensures.err) c.refused_text.ensures)
