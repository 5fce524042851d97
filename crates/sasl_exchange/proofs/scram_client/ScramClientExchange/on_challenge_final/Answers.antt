use Rattle.std.proofs.Common.{ap, ◌∙◌, refl, inr}
use Rattle.sasl_exchange.specs.ScramClient.{ClientEnd}
use Rattle.sasl_exchange.proofs.ScramClients.{received_checked, received_final_refused}
use Rattle.sasl_exchange.proofs.scram_client.ScramClientExchange.on_challenge_final.Goals as goal

pub returns-in-Ok : goal.returns-in-Ok
returns-in-Ok c =
    rw (← c.self.view_is, c.in-Ok.ensures.ok)
    (received_checked _ c.args.text (ap (λ (x : ClientEnd). x.stage) c.self.view_is ∙ c.requires) (rw c.as_slice.ensures at c.in-Ok.ensures.check))

pub returns : goal.returns
returns c =
    rw (← c.self.view_is, c.in-Err.ensures.same)
    (received_final_refused _ c.args.text _ c.in-Err.kind (inr refl) (ap (λ (x : ClientEnd). x.stage) c.self.view_is ∙ c.requires) (rw c.as_slice.ensures at c.in-Err.ensures.err))
