use Rattle.std.proofs.Common.{refl}
use Rattle.std.proofs.lemmas.Bool.{false≢true}
use Rattle.sasl_exchange.proofs.ScramClients.{received_refusal, received_outcome, received_end}
use Rattle.sasl_exchange.proofs.scram_client.ScramClientExchange.on_outcome.Goals as goal

pub returns-then-not-is_ok : goal.returns-then-not-is_ok
returns-then-not-is_ok c = received_refusal c.args.self.now c.args.outcome (λ e. false≢true (c.if-not-is_ok.ensures.1 e))

pub returns-in-AwaitsOutcome : goal.returns-in-AwaitsOutcome
returns-in-AwaitsOutcome c = received_outcome _ _ c.args.outcome _ _ (c.if-not-is_ok.ensures.0 refl) refl c.on_success.ensures

pub returns-in-AwaitsEnd : goal.returns-in-AwaitsEnd
returns-in-AwaitsEnd c =
    rw (c.pass.ensures.passed, c.pass.ensures.taken) (rw (← c.self.view_is) (received_end _ c.args.outcome c.in-AwaitsEnd.is (c.if-not-is_ok.ensures.0 refl)))
