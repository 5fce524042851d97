use Rattle.std.proofs.Common.{refl}
use Rattle.std.proofs.lemmas.Bool.{false≢true}
use Rattle.sasl_exchange.proofs.InitClients.{received_refusal, received_outcome}
use Rattle.sasl_exchange.proofs.init_client.InitClient.on_outcome.Goals as goal

pub returns-then-not-is_ok : goal.returns-then-not-is_ok
returns-then-not-is_ok c = received_refusal c.args.self.now c.args.outcome (λ e. false≢true (c.if-not-is_ok.ensures.1 e))

pub returns-in-AwaitsOutcome : goal.returns-in-AwaitsOutcome
returns-in-AwaitsOutcome c = rw (← c.self.view_is) (received_outcome _ c.args.outcome c.in-AwaitsOutcome.is (c.if-not-is_ok.ensures.0 refl))
