use Rattle.std.proofs.Common.{sym, subst, ap}
use Rattle.std.specs.Prelude.{IfOk, IfErr}
use Rattle.sasl_gate.specs.sasl_exchange.declared.server.ServerExchange.TheVariants as server
use Rattle.sasl_gate.specs.sasl_exchange.InitServer.{InitServerEnd}
use Rattle.sasl_scram.specs.States.{Account}
use Rattle.amqp_opening.specs.Admission.{Admission, account_by}
use Rattle.amqp_opening.specs.Authentication.{IsListenerMade, IsAccountRefusal}
use Rattle.amqp_opening.specs.Permission.{IsAllowedAdmission}
use Rattle.amqp_opening.proofs.authentication.server_exchange.Goals as goal

pub returns-in-Anonymous-clause-ok : goal.returns-in-Anonymous-clause-ok
returns-in-Anonymous-clause-ok c =
    subst (λ (d : Admission). IsListenerMade d (server.Init c.new.result)) c.in-Anonymous.ensures.admission (record { check_is = ap (λ (x : InitServerEnd Account). x.check) c.new.ensures; asked = tt })

pub returns-in-Plain-clause-ok : goal.returns-in-Plain-clause-ok
returns-in-Plain-clause-ok c = subst (λ (d : Admission). IfOk c.plain_exchange.result (IsListenerMade d)) c.in-Plain.ensures.admission c.plain_exchange.ensures.ok

pub returns-in-Plain-clause-err : goal.returns-in-Plain-clause-err
returns-in-Plain-clause-err c = subst (λ (d : Admission). IfErr c.plain_exchange.result (IsAccountRefusal (account_by d))) c.in-Plain.ensures.admission c.plain_exchange.ensures.err

pub scram_exchange-requires : goal.scram_exchange-requires
scram_exchange-requires c = subst IsAllowedAdmission (sym c.in-Scram.ensures.admission) c.requires

pub returns-in-Scram-clause-ok : goal.returns-in-Scram-clause-ok
returns-in-Scram-clause-ok c = subst (λ (d : Admission). IfOk c.scram_exchange.result (IsListenerMade d)) c.in-Scram.ensures.admission c.scram_exchange.ensures.ok

pub returns-in-Scram-clause-err : goal.returns-in-Scram-clause-err
returns-in-Scram-clause-err c = subst (λ (d : Admission). IfErr c.scram_exchange.result (IsAccountRefusal (account_by d))) c.in-Scram.ensures.admission c.scram_exchange.ensures.err
