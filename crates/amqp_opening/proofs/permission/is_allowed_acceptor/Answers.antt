use Rattle.std.proofs.Common.{subst, IsTrue, ◌↔◌}
use Rattle.amqp_opening.specs.Admission.{Admission}
use Rattle.amqp_opening.specs.Permission.{IsAllowedAdmission}
use Rattle.amqp_opening.proofs.permission.is_allowed_acceptor.Goals as goal

pub returns-in-Scram : goal.returns-in-Scram
returns-in-Scram c = subst (λ (d : Admission). IsTrue c.is_allowed_accept.result ↔ IsAllowedAdmission d) c.in-Scram.ensures.admission c.is_allowed_accept.ensures
