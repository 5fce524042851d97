use Rattle.std.proofs.Common.{refl}
use Rattle.amqp_session_world.proofs.Telling.{ends_tell}
use Rattle.amqp_session_world.proofs.laws.ends_tell.Goals as goal

pub returns-clause-begins : goal.returns-clause-begins
returns-clause-begins g c link kind name = refl

pub returns-clause-goes : goal.returns-clause-goes
returns-clause-goes g c = ends_tell g.L.Link
