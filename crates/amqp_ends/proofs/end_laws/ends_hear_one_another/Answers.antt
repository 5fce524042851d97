use Rattle.amqp_ends.proofs.Hearing.{hears}
use Rattle.amqp_ends.proofs.end_laws.ends_hear_one_another.Goals as goal

pub returns : goal.returns
returns c = λ h far m. hears h far m.left m.tied m.far_tied m.reads
