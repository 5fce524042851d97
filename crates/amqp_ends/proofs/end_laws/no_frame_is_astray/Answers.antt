use Rattle.amqp_ends.proofs.Streams.{meets_unsaid}
use Rattle.amqp_ends.proofs.end_laws.no_frame_is_astray.Goals as goal

pub returns : goal.returns
returns c = meets_unsaid
