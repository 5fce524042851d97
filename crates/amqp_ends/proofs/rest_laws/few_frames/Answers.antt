use Rattle.amqp_ends.proofs.QuietFew.{few_frames}
use Rattle.amqp_ends.proofs.rest_laws.few_frames.Goals as goal

pub returns : goal.returns
returns c = few_frames
