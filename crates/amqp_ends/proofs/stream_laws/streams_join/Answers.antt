use Rattle.amqp_ends.proofs.Parts.{streams}
use Rattle.amqp_ends.proofs.stream_laws.streams_join.Goals as goal

pub returns : goal.returns
returns c = streams
