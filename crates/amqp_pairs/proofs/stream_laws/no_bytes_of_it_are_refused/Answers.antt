use Rattle.amqp_pairs.proofs.Frames.{header_taken, frames_taken}
use Rattle.amqp_pairs.proofs.stream_laws.no_bytes_of_it_are_refused.Goals as goal

pub returns : goal.returns
returns c = record {
  header = header_taken;
  frame = frames_taken;
}
