use Rattle.amqp_pairs.proofs.Joining.{client_sends, client_takes, listener_sends, listener_takes}
use Rattle.amqp_pairs.proofs.joining_laws.joined_ends_stay_joined.Goals as goal

pub returns : goal.returns
returns c = record {
  client_sends = client_sends;
  client_takes = client_takes;
  listener_sends = listener_sends;
  listener_takes = listener_takes;
}
