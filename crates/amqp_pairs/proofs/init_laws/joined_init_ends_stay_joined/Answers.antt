use Rattle.amqp_pairs.proofs.InitJoining.{init_client_sends, init_client_takes, init_listener_sends, init_listener_takes}
use Rattle.amqp_pairs.proofs.init_laws.joined_init_ends_stay_joined.Goals as goal

pub returns : goal.returns
returns c = record {
  client_sends = init_client_sends;
  client_takes = init_client_takes;
  listener_sends = init_listener_sends;
  listener_takes = init_listener_takes;
}
