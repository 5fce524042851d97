use Rattle.amqp_pairs.proofs.Unlike.{client_next, client_refuses, list, no_client_cause, no_listener_cause, nothing, restless}
use Rattle.amqp_pairs.proofs.mechanism_laws.other_mechanisms_do_not_meet.Goals as goal

pub returns : goal.returns
returns c = record {
  nothing = nothing;
  list = list;
  client = no_client_cause;
  next_at_client = client_next;
  refused = client_refuses;
  listener = no_listener_cause;
  restless = restless;
}
