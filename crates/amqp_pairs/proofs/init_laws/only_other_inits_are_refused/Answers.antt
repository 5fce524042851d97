use Rattle.amqp_pairs.proofs.InitLaws.{client_next, next_other, nothing_refused, refusing_other}
use Rattle.amqp_pairs.proofs.init_laws.only_other_inits_are_refused.Goals as goal

pub returns : goal.returns
returns c = record {
  listener = refusing_other;
  next_at_listener = next_other;
  client = nothing_refused;
  next_at_client = client_next;
}
