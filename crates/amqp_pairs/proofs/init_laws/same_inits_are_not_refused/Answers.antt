use Rattle.amqp_pairs.proofs.InitLaws.{next_ok, next_passes, no_client_cause, no_refusal}
use Rattle.amqp_pairs.proofs.init_laws.same_inits_are_not_refused.Goals as goal

pub returns : goal.returns
returns c = record {
  listener = no_refusal;
  passes = next_passes;
  next_at_listener = next_ok;
  next_at_client = no_client_cause;
}
