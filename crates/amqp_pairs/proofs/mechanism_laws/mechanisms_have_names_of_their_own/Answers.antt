use Rattle.amqp_pairs.proofs.Names.{anonymous_not_plain, name_once, scram_not_anonymous, scram_not_plain}
use Rattle.amqp_pairs.proofs.mechanism_laws.mechanisms_have_names_of_their_own.Goals as goal

pub returns : goal.returns
returns c = record {
  scram = name_once;
  scram_or_anonymous = scram_not_anonymous;
  scram_or_plain = scram_not_plain;
  anonymous_or_plain = anonymous_not_plain;
}
