use Rattle.amqp_pairs.proofs.InitJoining.{anonymous_begun, plain_begun}
use Rattle.amqp_pairs.proofs.init_laws.begun_init_ends_are_joined.Goals as goal

pub returns : goal.returns
returns c = record {
  with_anonymous = anonymous_begun;
  with_plain = plain_begun;
}
