use Rattle.amqp_pairs.proofs.Inits.{anonymous_passes, plain_passed, plain_passes}
use Rattle.amqp_pairs.proofs.init_laws.inits_pass_exactly.Goals as goal

pub returns : goal.returns
returns c = record {
  with_anonymous = anonymous_passes;
  with_plain = λ user password hostname account u. (plain_passed user password hostname account u, plain_passes user password hostname account u);
}
