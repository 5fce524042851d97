use Rattle.amqp_sasl_bodies.specs.SaslBody.{sasl_body_again, sasl_body_valid}
use Rattle.amqp_sasl_bodies.proofs.laws.sasl_body_is_read_again.Goals as goal

pub returns : goal.returns
returns c = λ x. sasl_body_again x (sasl_body_valid x)
