-- What the body of a SASL frame says (OASIS AMQP 1.0, part 5, section 5.3.2).
use Rattle.std.specs.Prelude.{◌≡◌, ℕ, ◌≤◌, List, Some}
use Rattle.amqp_described.specs.amqp_data.Data.{Amqp, depth}
use Rattle.amqp_described.specs.amqp_value.Grammar.{Spells}
use Rattle.amqp_sasl_bodies.specs.declared.sasl_body.SaslBody.{SaslBody}
use Rattle.amqp_sasl_bodies.specs.SaslBody.{sasl_body_in}

-- the bytes of a body: a value that says it
pub record SpellsSasl (text : List ℕ) (body : SaslBody) : Type 0 where
  pub value : Amqp
  pub spelled : Spells text value
  pub nests : depth value ≤ 34
  pub says : sasl_body_in value ≡ Some body
