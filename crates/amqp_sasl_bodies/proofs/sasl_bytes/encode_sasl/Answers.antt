use Rattle.std.proofs.Common.{[], refl, subst}
use Rattle.amqp_described.specs.amqp_composites.declared.kind.CompositeKind.{CompositeKind}
use Rattle.amqp_described.specs.amqp_composites.Kind.{number_of}
use Rattle.amqp_sasl_bodies.specs.SaslBody.{kind_of_sasl_body, sasl_body_fields, of_sasl_body}
use Rattle.amqp_described.specs.amqp_data.Data.{item, no_items}
use Rattle.amqp_described.specs.Bodies.{Puts}
use Rattle.amqp_described.proofs.BodyWritten.{encodes}
use Rattle.amqp_sasl_bodies.proofs.SaslWritten.{spells_sasl}
use Rattle.amqp_sasl_bodies.proofs.sasl_bytes.encode_sasl.Goals as goal

pub returns-clause-bytes : goal.returns-clause-bytes
returns-clause-bytes c =
    let body = c.args.body.now in
    let put = subst (λ (z : CompositeKind). Puts c.put_alone.result c.to_list.result (number_of z) []) c.kind.ensures c.put_alone.ensures in
    encodes c.put_alone.result c.to_list.result (kind_of_sasl_body body) (sasl_body_fields body) [] (item (of_sasl_body body) no_items) [] refl refl put c.to_list.ensures.list

pub returns-clause-spelled : goal.returns-clause-spelled
returns-clause-spelled c =
    let put = subst (λ (z : CompositeKind). Puts c.put_alone.result c.to_list.result (number_of z) []) c.kind.ensures c.put_alone.ensures in
    spells_sasl c.put_alone.result c.to_list.result c.args.body.now put c.to_list.ensures.list c.to_list.ensures.valid
