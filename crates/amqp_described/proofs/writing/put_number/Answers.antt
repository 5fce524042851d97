use Rattle.std.proofs.Common.{ℕ, subst}
use Rattle.amqp_value.specs.amqp_data.Data.{scalar, ulong}
use Rattle.amqp_value.specs.Writing.{Writes}
use Rattle.amqp_described.proofs.Numbered.{number_put}
use Rattle.amqp_described.proofs.writing.put_number.Goals as goal

pub returns : goal.returns
returns c =
    let put = subst (λ (z : ℕ). Writes c.put_value.result c.push.new.self c.put_value.new.out (scalar (ulong z)) 32) c.from.ensures c.put_value.ensures in
    number_put c.put_value.result c.based.result c.push.new.self c.put_value.new.out c.args.out.now c.args.number c.based.ensures c.in_ok-push.ensures.ok put
