use Rattle.amqp_data.specs.View.{view}
use Rattle.amqp_body_faults.specs.Sasl.{bytes_behind}
use Rattle.amqp_body_faults.proofs.Unframed.{bytes_left}
use Rattle.amqp_body_faults.proofs.sasl.value_fault.Goals as goal

pub returns-in-Ok-clause-wrong : goal.returns-in-Ok-clause-wrong
returns-in-Ok-clause-wrong c =
    bytes_behind c.args.input.now (view c.in_ok-value.value) c.in_ok-value.used c.in_ok-value.ensures.0
    (bytes_left c.args.input.now (view c.in_ok-value.value) c.in_ok-value.used c.in-Ok.body c.in_ok-value.ensures.0 c.in-Ok.ensures c.requires.none)
