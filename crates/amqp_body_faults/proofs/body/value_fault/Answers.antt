use Rattle.amqp_data.specs.View.{view}
use Rattle.amqp_body_faults.specs.Bodies.{bytes_behind}
use Rattle.amqp_body_faults.proofs.Unframed.{unframed}
use Rattle.amqp_body_faults.proofs.body.value_fault.Goals as goal

pub returns-in-Ok-clause-wrong : goal.returns-in-Ok-clause-wrong
returns-in-Ok-clause-wrong c =
    bytes_behind c.args.input.now (view c.in_ok-value.value) c.in_ok-value.used c.in-Ok.performative c.in_ok-value.ensures.0 c.in-Ok.ensures
    (unframed c.args.input.now (view c.in_ok-value.value) c.in_ok-value.used c.in-Ok.performative c.in_ok-value.ensures.0 c.in-Ok.ensures c.requires.none)
