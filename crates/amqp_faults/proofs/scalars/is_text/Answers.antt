use Rattle.amqp_faults.proofs.Made.{text_test}
use Rattle.amqp_faults.proofs.scalars.is_text.Goals as goal

pub returns : goal.returns
returns c = text_test c.from_utf8.result _ _ c.args.octets.now c.is_ok.result c.from_utf8.ensures.cases c.is_ok.ensures.value
