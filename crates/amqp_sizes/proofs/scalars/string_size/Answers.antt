use Rattle.amqp_sizes.proofs.Texts.{string_of}
use Rattle.amqp_sizes.proofs.scalars.string_size.Goals as goal

pub returns : goal.returns
returns c = string_of c.text_size.result c.args.levels c.as_bytes.result.now c.args.string.now c.as_bytes.ensures c.text_size.ensures
