use Rattle.amqp_sizes.proofs.Texts.{binary_of}
use Rattle.amqp_sizes.proofs.scalars.binary_size.Goals as goal

pub returns : goal.returns
returns c = binary_of c.text_size.result c.args.levels c.as_slice.result.now c.args.binary.now c.as_slice.ensures c.text_size.ensures
