use Rattle.amqp_sizes.proofs.Texts.{symbol_of}
use Rattle.amqp_sizes.proofs.scalars.symbol_size.Goals as goal

pub returns : goal.returns
returns c = symbol_of c.text_size.result c.args.levels c.as_slice.result.now c.args.symbol.now c.as_slice.ensures.value c.text_size.ensures
