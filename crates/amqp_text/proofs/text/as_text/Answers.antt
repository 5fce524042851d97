use Rattle.std.proofs.lemmas.Str.{IsUtf8-from_ascii}
use Rattle.amqp_text.proofs.text.as_text.Goals as goal

pub from_utf8_unchecked-requires : goal.from_utf8_unchecked-requires
from_utf8_unchecked-requires c =
    let ascii = rw c.if-is_ascii.true at c.is_ascii.ensures.cases in
    IsUtf8-from_ascii c.args.bytes.now ascii
