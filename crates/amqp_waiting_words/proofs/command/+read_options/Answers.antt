use Rattle.std.proofs.Common.{◌≡◌, ◌∙◌, sym}
use Rattle.amqp_waiting_words.specs.declared.command.OptionRead.TheVariants as read
use Rattle.amqp_waiting_words.specs.Command.{option_in}
use Rattle.amqp_waiting_words.proofs.Behind.{options_behind}
use Rattle.amqp_waiting_words.proofs.command.+read_options.Goals as goal

pub returns-in-Read : goal.returns-in-Read
returns-in-Read t c =
    let same : option_in c.args.options c.word-item.result c.value-item.result ≡ read.Read c.in-Read.read = rw (sym c.as_bytes.ensures, sym c.as_bytes-2.ensures) (sym c.read_option.ensures ∙ c.in-Read.is) in
    rw (options_behind c.args.options c.in-Read.read c.word-item.result c.value-item.result c.args.words.now c.in-len2-up.len_at_least c.word-item.is c.value-item.is same) c.read_options.ensures
