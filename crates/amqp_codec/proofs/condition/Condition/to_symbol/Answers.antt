use Rattle.std.proofs.Common.{ℕ, ◌<◌, List, Err, sym, ap, subst}
use Rattle.std.specs.List.{All}
use Rattle.amqp_codec.proofs.Conditions.{ascii}
use Rattle.amqp_codec.proofs.condition.Condition.to_symbol.Goals as goal

pub unreachable-requires : goal.unreachable-requires
unreachable-requires c =
    let IsAscii : List ℕ → Type 0 = λ s. All (λ b. b < 128) s in
    c.in-Err-NotAscii.ensures.refused (ap Err c.in-Err-NotAscii.field-0-is) (subst IsAscii (sym c.as_str.ensures) (ascii c.args.self))
