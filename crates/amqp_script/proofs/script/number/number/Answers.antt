use Rattle.std.proofs.Common.{◌≡◌, true, sym, arith}
use Rattle.std.specs.declared.num.ParseIntError.{ParseIntError}
use Rattle.amqp_script.specs.Number.{is_decimal as decimal_test}
use Rattle.amqp_script.proofs.Numbers.{decimal_utf8, number_err}
use Rattle.amqp_script.proofs.script.number.number.Goals as goal

pub returns-in_default : goal.returns-in_default
returns-in_default c =
    let decimal : decimal_test c.args.digits.now ≡ true = cc in
    absurd (c.in_default.ensures.cases.0 (decimal_utf8 c.args.digits.now decimal))

pub returns-in_default-parse : goal.returns-in_default-parse
returns-in_default-parse c =
    let decimal : decimal_test c.args.digits.now ≡ true = cc in
    sym (number_err ParseIntError c.args.most c.args.digits.now c.in_default-parse.field-0 (omega arith) decimal (rw c.in-Ok.ensures.cases.0 at c.in_default-parse.ensures.value.0))
