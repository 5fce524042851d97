use Rattle.std.proofs.Common.{◌<◌, ◌^◌, length, refl, arith}
use Rattle.amqp_data.specs.Data.{binary}
use Rattle.amqp_value.proofs.Shortest.{wrote_scalar, binary_sized, no_binary}
use Rattle.amqp_value.proofs.writing.write_binary.Goals as goal

pub returns-in_default : goal.returns-in_default
returns-in_default c = (refl, omega arith, no_binary c.args.bytes.now c.in_default.ensures)

pub returns : goal.returns
returns c =
    let short : length c.args.bytes.now < 2 ^ 32 = omega (arith, c.in-Some.ensures) in
    let sized = binary_sized c.args.bytes.now short in
    (wrote_scalar c.args.out.now c.put_binary.new.out (binary c.args.bytes.now) (record { sized = sized; nests = omega arith }) c.in_ok-put_binary.ensures, sized, omega arith)
