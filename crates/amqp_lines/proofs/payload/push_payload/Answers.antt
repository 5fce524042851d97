use Rattle.std.proofs.Common.{arith}
use Rattle.std.proofs.lemmas.Bool.Decides.{nat_tests}
use Rattle.amqp_lines.proofs.Payloads.{adds_empty, adds_size}
use Rattle.amqp_lines.proofs.payload.push_payload.Goals as goal

pub returns-then-is_empty : goal.returns-then-is_empty
returns-then-is_empty c = adds_empty c.args.transfer.now c.args.payload.now _ (grind (arith, nat_tests))

pub returns : goal.returns
returns c = adds_size c.args.transfer.now c.args.payload.now _ _ (grind (arith, nat_tests)) (λ whole m spells. absurd (grind (arith, nat_tests))) c.in_ok-push_size.ensures
