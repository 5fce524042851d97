use Rattle.std.proofs.Common.{◌≡◌, ◌++◌, length, option_map}
use Rattle.amqp_script.specs.Escape.{unescaped}
use Rattle.amqp_script.proofs.script.escape.unescape.Given as goal

abbrev pub invariant-units : goal.invariant-units
invariant-units l = option_map (λ bytes. l.bytes.items ++ bytes) (unescaped l.rest) ≡ unescaped l.fn.text

abbrev pub decreases-units : goal.decreases-units
decreases-units l = length l.rest
