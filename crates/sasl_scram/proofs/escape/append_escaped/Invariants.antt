use Rattle.std.proofs.Common.{◌≡◌, ◌++◌, take}
use Rattle.sasl_scram.specs.Texts.{escaped_of}
use Rattle.sasl_scram.proofs.escape.append_escaped.Given as goal

abbrev pub invariant-bytes : goal.invariant-bytes
invariant-bytes l = l.text ≡ l.fn.text ++ escaped_of (take l.byte-index l.user)
