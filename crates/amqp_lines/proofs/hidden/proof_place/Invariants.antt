use Rattle.std.proofs.Common.{◌≡◌, drop}
use Rattle.amqp_lines.specs.Hidden.{proof_from}
use Rattle.amqp_lines.proofs.hidden.proof_place.Given as goal

abbrev pub invariant-loop-place : goal.invariant-loop-place
invariant-loop-place l = proof_from l.read l.place (drop l.place l.response) ≡ proof_from 0 0 l.response
