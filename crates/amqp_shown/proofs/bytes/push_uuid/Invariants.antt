use Rattle.std.proofs.Common.{◌≡◌, ◌++◌, drop}
use Rattle.amqp_shown.specs.Bytes.{uuid_from}
use Rattle.amqp_shown.proofs.bytes.push_uuid.Given as goal

abbrev pub invariant-loop-place : goal.invariant-loop-place
invariant-loop-place l = l.out.items ++ uuid_from l.place (drop l.place l.bytes) ≡ l.fn.out.items ++ uuid_from 0 l.bytes
