use Rattle.std.proofs.Common.{◌≡◌, ◌++◌, drop}
use Rattle.amqp_show.specs.Picture.{marked_all}
use Rattle.amqp_show.proofs.picture.push_marked.Given as goal

abbrev pub invariant-loop-byte : goal.invariant-loop-byte
invariant-loop-byte l = l.out.items ++ marked_all (drop l.byte-index l.text) ≡ l.fn.out.items ++ marked_all l.text
