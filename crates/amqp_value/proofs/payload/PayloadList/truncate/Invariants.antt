use Rattle.std.proofs.Common.{◌≡◌, ◌<◌, length}
use Rattle.std.specs.Prelude.{All}
use Rattle.amqp_value.specs.Pieces.{joined, front_pieces}
use Rattle.amqp_value.proofs.payload.PayloadList.truncate.Given as goal

abbrev pub invariant-loop-last : goal.invariant-loop-last
invariant-loop-last l = record {
  total : l.self-inside.total ≡ length (joined l.self-inside.pieces.items);
  filled : All (λ piece. 0 < length piece) l.self-inside.pieces.items;
  front : front_pieces l.size l.self-inside.pieces.items ≡ front_pieces l.size l.fn.self;
}

abbrev pub decreases-loop-last : goal.decreases-loop-last
decreases-loop-last l = length l.self-inside.pieces.items
