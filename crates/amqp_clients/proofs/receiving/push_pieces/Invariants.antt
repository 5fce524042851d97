use Rattle.std.proofs.Common.{◌≡◌, ◌++◌, true, drop, flat_map}
use Rattle.amqp_shown.specs.Bytes.{escaped}
use Rattle.amqp_clients.proofs.receiving.push_pieces.Given as goal

abbrev pub invariant-loop-piece : goal.invariant-loop-piece
invariant-loop-piece l = l.out.items ++ flat_map (escaped true) (drop l.piece-index l.pieces) ≡ l.fn.out.items ++ flat_map (escaped true) l.pieces
