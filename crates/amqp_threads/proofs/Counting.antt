-- How many calls seats made.
use Rattle.std.specs.Prelude.{◌≡◌, ◌+◌, List, [], ◌∷◌, ◌++◌, length}
use Rattle.std.proofs.Common.{arith}
use Rattle.amqp_threads.specs.Seats.{Seat, calls_of}

-- the calls of the seats, one seat more at the end
pub calls_push : (ss : List Seat) (s : Seat) → calls_of (ss ++ s ∷ []) ≡ calls_of ss + length s.receipts
calls_push [] s = omega arith
calls_push (t ∷ ss) s = let h = calls_push ss s in omega arith
