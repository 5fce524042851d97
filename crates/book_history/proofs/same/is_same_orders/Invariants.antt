use Rattle.std.proofs.Common.{◌≡◌, take}
use Rattle.book_history.proofs.same.is_same_orders.Given as goal

abbrev pub invariant-loop-i : goal.invariant-loop-i
invariant-loop-i l = take l.i l.left ≡ take l.i l.right
