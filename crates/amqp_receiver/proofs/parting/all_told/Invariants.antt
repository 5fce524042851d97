use Rattle.std.proofs.Common.{◌≡◌}
use Rattle.amqp_receiver.specs.Parting.{told_below}
use Rattle.amqp_receiver.proofs.parting.all_told.Given as goal

-- what was told so far
abbrev pub invariant-loop-place : goal.invariant-loop-place
invariant-loop-place l = l.deliveries.items ≡ told_below l.book.book.entries l.place
