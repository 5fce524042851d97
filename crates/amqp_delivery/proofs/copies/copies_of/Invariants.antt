use Rattle.std.proofs.Common.{◌≡◌, length}
use Rattle.std.specs.Prelude.{All}
use Rattle.amqp_delivery.proofs.copies.copies_of.Given as goal

abbrev pub invariant-loop-made : goal.invariant-loop-made
invariant-loop-made l = All (λ s. s ≡ l.of) l.copies.items × (length l.copies.items ≡ l.made)
