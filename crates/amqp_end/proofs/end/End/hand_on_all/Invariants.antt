use Rattle.std.proofs.Common.{◌≡◌, ◌≤◌, ◌+◌, ◌^◌, ℕ}
use Rattle.amqp_end.specs.Goes.{GoesOn}
use Rattle.amqp_end.specs.Handed.{HandedOver}
use Rattle.amqp_end.proofs.end.End.hand_on_all.Given as goal

abbrev pub invariant-handed : goal.invariant-handed
invariant-handed g l = record {
  goes : (at : ℕ) → GoesOn g.L.Link at l.fn.self l.self;
  connection : l.self.connection ≡ l.fn.self.connection;
  over : (many : ℕ) × (2 ^ 62 ≤ many + l.left) × ((at : ℕ) → HandedOver g.L.Link at many l.fn.self l.self);
}

abbrev pub decreases-handed : goal.decreases-handed
decreases-handed g l = l.left
