use Rattle.std.proofs.Common.{ℕ, length}
use Rattle.amqp_end.specs.Goes.{GoesOn}
use Rattle.amqp_end.specs.Handed.{KeepsHanded}
use Rattle.amqp_end.proofs.Waits.{incoming_of}
use Rattle.amqp_end.proofs.end.End.hear.Given as goal

abbrev pub invariant-frames : goal.invariant-frames
invariant-frames g l = record {
  goes : (at : ℕ) → GoesOn g.L.Link at l.fn.self l.self;
  kept : (at : ℕ) → KeepsHanded g.L.Link at l.fn.self l.self;
}

abbrev pub decreases-frames : goal.decreases-frames
decreases-frames g l = length (incoming_of l.self.connection.held)
