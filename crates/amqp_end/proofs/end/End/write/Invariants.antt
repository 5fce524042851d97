use Rattle.std.proofs.Common.{◌≡◌, ℕ, true, length}
use Rattle.amqp_peer.specs.Hearing.{hears_in, IsOpenIn}
use Rattle.amqp_peer.specs.Held.{IsLate}
use Rattle.amqp_sessions.specs.State.{seen}
use Rattle.amqp_end.specs.Goes.{GoesOn}
use Rattle.amqp_end.specs.Handed.{KeepsBetween}
use Rattle.amqp_end.proofs.end.End.write.Given as goal

abbrev pub invariant-frames : goal.invariant-frames
invariant-frames g l = record {
  goes : (at : ℕ) → GoesOn g.L.Link at l.fn.self l.self;
  late : IsLate l.self.connection.held;
  opened : hears_in l.self.connection.held ≡ true → IsOpenIn l.self.connection.held;
  between : KeepsBetween l.fn.self l.self;
}

abbrev pub decreases-frames : goal.decreases-frames
decreases-frames g l = length (seen l.self.sessions).output
