use Rattle.std.proofs.Common.{◌≡◌, ℕ, length}
use Rattle.amqp_sessions.specs.State.{seen}
use Rattle.amqp_end.specs.Goes.{GoesOn}
use Rattle.amqp_end.specs.Handed.{KeepsBetween}
use Rattle.amqp_end.proofs.end.End.give_back.Given as goal

abbrev pub invariant-channels : goal.invariant-channels
invariant-channels g l = record {
  goes : (at : ℕ) → GoesOn g.L.Link at l.fn.self l.self;
  output : (seen l.self.sessions).output ≡ (seen l.fn.self.sessions).output;
  between : KeepsBetween l.fn.self l.self;
}

abbrev pub decreases-channels : goal.decreases-channels
decreases-channels g l = length (seen l.self.sessions).freed
