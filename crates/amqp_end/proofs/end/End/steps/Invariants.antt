use Rattle.std.proofs.Common.{◌<◌, ◌^◌}
use Rattle.amqp_peer.specs.Held.{IsLate}
use Rattle.amqp_end.specs.Goes.{GoesOn}
use Rattle.amqp_end.specs.Handed.{KeepsHanded}
use Rattle.amqp_end.specs.Rests.{Rests}
use Rattle.amqp_end.proofs.end.End.steps.Given as goal

abbrev pub invariant-steps : goal.invariant-steps
invariant-steps g l = record {
  goes : GoesOn g.L.Link l.fn.at l.fn.self l.self;
  late : IsLate l.self.connection.held;
  kept : KeepsHanded g.L.Link l.fn.at l.fn.self l.self;
  rests : l.left < 2 ^ 62 → Rests l.self;
}

abbrev pub decreases-steps : goal.decreases-steps
decreases-steps g l = l.left
