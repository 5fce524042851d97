use Rattle.std.proofs.Common.{◌≡◌, ℕ, ◌+◌, ◌^◌}
use Rattle.amqp_peer.specs.Held.{IsLate}
use Rattle.amqp_peer.specs.Runs.{Worked}
use Rattle.amqp_peer.proofs.peer.Peer.go_on.Given as goal

abbrev pub invariant-steps : goal.invariant-steps
invariant-steps g l = (n : ℕ) × (n + l.left ≡ 2 ^ 62) × Worked g.L.Link l.fn.at n l.fn.self l.self × IsLate l.self.held × (l.self.failed ≡ l.fn.self.failed)

abbrev pub decreases-steps : goal.decreases-steps
decreases-steps g l = l.left
