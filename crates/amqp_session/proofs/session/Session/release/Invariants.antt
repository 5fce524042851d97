use Rattle.std.proofs.Common.{◌≡◌}
use Rattle.amqp_session.specs.State.{seen}
use Rattle.amqp_session.specs.Hold.{released}
use Rattle.amqp_session.proofs.session.Session.release.Given as goal

abbrev pub invariant-loop-self : goal.invariant-loop-self
invariant-loop-self l = released (seen l.self) ≡ released (seen l.fn.self)

abbrev pub decreases-loop-self : goal.decreases-loop-self
decreases-loop-self l = l.self.windows.allowance
