use Rattle.std.proofs.Common.{◌≡◌, length}
use Rattle.amqp_links.specs.State.{seen}
use Rattle.amqp_links.specs.Timing.{all_looked}
use Rattle.amqp_links.proofs.links.Links.look_at_all.Given as goal

abbrev pub invariant-loop-link : goal.invariant-loop-link
invariant-loop-link l = all_looked l.left (seen l.self) ≡ all_looked l.initial.left (seen l.fn.self)

abbrev pub decreases-loop-link : goal.decreases-loop-link
decreases-loop-link l = length l.left
