use Rattle.std.proofs.Common.{◌≡◌, length}
use Rattle.amqp_links.specs.Accepting.{heard_early}
use Rattle.amqp_links.specs.State.{seen}
use Rattle.amqp_links.proofs.links.Links.hear_early.Given as goal

-- what is left gives the whole
abbrev pub invariant-loop-input : goal.invariant-loop-input
invariant-loop-input l = heard_early l.session l.link l.remote l.queue (seen l.self) ≡ heard_early l.session l.link l.remote l.fn.queue (seen l.fn.self)

abbrev pub decreases-loop-input : goal.decreases-loop-input
decreases-loop-input l = length l.queue
