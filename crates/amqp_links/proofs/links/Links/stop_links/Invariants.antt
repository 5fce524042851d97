use Rattle.std.proofs.Common.{◌≡◌, drop}
use Rattle.amqp_links.specs.State.{seen}
use Rattle.amqp_links.specs.Stops.{all_stopped}
use Rattle.amqp_links.proofs.links.Links.stop_links.Given as goal

-- what is left gives the whole
abbrev pub invariant-loop-link : goal.invariant-loop-link
invariant-loop-link l = all_stopped (drop l.link-index l.links) l.reason (seen l.self) ≡ all_stopped l.links l.reason (seen l.fn.self)
