use Rattle.std.proofs.Common.{◌≡◌, drop}
use Rattle.amqp_links.specs.State.{seen}
use Rattle.amqp_links.specs.Stops.{all_concluded}
use Rattle.amqp_links.proofs.links.Links.conclude_links.Given as goal

-- what is left gives the whole
abbrev pub invariant-loop-link : goal.invariant-loop-link
invariant-loop-link l = all_concluded (drop l.link-index l.links) (seen l.self) ≡ all_concluded l.links (seen l.fn.self)
