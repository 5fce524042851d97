use Rattle.std.proofs.Common.{◌≡◌, drop}
use Rattle.amqp_links.specs.May.{are_given}
use Rattle.amqp_links.specs.State.{seen}
use Rattle.amqp_links.proofs.links.Links.are_given.Given as goal

-- what is left gives the whole
abbrev pub invariant-loop-delivery : goal.invariant-loop-delivery
invariant-loop-delivery l = are_given l.link (drop l.delivery-index l.deliveries) (seen l.self) ≡ are_given l.link l.deliveries (seen l.self)
