use Rattle.std.proofs.Common.{◌≡◌, ◌++◌, drop}
use Rattle.amqp_links.specs.Disposers.{infos_of}
use Rattle.amqp_links.specs.State.{seen}
use Rattle.amqp_links.proofs.links.Links.infos_of.Given as goal

-- what is left gives the whole
abbrev pub invariant-loop-delivery : goal.invariant-loop-delivery
invariant-loop-delivery l = l.infos.items ++ infos_of (drop l.delivery-index l.deliveries) (seen l.self).deliveries ≡ infos_of l.deliveries (seen l.self).deliveries
