use Rattle.std.proofs.Common.{◌≡◌, drop}
use Rattle.amqp_links.specs.Numbering.{all_left}
use Rattle.amqp_links.specs.State.{seen}
use Rattle.amqp_links.proofs.links.Links.leave_all.Given as goal

-- what is left gives the whole
abbrev pub invariant-loop-info : goal.invariant-loop-info
invariant-loop-info l = all_left l.link (drop l.info-index l.infos) (seen l.self) ≡ all_left l.link l.infos (seen l.fn.self)
