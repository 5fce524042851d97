use Rattle.std.proofs.Common.{◌≡◌, drop}
use Rattle.amqp_links.specs.Settling.{all_settled}
use Rattle.amqp_links.specs.State.{seen}
use Rattle.amqp_links.proofs.links.Links.settle_all.Given as goal

-- what is left gives the whole
abbrev pub invariant-loop-number : goal.invariant-loop-number
invariant-loop-number l = all_settled (drop l.number-index l.numbers) l.session l.disposition (seen l.self) ≡ all_settled l.numbers l.session l.disposition (seen l.fn.self)
