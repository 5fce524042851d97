use Rattle.std.proofs.Common.{◌≡◌, length}
use Rattle.amqp_link_script.specs.Disposals.{names_in}
use Rattle.amqp_link_script.proofs.Names.{said_by}
use Rattle.amqp_link_script.proofs.disposals.names.Given as goal

abbrev pub invariant-names : goal.invariant-names
invariant-names l = said_by l.names l.rest ≡ names_in l.fn.word

abbrev pub decreases-names : goal.decreases-names
decreases-names l = length l.rest
