use Rattle.std.proofs.Common.{◌≡◌, length}
use Rattle.amqp_show.specs.Lines.{lines_of}
use Rattle.amqp_show.specs.Layout.{measured, first_layout}
use Rattle.amqp_show.proofs.layout.Layout.of.Given as goal

abbrev pub invariant-lines : goal.invariant-lines
invariant-lines l = measured l.layout (lines_of l.rest) ≡ measured first_layout (lines_of l.text)

abbrev pub decreases-lines : goal.decreases-lines
decreases-lines l = length l.rest
