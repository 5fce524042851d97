use Rattle.std.proofs.Common.{◌≡◌}
use Rattle.amqp_data.specs.Data.{count}
use Rattle.amqp_messages.specs.Sections.{left, sections}
use Rattle.amqp_messages.proofs.Taken.{with_front}
use Rattle.amqp_messages.proofs.sections.Sections.all.Given as goal

abbrev pub invariant-loop-content : goal.invariant-loop-content
invariant-loop-content g l = with_front l.found.items (sections l.kind g.T.Content.reads (left l.self)) ≡ sections l.kind g.T.Content.reads (left l.fn.self)

abbrev pub decreases-loop-content : goal.decreases-loop-content
decreases-loop-content g l = count (left l.self)
