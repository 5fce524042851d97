-- How many frames attach and detach a link (OASIS AMQP 1.0, part 2, sections 2.6.3 to 2.6.6).
use Rattle.std.specs.Prelude.{ℕ}
use Rattle.amqp_link.specs.declared.endpoint.LinkPhase.{LinkPhase}
use Rattle.amqp_link.specs.declared.endpoint.LinkPhase.TheVariants as phase

-- What is still to come behind the first Attach at most: a Detach, and where the link is to be closed on a further
-- attachment the Attach and the Detach of that. Behind a refusal, and once both ends have closed the link, nothing
-- is.
abbrev pub may_write : LinkPhase → ℕ
may_write phase.AttachSent = 3
may_write phase.Attached = 3
may_write phase.DetachExpected = 1
may_write phase.DetachSent = 2
may_write phase.CloseSent = 2
may_write phase.HalfClosed = 2
may_write phase.HandleWanted = 2
may_write phase.ReattachSent = 1
may_write other = 0
