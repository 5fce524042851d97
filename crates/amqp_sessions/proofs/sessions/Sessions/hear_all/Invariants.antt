use Rattle.std.proofs.Common.{◌≡◌, length}
use Rattle.amqp_sessions.specs.Frames.{heard_all}
use Rattle.amqp_sessions.specs.State.{seen}
use Rattle.amqp_sessions.proofs.sessions.Sessions.hear_all.Given as goal

-- what is left gives the whole
abbrev pub invariant-loop-frame : goal.invariant-loop-frame
invariant-loop-frame l = heard_all l.queue (seen l.self) ≡ heard_all l.fn.queue (seen l.fn.self)

abbrev pub decreases-loop-frame : goal.decreases-loop-frame
decreases-loop-frame l = length l.queue
