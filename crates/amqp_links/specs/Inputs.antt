-- What sessions hand to their links (OASIS AMQP 1.0, part 2, sections 2.6 and 2.7).
use Rattle.std.specs.Prelude.{ℕ, Option, Some, None}
use Rattle.amqp_session_links.specs.amqp_session.declared.session.LinkInput.{LinkInput}
use Rattle.amqp_session_links.specs.amqp_session.declared.session.LinkInput.TheVariants as input
use Rattle.amqp_links.specs.Accepting.{attach_came}
use Rattle.amqp_links.specs.Hearing.{frame_read}
use Rattle.amqp_links.specs.Settling.{left, disposition_read}
use Rattle.amqp_links.specs.State.{State, entered}
use Rattle.amqp_links.specs.Stops.{session_stopped, session_over}

-- the handle of the peer on which a frame was read
abbrev pub handle_of : LinkInput → Option ℕ
handle_of (input.Flow x) = x.handle
handle_of (input.Transfer x payload) = Some x.handle
handle_of (input.Detach x) = Some x.handle
handle_of x = None

abbrev pub word_read : ℕ → LinkInput → State → State
word_read session (input.Attach x) s = attach_came s.accepts session x s
word_read session (input.Disposition x) s = disposition_read session x s
word_read session (input.Left x) s = left session x s
word_read session (input.Stopped why) s = session_stopped session why s
word_read session input.Over s = session_over session s
word_read session x s = s

abbrev pub read_at : Option ℕ → ℕ → LinkInput → State → State
read_at None session x s = word_read session x s
read_at (Some remote) session x s = frame_read session remote x s

-- the session has handed that to its links
abbrev pub input_read : ℕ → LinkInput → State → State
input_read session x s = read_at (handle_of x) session x (entered session s)
