-- Which bodies are of a session (OASIS AMQP 1.0, part 2, section 2.3.1).
use Rattle.std.specs.Prelude.{Bool, true, false}
use Rattle.amqp_frames.specs.declared.body.FrameBody.{FrameBody}
use Rattle.amqp_frames.specs.declared.body.FrameBody.TheVariants as b

-- the others are of the connection
abbrev pub of_session : FrameBody → Bool
of_session (b.Open x) = false
of_session (b.Close x) = false
of_session b.Empty = false
of_session body = true
