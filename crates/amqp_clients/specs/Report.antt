-- What is said of an answer on standard error.
use Rattle.std.specs.Prelude.{List, ℕ, [], ◌++◌, Option, Some, None, codes}
use Rattle.amqp_calls.specs.declared.reply.Reply.{Reply}
use Rattle.amqp_calls.specs.declared.reply.Reply.TheVariants as reply
use Rattle.amqp_calls.specs.declared.reply.SessionReply.{SessionReply}
use Rattle.amqp_calls.specs.declared.reply.SessionReply.TheVariants as session
use Rattle.amqp_composites.specs.declared.error.Error.{Error as AmqpError}
use Rattle.amqp_frames.specs.declared.shared.ConnectionStopReason.{ConnectionStopReason}
use Rattle.amqp_frames.specs.declared.shared.ConnectionStopReason.TheVariants as stop
use Rattle.amqp_error_texts.specs.SessionText.{begin_text, session_text}
use Rattle.amqp_link_script.specs.Answers.{link_answer_text}
use Rattle.amqp_script.specs.TraceText.{answer_text}

-- an answer for a session: of an error, its text in a trace
abbrev pub session_reply_text : SessionReply → List ℕ
session_reply_text session.Pending = []
session_reply_text session.Session = []
session_reply_text session.Ended = []
session_reply_text (session.BeginError e) = codes "error " ++ begin_text e
session_reply_text (session.SessionError e) = codes "error " ++ session_text e

abbrev pub any_reply_text : Reply → List ℕ
any_reply_text (reply.Connection answer) = answer_text answer
any_reply_text (reply.Session answer) = session_reply_text answer
any_reply_text (reply.Link answer) = link_answer_text answer

-- the error for which the peer has closed the connection
abbrev pub closing_error : Option ConnectionStopReason → Option AmqpError
closing_error (Some (stop.RemoteClosedWithError e)) = Some e
closing_error (Some stop.Closed) = None
closing_error (Some (stop.ClosedWithError e)) = None
closing_error (Some stop.RemoteClosed) = None
closing_error None = None
