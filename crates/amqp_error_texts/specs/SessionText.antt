-- Errors of sessions in the text of a trace: the variants from outside inwards, joined by points, and the innermost one's fields.
use Rattle.std.specs.Prelude.{List, ℕ, ◌++◌, codes}
use Rattle.amqp_composites.specs.declared.error.Error.{Error as AmqpError}
use Rattle.amqp_frames.specs.declared.shared.ConnectionStopReason.{ConnectionStopReason}
use Rattle.amqp_frames.specs.declared.shared.ConnectionStopReason.TheVariants as connection
use Rattle.amqp_frames.specs.declared.shared.SessionStopReason.{SessionStopReason}
use Rattle.amqp_frames.specs.declared.shared.SessionStopReason.TheVariants as stop
use Rattle.amqp_session.specs.declared.error.BeginError.{BeginError}
use Rattle.amqp_session.specs.declared.error.BeginError.TheVariants as begin
use Rattle.amqp_session.specs.declared.error.Error.{Error}
use Rattle.amqp_session.specs.declared.error.Error.TheVariants as session
use Rattle.amqp_script.specs.Info.{fault_text}

-- a variant that has an error of AMQP in it (OASIS AMQP 1.0, part 2, section 2.8.14)
abbrev pub with_text : List ℕ → AmqpError → List ℕ
with_text name e = name ++ codes " " ++ fault_text e

-- why a connection has stopped
abbrev pub connection_reason_text : ConnectionStopReason → List ℕ
connection_reason_text connection.Closed = codes "Closed"
connection_reason_text (connection.ClosedWithError e) = with_text (codes "ClosedWithError") e
connection_reason_text connection.RemoteClosed = codes "RemoteClosed"
connection_reason_text (connection.RemoteClosedWithError e) = with_text (codes "RemoteClosedWithError") e

-- why a session has stopped
abbrev pub session_reason_text : SessionStopReason → List ℕ
session_reason_text stop.Ended = codes "Ended"
session_reason_text (stop.EndedWithError e) = with_text (codes "EndedWithError") e
session_reason_text stop.RemoteEnded = codes "RemoteEnded"
session_reason_text (stop.RemoteEndedWithError e) = with_text (codes "RemoteEndedWithError") e
session_reason_text (stop.ConnectionStopped reason) = codes "ConnectionStopped." ++ connection_reason_text reason

abbrev pub begin_word : BeginError → List ℕ
begin_word (begin.Memory e) = codes "Memory"
begin_word (begin.SessionStopped reason) = codes "SessionStopped." ++ session_reason_text reason
begin_word begin.LocalChannelMaxReached = codes "LocalChannelMaxReached"
begin_word begin.RemoteEnded = codes "RemoteEnded"
begin_word begin.IllegalState = codes "IllegalState"

-- why a session is not begun
abbrev pub begin_text : BeginError → List ℕ
begin_text e = codes "Begin." ++ begin_word e

abbrev pub session_word : Error → List ℕ
session_word (session.Memory e) = codes "Memory"
session_word session.IllegalState = codes "IllegalState"
session_word session.UnattachedHandle = codes "UnattachedHandle"
session_word session.HandleInUse = codes "HandleInUse"
session_word session.TransferFrameToSender = codes "TransferFrameToSender"
session_word session.RemoteEnded = codes "RemoteEnded"
session_word (session.RemoteEndedWithError e) = with_text (codes "RemoteEndedWithError") e
session_word session.RemoteAttachingLinkNameNotFound = codes "RemoteAttachingLinkNameNotFound"
session_word session.FramingError = codes "FramingError"

-- why a call on a session did not do what it was asked
abbrev pub session_text : Error → List ℕ
session_text e = codes "Session." ++ session_word e
