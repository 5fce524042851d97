-- What an answer says to an end that serves a connection.
use Rattle.std.specs.Prelude.{Bool, true, false, if◌then◌else◌}
use Rattle.amqp_calls.specs.declared.reply.Reply.{Reply}
use Rattle.amqp_calls.specs.declared.reply.Reply.TheVariants as reply
use Rattle.amqp_calls.specs.declared.reply.SessionReply.{SessionReply}
use Rattle.amqp_calls.specs.declared.reply.SessionReply.TheVariants as session
use Rattle.amqp_words.specs.declared.reply.Reply.{Reply as ConnectionReply}
use Rattle.amqp_words.specs.declared.reply.Reply.TheVariants as connection
use Rattle.amqp_link_words.specs.declared.link_reply.AcceptError.{AcceptError}
use Rattle.amqp_link_words.specs.declared.link_reply.AcceptError.TheVariants.{LocalSender, LocalReceiver}
use Rattle.amqp_link_words.specs.declared.link_reply.LinkReply.{LinkReply}
use Rattle.amqp_link_words.specs.declared.link_reply.LinkReply.TheVariants as link
use Rattle.amqp_frames.specs.declared.shared.ConnectionStopReason.{ConnectionStopReason}
use Rattle.amqp_frames.specs.declared.shared.ConnectionStopReason.TheVariants as stop
use Rattle.amqp_frames.specs.declared.shared.SessionStopReason.{SessionStopReason}
use Rattle.amqp_frames.specs.declared.shared.SessionStopReason.TheVariants as ended
use Rattle.amqp_link.specs.declared.error.AttachError.{AttachError}
use Rattle.amqp_link.specs.declared.error.AttachError.TheVariants as attach
use Rattle.amqp_link.specs.declared.error.LinkStateError.{LinkStateError}
use Rattle.amqp_link.specs.declared.error.LinkStateError.TheVariants as state
use Rattle.amqp_link.specs.declared.error.IllegalLinkStateError.{IllegalLinkStateError}
use Rattle.amqp_link.specs.declared.error.IllegalLinkStateError.TheVariants as illegal
use Rattle.amqp_receiver.specs.declared.error.RecvError.{RecvError}
use Rattle.amqp_receiver.specs.declared.error.RecvError.TheVariants as recv
use Rattle.amqp_session.specs.declared.error.BeginError.{BeginError}
use Rattle.amqp_session.specs.declared.error.BeginError.TheVariants as begin
use Rattle.amqp_served.specs.declared.news.News.{News}
use Rattle.amqp_served.specs.declared.news.News.TheVariants as news

-- the peer has closed the connection without an error
abbrev pub is_quiet_close : ConnectionStopReason → Bool
is_quiet_close stop.RemoteClosed = true
is_quiet_close _ = false

-- the peer has ended the session, or closed its connection, without an error
abbrev pub is_quiet_end : SessionStopReason → Bool
is_quiet_end ended.RemoteEnded = true
is_quiet_end (ended.ConnectionStopped why) = is_quiet_close why
is_quiet_end _ = false

-- no session is accepted for such a reason
abbrev pub is_quiet_begin : BeginError → Bool
is_quiet_begin (begin.SessionStopped why) = is_quiet_end why
is_quiet_begin _ = false

abbrev pub is_quiet_attach : AttachError → Bool
is_quiet_attach (attach.SessionStopped why) = is_quiet_end why
is_quiet_attach _ = false

-- no link is accepted for such a reason
abbrev pub is_quiet_accept : AcceptError → Bool
is_quiet_accept (LocalSender error) = is_quiet_attach error
is_quiet_accept (LocalReceiver error) = is_quiet_attach error

-- a link takes no call for such a reason, or since the peer has detached it without an error
abbrev pub is_quiet_state : LinkStateError → Bool
is_quiet_state (state.SessionStopped why) = is_quiet_end why
is_quiet_state state.RemoteDetached = true
is_quiet_state state.RemoteClosed = true
is_quiet_state _ = false

-- no message comes for such a reason
abbrev pub is_quiet_receive : RecvError → Bool
is_quiet_receive (recv.LinkStateError error) = is_quiet_state error
is_quiet_receive _ = false

-- a delivery is not settled for such a reason, or since its link is detached
abbrev pub is_quiet_settle : IllegalLinkStateError → Bool
is_quiet_settle (illegal.SessionStopped why) = is_quiet_end why
is_quiet_settle illegal.IllegalState = true
is_quiet_settle (illegal.Memory error) = false

-- these news where it is so, else that the call failed
abbrev pub quietly : Bool → News → News
quietly quiet x = if quiet then x else news.Fault

abbrev pub news_of_connection : ConnectionReply → News
news_of_connection connection.Connection = news.Opened
news_of_connection connection.Pending = news.Nothing
news_of_connection connection.Closed = news.Nothing
news_of_connection (connection.OpenError error) = news.Fault
news_of_connection (connection.ConnectionError error) = news.Fault

abbrev pub news_of_session : SessionReply → News
news_of_session session.Pending = news.Nothing
news_of_session session.Ended = news.Nothing
news_of_session session.Session = news.Session
news_of_session (session.BeginError error) = quietly (is_quiet_begin error) news.Closed
news_of_session (session.SessionError error) = news.Fault

abbrev pub news_of_link : LinkReply → News
news_of_link link.Receiver = news.Receiver
news_of_link link.Sender = news.Sender
news_of_link (link.Delivery info message) = news.Delivery
news_of_link (link.AcceptError error) = quietly (is_quiet_accept error) news.NoLink
news_of_link (link.RecvError error) = quietly (is_quiet_receive error) news.NoMessage
news_of_link (link.DispositionError error) = quietly (is_quiet_settle error) news.Nothing
news_of_link link.Pending = news.Nothing
news_of_link link.Sent = news.Nothing
news_of_link link.Disposer = news.Nothing
news_of_link link.Done = news.Nothing
news_of_link link.Detached = news.Nothing
news_of_link link.Closed = news.Nothing
news_of_link (link.Outcome outcome) = news.Nothing
news_of_link (link.Credit credit) = news.Nothing
news_of_link (link.SenderAttachError error) = news.Fault
news_of_link (link.ReceiverAttachError error) = news.Fault
news_of_link (link.SendError error) = news.Fault
news_of_link (link.FlowError error) = news.Fault
news_of_link link.Elapsed = news.Fault
news_of_link (link.DetachError error) = news.Fault

-- what an answer says
abbrev pub news_of_lem : Reply → News
news_of_lem (reply.Connection answer) = news_of_connection answer
news_of_lem (reply.Session answer) = news_of_session answer
news_of_lem (reply.Link answer) = news_of_link answer
