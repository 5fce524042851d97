-- What the answers to a call say.
use Rattle.std.specs.Prelude.{◌≡◌, ◌⊎◌, ℕ, ◌+◌, ◌==◌, Bool, true, false, if◌then◌else◌, List, [], ◌∷◌, Option, Some, None, ⊤}
use Rattle.amqp_calls.specs.declared.reply.NamedReply.{NamedReply}
use Rattle.amqp_calls.specs.declared.reply.Reply.{Reply}
use Rattle.amqp_calls.specs.declared.reply.Reply.TheVariants as reply
use Rattle.amqp_calls.specs.declared.reply.SessionReply.{SessionReply}
use Rattle.amqp_calls.specs.declared.reply.SessionReply.TheVariants as session
use Rattle.amqp_link_words.specs.declared.link_reply.LinkReply.{LinkReply}
use Rattle.amqp_link_words.specs.declared.link_reply.LinkReply.TheVariants as link
use Rattle.amqp_served_news.specs.News.{news_of_lem}
use Rattle.amqp_served.specs.Served.{counted}
use Rattle.amqp_words.specs.declared.reply.Reply.{Reply as ConnectionReply}
use Rattle.amqp_words.specs.declared.reply.Reply.TheVariants as connection
use Rattle.amqp_serve.specs.declared.answers.AnswerKind.{AnswerKind}
use Rattle.amqp_serve.specs.declared.answers.AnswerKind.TheVariants.{Pending, Granted, Failed}
use Rattle.amqp_serve.specs.declared.failure.Failure.{Failure}
use Rattle.amqp_serve.specs.declared.failure.Failure.TheVariants as failure

abbrev pub kind_of_connection : ConnectionReply → AnswerKind
kind_of_connection connection.Pending = Pending
kind_of_connection connection.Connection = Granted
kind_of_connection connection.Closed = Granted
kind_of_connection (connection.OpenError error) = Failed
kind_of_connection (connection.ConnectionError error) = Failed

abbrev pub kind_of_session : SessionReply → AnswerKind
kind_of_session session.Pending = Pending
kind_of_session session.Session = Granted
kind_of_session session.Ended = Granted
kind_of_session (session.BeginError error) = Failed
kind_of_session (session.SessionError error) = Failed

abbrev pub kind_of_link : LinkReply → AnswerKind
kind_of_link link.Pending = Pending
kind_of_link link.Sender = Granted
kind_of_link link.Receiver = Granted
kind_of_link link.Sent = Granted
kind_of_link link.Disposer = Granted
kind_of_link (link.Outcome outcome) = Granted
kind_of_link (link.Delivery info message) = Granted
kind_of_link link.Done = Granted
kind_of_link (link.Credit credit) = Granted
kind_of_link link.Detached = Granted
kind_of_link link.Closed = Granted
kind_of_link (link.SenderAttachError error) = Failed
kind_of_link (link.ReceiverAttachError error) = Failed
kind_of_link (link.AcceptError error) = Failed
kind_of_link (link.SendError error) = Failed
kind_of_link (link.RecvError error) = Failed
kind_of_link (link.DispositionError error) = Failed
kind_of_link (link.FlowError error) = Failed
kind_of_link link.Elapsed = Failed
kind_of_link (link.DetachError error) = Failed

-- what an answer is to its caller
unfoldable pub kind_of : Reply → AnswerKind
kind_of (reply.Connection answer) = kind_of_connection answer
kind_of (reply.Session answer) = kind_of_session answer
kind_of (reply.Link answer) = kind_of_link answer

-- the last answer to the call of that name that is among them
abbrev pub or_else : Option Reply → Option Reply → Option Reply
or_else (Some x) y = Some x
or_else None y = y

abbrev pub answer_in : ℕ → NamedReply → Option Reply
answer_in name x = if x.name == name then Some x.reply else None

unfoldable pub last_answer : ℕ → List NamedReply → Option Reply
last_answer name [] = None
last_answer name (x ∷ xs) = or_else (last_answer name xs) (answer_in name x)

-- how many messages came, with those that such answers give
unfoldable pub counted_all : List NamedReply → ℕ → ℕ
counted_all [] n = n
counted_all (x ∷ xs) n = counted_all xs (counted (news_of_lem x.reply) n)

-- that answer to the call of that name is among them
unfoldable pub HasAnswer : ℕ → Reply → List NamedReply → Type 0
HasAnswer name answer [] = ⊥
HasAnswer name answer (x ∷ xs) = ((x.name ≡ name) × (x.reply ≡ answer)) ⊎ HasAnswer name answer xs

-- how many of these answers are such
unfoldable pub tally : (Reply → Bool) → List NamedReply → ℕ
tally p [] = 0
tally p (x ∷ xs) = (if p x.reply then 1 else 0) + tally p xs

-- a message was sent
abbrev pub is_sent_at : LinkReply → Bool
is_sent_at link.Sent = true
is_sent_at _ = false

abbrev pub is_sent : Reply → Bool
is_sent (reply.Connection answer) = false
is_sent (reply.Session answer) = false
is_sent (reply.Link answer) = is_sent_at answer

-- a message has that outcome
abbrev pub is_outcome_at : LinkReply → Bool
is_outcome_at (link.Outcome outcome) = true
is_outcome_at _ = false

abbrev pub is_outcome : Reply → Bool
is_outcome (reply.Connection answer) = false
is_outcome (reply.Session answer) = false
is_outcome (reply.Link answer) = is_outcome_at answer

-- the connection is closed by both ends
abbrev pub is_closing_at : ConnectionReply → Bool
is_closing_at connection.Closed = true
is_closing_at _ = false

abbrev pub is_closing : Reply → Bool
is_closing (reply.Connection answer) = is_closing_at answer
is_closing (reply.Session answer) = false
is_closing (reply.Link answer) = false

-- an answer that ends a run is an error
abbrev pub IsHonest : Failure → Type 0
IsHonest (failure.Answer answer) = kind_of answer ≡ Failed
IsHonest failure.Memory = ⊤
IsHonest failure.Waiting = ⊤
IsHonest failure.Over = ⊤
IsHonest failure.TimedOut = ⊤
IsHonest failure.Unexpected = ⊤
