-- The text of a trace of connections, sessions and links.
use Rattle.std.specs.Prelude.{◌+◌, List, ℕ, [], ◌∷◌, ◌++◌, codes, decimal, flat_map}
use Rattle.amqp_calls.specs.declared.reply.SessionReply.{SessionReply}
use Rattle.amqp_calls.specs.declared.reply.SessionReply.TheVariants as session
use Rattle.amqp_calls.specs.declared.reply.Reply.{Reply}
use Rattle.amqp_calls.specs.declared.reply.Reply.TheVariants.{Connection, Session, Link}
use Rattle.amqp_calls.specs.declared.reply.NamedReply.{NamedReply}
use Rattle.amqp_calls.specs.declared.trace.Entry.{Entry}
use Rattle.amqp_script.specs.TraceText.{answer_text, wrote_text}
use Rattle.amqp_error_texts.specs.SessionText.{begin_text, session_text}
use Rattle.amqp_link_script.specs.Answers.{link_answer_text}

-- the answer to a call for a session
abbrev pub session_answer_text : SessionReply → List ℕ
session_answer_text session.Pending = codes "pending"
session_answer_text session.Session = codes "session"
session_answer_text session.Ended = codes "ended"
session_answer_text (session.BeginError e) = codes "error " ++ begin_text e
session_answer_text (session.SessionError e) = codes "error " ++ session_text e

-- the answer to a call
abbrev pub any_answer_text : Reply → List ℕ
any_answer_text (Connection reply) = answer_text reply
any_answer_text (Session reply) = session_answer_text reply
any_answer_text (Link reply) = link_answer_text reply

-- `STEP NAME REPLY` and a line feed
abbrev pub reply_text : ℕ → NamedReply → List ℕ
reply_text step r = decimal step ++ codes " " ++ decimal r.name ++ codes " " ++ any_answer_text r.reply ++ 10 ∷ []

abbrev pub entry_text : ℕ → Entry → List ℕ
entry_text step x = flat_map (reply_text step) x.replies.items ++ wrote_text step x.wrote.items

abbrev pub text_from : ℕ → List Entry → List ℕ
text_from step [] = []
text_from step (x ∷ xs) = entry_text step x ++ text_from (step + 1) xs

-- the text of the entries of a trace, from step 0 on
abbrev pub text_of : List Entry → List ℕ
text_of entries = text_from 0 entries
