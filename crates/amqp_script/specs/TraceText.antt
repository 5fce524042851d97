-- The text of a trace.
use Rattle.std.specs.Prelude.{◌+◌, List, ℕ, [], ◌∷◌, ◌++◌, length, ◌==◌, if◌then◌else◌, codes, decimal, flat_map}
use Rattle.amqp_words.specs.declared.reply.Reply.{Reply}
use Rattle.amqp_words.specs.declared.reply.Reply.TheVariants as reply
use Rattle.amqp_words.specs.declared.reply.NamedReply.{NamedReply}
use Rattle.amqp_words.specs.declared.trace.Entry.{Entry}
use Rattle.amqp_script.specs.Hex.{hex_of}
use Rattle.amqp_script.specs.ErrorText.{open_text, connection_text}

abbrev pub answer_text : Reply → List ℕ
answer_text reply.Pending = codes "pending"
answer_text reply.Connection = codes "connection"
answer_text reply.Closed = codes "closed"
answer_text (reply.OpenError e) = codes "error " ++ open_text e
answer_text (reply.ConnectionError e) = codes "error " ++ connection_text e

-- `STEP NAME REPLY` and a line feed
abbrev pub reply_text : ℕ → NamedReply → List ℕ
reply_text step r = decimal step ++ codes " " ++ decimal r.name ++ codes " " ++ answer_text r.reply ++ 10 ∷ []

-- `STEP wrote HEX` and a line feed, where bytes were written
abbrev pub wrote_text : ℕ → List ℕ → List ℕ
wrote_text step bytes = if length bytes == 0 then [] else decimal step ++ codes " wrote " ++ hex_of bytes ++ 10 ∷ []

abbrev pub entry_text : ℕ → Entry → List ℕ
entry_text step x = flat_map (reply_text step) x.replies ++ wrote_text step x.wrote

abbrev pub text_from : ℕ → List Entry → List ℕ
text_from step [] = []
text_from step (x ∷ xs) = entry_text step x ++ text_from (step + 1) xs

-- the text of the entries of a trace, from step 0 on
abbrev pub text_of : List Entry → List ℕ
text_of entries = text_from 0 entries
