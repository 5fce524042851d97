-- What is counted of a trace; a count stands still at the end of its type.
use Rattle.std.specs.Prelude.{ℕ, ◌+◌, min, List, [], ◌∷◌, ◌++◌, length, codes, decimal}
use Rattle.amqp_calls.specs.declared.reply.NamedReply.{NamedReply}
use Rattle.amqp_calls.specs.declared.reply.Reply.{Reply}
use Rattle.amqp_calls.specs.declared.reply.Reply.TheVariants.{Link}
use Rattle.amqp_calls.specs.declared.trace.Entry.{Entry}
use Rattle.amqp_link_words.specs.declared.link_reply.LinkReply.TheVariants.{Sent, Outcome}
use Rattle.amqp_termini.specs.declared.outcome.Outcome.TheVariants.{Accepted}
use Rattle.amqp_gen.specs.declared.tally.Tally.{Tally}

-- 1 where a message was sent
abbrev pub sent_by : Reply → ℕ
sent_by (Link Sent) = 1
sent_by reply = 0

-- 1 where the outcome of a message is that it was accepted
abbrev pub accepted_by : Reply → ℕ
accepted_by (Link (Outcome (Accepted a))) = 1
accepted_by reply = 0

abbrev pub with_reply : Tally → NamedReply → Tally
with_reply t x = record t {
  messages = min (t.messages + sent_by x.reply) 4294967295;
  accepted = min (t.accepted + accepted_by x.reply) 4294967295;
}

abbrev pub with_replies : Tally → List NamedReply → Tally
with_replies t [] = t
with_replies t (x ∷ xs) = with_replies (with_reply t x) xs

-- the answers of an entry, and the bytes that its end wrote
abbrev pub with_entry : Tally → Entry → Tally
with_entry t e = record (with_replies t e.replies.items) {
  wrote = min ((with_replies t e.replies.items).wrote + length e.wrote.items) 18446744073709551615;
}

abbrev pub with_entries : Tally → List Entry → Tally
with_entries t [] = t
with_entries t (e ∷ es) = with_entries (with_entry t e) es

-- what is counted of all entries
abbrev pub tallied : List Entry → Tally
tallied entries = with_entries (record { messages = 0; accepted = 0; wrote = 0 }) entries

-- a word, a number in decimal and a line feed
abbrev pub line_of : List ℕ → ℕ → List ℕ
line_of word number = word ++ decimal number ++ 10 ∷ []

-- the lines of a run
abbrev pub text_of : Tally → ℕ → List ℕ
text_of t bytes =
    line_of (codes "messages ") t.messages ++ line_of (codes "accepted ") t.accepted
    ++ line_of (codes "bytes ") bytes ++ line_of (codes "wrote ") t.wrote
