-- The answers of an end with sessions and links.
use Rattle.std.specs.Prelude.{ℕ, ◌==◌, not, List, ◌++◌, map, filter, IsPermutation}
use Rattle.std.specs.List.Sorted.{IsNonDecreasingBy, IsStableByKey}
use Rattle.std.specs.Ordering.{nat_cmp}
use Rattle.amqp_words.specs.declared.reply.NamedReply.{NamedReply as ConnectionReply}
use Rattle.amqp_sessions.specs.amqp_link_words.declared.link_reply.NamedLinkReply.{NamedLinkReply}
use Rattle.amqp_sessions.specs.amqp_calls.declared.reply.NamedReply.{NamedReply}
use Rattle.amqp_sessions.specs.amqp_calls.declared.reply.Reply.TheVariants.{Connection, Link}

-- an answer of the connection, and one of the links, among those of all
abbrev pub of_connection : ConnectionReply → NamedReply
of_connection r = record { name = r.name; reply = Connection r.reply }

abbrev pub of_link : NamedLinkReply → NamedReply
of_link r = record { name = r.name; reply = Link r.reply }

-- the answers of the sessions, of the connection and of the links, one behind the other
abbrev pub together : List NamedReply → List ConnectionReply → List NamedLinkReply → List NamedReply
together sessions connection links = (sessions ++ map of_connection connection) ++ map of_link links

-- these answers in the order of their names; those to one call stand as they did
pub record AreOrdered (fresh answers : List NamedReply) : Type 0 where
  pub all : IsPermutation fresh answers
  pub rising : IsNonDecreasingBy (λ (r : NamedReply). r.name) answers
  pub stable : IsStableByKey (λ (r : NamedReply). r.name) nat_cmp fresh answers

-- the answers to the call of that name, and those to other calls
abbrev pub answers_to : ℕ → List NamedReply → List NamedReply
answers_to name answers = filter (λ (r : NamedReply). r.name == name) answers

abbrev pub answers_to_others : ℕ → List NamedReply → List NamedReply
answers_to_others name answers = filter (λ (r : NamedReply). not (r.name == name)) answers

-- those to the call of that name, then the others
abbrev pub with_first : ℕ → List NamedReply → List NamedReply
with_first name answers = answers_to name answers ++ answers_to_others name answers
