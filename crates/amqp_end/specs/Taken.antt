-- The answers of an end with sessions and links, taken out of its parts.
use Rattle.std.specs.Prelude.{◌≡◌, List, []}
use Rattle.amqp_sessions.specs.amqp_calls.declared.reply.NamedReply.{NamedReply}
use Rattle.amqp_links.specs.State.{seen as linked}
use Rattle.amqp_sessions.specs.State.{seen}
use Rattle.amqp_end.specs.declared.end.End.{End}
use Rattle.amqp_end.specs.Answers.{together, AreOrdered}

-- those of the sessions, of the connection and of the links are taken out, and these are they in the order of their names; none is told
pub record TakenOut {L : Type 0} (old new : End L) (answers : List NamedReply) : Type 0 where
  pub connection : new.connection ≡ record old.connection { replies = [] }
  pub sessions : seen new.sessions ≡ record (seen old.sessions) { replies = [] }
  pub links : linked new.links ≡ record (linked old.links) { replies = [] }
  pub ordered : AreOrdered (together (seen old.sessions).replies old.connection.replies (linked old.links).replies) answers
  pub last : new.last ≡ old.last
  pub failed : new.failed ≡ old.failed
  pub replies : new.replies.items ≡ old.replies.items
