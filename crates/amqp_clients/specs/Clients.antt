-- What clients have done over a link of their own, from their first call on.
use Rattle.std.specs.Prelude.{◌≡◌, ℕ, false, List, [], Option, None}
use Rattle.amqp_wire.specs.declared.link.Link.{Ghosts}
use Rattle.amqp_end.specs.amqp_links.State.{seen as linked, no_links}
use Rattle.amqp_end.specs.amqp_sessions.State.{seen, none_begun}
use Rattle.amqp_end.specs.declared.end.End.{End}
use Rattle.amqp_peer.specs.Peering.{fresh}
use Rattle.amqp_peer.specs.declared.peer.PeerKind.TheVariants.{Client}
use Rattle.amqp_clients.specs.Delivered.{SentAndLeft, Received}

-- an end of a client over that link, on which nothing was done
pub record IsUnused {L : Type 0} (first : L) (e : End L) : Type 0 where
  pub connection : e.connection ≡ fresh first Client
  pub sessions : seen e.sessions ≡ none_begun
  pub links : linked e.links ≡ no_links false
  pub replies : e.replies.items ≡ []
  pub last : e.last ≡ None

-- the same over some link
pub record IsClient {L : Type 0} (e : End L) : Type 0 where
  pub first : L
  pub unused : IsUnused first e

-- such an end has sent these texts, each of which was accepted, and closed the connection
pub record HasSentTexts {L : Type 0} (link : Ghosts L) (texts : List (List ℕ)) : Type 0 where
  pub old : End L
  pub new : End L
  pub client : IsClient old
  pub sent : SentAndLeft link old new texts 0

-- such an end was given so many messages, the line of each was written before it was accepted, and it closed the connection
pub record HasReceived {L : Type 0} (link : Ghosts L) (count : ℕ) (written written' : Option (List ℕ)) : Type 0 where
  pub old : End L
  pub new : End L
  pub client : IsClient old
  pub received : Received link old new count written written'
