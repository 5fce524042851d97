-- An end with sessions and links that goes on.
use Rattle.std.specs.Prelude.{◌≡◌, ℕ, List, [], ◌∷◌, ◌++◌, Option, Some, None}
use Rattle.amqp_sessions.specs.amqp_calls.declared.call.Call.{Call}
use Rattle.amqp_sessions.specs.amqp_calls.declared.call.Call.TheVariants.{Connection, Session, Link}
use Rattle.amqp_sessions.specs.amqp_link_words.declared.link_call.LinkCall.{LinkCall}
use Rattle.amqp_wire.specs.declared.link.Link.{Ghosts}
use Rattle.amqp_words.specs.declared.call.Call.{Call as ConnectionCall}
use Rattle.amqp_links.specs.State.{seen as linked}
use Rattle.amqp_peer.specs.Hearing.{waiting_in}
use Rattle.amqp_peer.specs.Held.{IsLate}
use Rattle.amqp_sessions.specs.State.{seen}
use Rattle.amqp_end.specs.declared.end.End.{End}
use Rattle.amqp_end.specs.Deeds.{Deed, Did, called_by, links_called_by, told_by}
use Rattle.amqp_end.specs.Named.{AreNamed, AreSeated, IsBy, TakesSeat}

-- An end went on at that moment: its connection, its sessions and its links did this, one after another. Each frame that the sessions heard was
-- the first that waited for them at the connection, and each frame that they had to write was given to it, in order; so it is between the
-- sessions and the links. These calls were made on the connection and these on the links, no others, and of each call, poll and step of the
-- connection stands here what it adds to its history, and that what it was given of sessions waits for them. The answers that it has are those that were told. What is done for a call is
-- done under the name of the one that was made in this, once, or of one that waits. A session is on the channel that was taken for it.
pub record Goes {L : Type 0} (link : Ghosts L) (at : ℕ) (call : Option ℕ) (calls : List (ℕ × ConnectionCall)) (asks : List (ℕ × LinkCall)) (old new : End L) : Type 0 where
  pub deeds : List Deed
  pub did : Did link at old.connection (seen old.sessions) (linked old.links) deeds new.connection (seen new.sessions) (linked new.links)
  pub made : called_by deeds ≡ calls
  pub asked : links_called_by deeds ≡ asks
  pub answers : new.replies.items ≡ old.replies.items ++ told_by deeds
  pub last : new.last ≡ old.last
  pub failed : new.failed ≡ old.failed
  pub named : AreNamed link at call old.connection (seen old.sessions) (linked old.links) deeds new.connection (seen new.sessions) (linked new.links) did
  pub seated : AreSeated deeds

-- the same for a call of that name, if one is made, but not on the connection or the links; a connection that has begun goes on, and where no frame
-- waited there for the sessions, none does
pub record GoesOnFor {L : Type 0} (link : Ghosts L) (at : ℕ) (call : Option ℕ) (old new : End L) : Type 0 where
  pub goes : Goes link at call [] [] old new
  pub late : IsLate old.connection.held → IsLate new.connection.held
  pub heard : waiting_in old.connection.held ≡ [] → waiting_in new.connection.held ≡ []

-- for none
abbrev pub GoesOn : {L : Type 0} → Ghosts L → ℕ → End L → End L → Type 0
GoesOn link at old new = GoesOnFor link at None old new

-- a channel is taken for a session; or there is none, and the call of that name, which was made or waits, is refused
abbrev pub Seated : {L : Type 0} → Ghosts L → ℕ → End L → End L → Option ℕ → Type 0
Seated link name old new None = (at : ℕ) (call : Option ℕ) → IsBy call (seen old.sessions) name → GoesOnFor link at call old new
Seated link name old new (Some channel) = TakesSeat channel old new

-- the call that is made on the connection, if it is one
abbrev pub on_connection : ℕ → Call → List (ℕ × ConnectionCall)
on_connection name (Connection call) = (name, call) ∷ []
on_connection name (Session call) = []
on_connection name (Link call) = []

-- the call that is made on the links, if it is one
abbrev pub on_links : ℕ → Call → List (ℕ × LinkCall)
on_links name (Connection call) = []
on_links name (Session call) = []
on_links name (Link call) = (name, call) ∷ []
