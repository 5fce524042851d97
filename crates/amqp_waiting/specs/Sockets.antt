-- What the commands that wait for a peer leave in the frames of their socket.
use Rattle.std.specs.Prelude.{ℕ, List, Option, codes}
use Rattle.amqp_wire.specs.declared.link.Link.{Ghosts}
use Rattle.amqp_net.specs.declared.socket.SocketLink.{SocketLink}
use Rattle.served_connection.specs.amqp_end.declared.end.End.{End}
use Rattle.served_connection.specs.amqp_peer.declared.peer.PeerKind.TheVariants.{Client}
use Rattle.amqp_serve.specs.Ran.{Ran}
use Rattle.served_connection.specs.Bytes.{HasServed, HasSent}
use Rattle.served_connection.specs.ServeLaws.History.{IsFresh}
use Rattle.served_connection.specs.ServeLaws.Runs.{LeftFrames}
use Rattle.amqp_clients.specs.Delivered.{SentAndLeft, Received, delivered_turns, got_turns}
use Rattle.amqp_waiting_words.specs.Command.{Asked, listens, connects, sends, receives}

-- the connection over some socket was served
pub record ServedOne (link : Ghosts SocketLink) (written written' : Option (List ℕ)) : Type 0 where
  pub first : SocketLink
  pub has : HasServed link first written written'

-- so many messages were sent over some socket
pub record SentOne (link : Ghosts SocketLink) (count : ℕ) : Type 0 where
  pub first : SocketLink
  pub has : HasSent link first (codes "m") count

-- An end of a client over some link, on which nothing was done, has sent these texts, each as a message that was accepted, and closed the
-- connection; this stands in the bytes of its link (OASIS AMQP 1.0, part 2, sections 2.3 to 2.5).
pub record SentTexts {L : Type 0} (link : Ghosts L) (texts : List (List ℕ)) : Type 0 where
  pub first : L
  pub old : End L
  pub new : End L
  pub fresh : IsFresh first Client old
  pub sent : SentAndLeft link old new texts 0
  pub ran : Ran link old (delivered_turns link old texts 0 sent.between sent.delivered) sent.between
  pub frames : LeftFrames link first old sent.between new (delivered_turns link old texts 0 sent.between sent.delivered) ran sent.left

-- Such an end was given so many messages of a link, the line of each was written before it was accepted, and it closed the connection; this
-- stands in the bytes of its link.
pub record GotMessages {L : Type 0} (link : Ghosts L) (count : ℕ) (written written' : Option (List ℕ)) : Type 0 where
  pub first : L
  pub old : End L
  pub new : End L
  pub fresh : IsFresh first Client old
  pub received : Received link old new count written written'
  pub ran : Ran link old (got_turns link old received.receiver written count received.between written' received.got) received.between
  pub frames : LeftFrames link first old received.between new (got_turns link old received.receiver written count received.between written' received.got) ran received.left

-- what a command that did all has left there
abbrev pub HasPassed : Ghosts SocketLink → Asked → Option (List ℕ) → Option (List ℕ) → Type 0
HasPassed link (listens port) w v = ServedOne link w v
HasPassed link (connects port count) w v = SentOne link count
HasPassed link (sends url address messages options) w v = SentTexts link messages
HasPassed link (receives url address count options) w v = GotMessages link count w v
