-- What stands in the bytes of a run that served a connection, and of one that sent messages (OASIS AMQP 1.0, part 2,
-- sections 2.3 to 2.5).
use Rattle.std.specs.Prelude.{ℕ, zero, suc, List, ◌++◌}
use Rattle.amqp_wire.specs.declared.link.Link.{Ghosts}
use Rattle.amqp_link_words.specs.declared.link_call.Sendable.{Sendable}
use Rattle.amqp_peer.specs.declared.peer.PeerKind.{PeerKind}
use Rattle.amqp_end.specs.declared.end.End.{End}
use Rattle.amqp_session_world.specs.Lives.{Life, unlived}
use Rattle.amqp_serve.specs.Endings.{WasServed}
use Rattle.amqp_serve.specs.Ran.{Turn, Ran, told, SentAll, Left, ConnectedWith, Connected}
use Rattle.served_connection.specs.ServeLaws.History.{IsFresh, Lived, called, life_of}
use Rattle.served_connection.specs.ServeLaws.Closes.{IsClosedByPeer, IsClosedByBoth}

-- ---- a run that served a connection

abbrev pub served_life : {L : Type 0} (link : Ghosts L) (old new : End L) (count : ℕ) → WasServed link old new count
    → Life
served_life link old new count s = life_of link old s.turns new s.ran unlived

-- The end has a history from its first call on, whose frames are those of the bytes at its link, and in it the peer has
-- closed the connection without an error.
pub record ServedFrames {L : Type 0} (link : Ghosts L) (first : L) (old new : End L) (count : ℕ)
    (served : WasServed link old new count) : Type 0 where
  pub lived : Lived link first (called served.turns) (told served.turns) new (served_life link old new count served)
  pub closed : IsClosedByPeer (served_life link old new count served).h

-- an end on which nothing was done before, and that was served
abbrev pub ServedRun : {L : Type 0} → Ghosts L → Type 0
ServedRun {L} link =
    (first : L) (kind : PeerKind) (old new : End L) (count : ℕ) (served : WasServed link old new count)
    → IsFresh first kind old → ServedFrames link first old new count served

-- ---- a run that sent messages

-- the turns of so many messages, the newest first
abbrev pub turns_by : {L : Type 0} (link : Ghosts L) (old : End L) (sender : ℕ) (message : Sendable) (count : ℕ)
    (new : End L) → SentAll link old sender message count new → List Turn
unfolding SentAll
turns_by link old sender message zero new s = s.turns
turns_by link old sender message (suc n) new s = s.3.turns ++ turns_by link old sender message n s.0 s.2

-- the life of an end behind them
abbrev pub life_by : {L : Type 0} (link : Ghosts L) (old : End L) (sender : ℕ) (message : Sendable) (count : ℕ)
    (new : End L) → SentAll link old sender message count new → Life → Life
unfolding SentAll
life_by link old sender message zero new s l = life_of link old s.turns new s.ran l
life_by link old sender message (suc n) new s l =
    life_of link s.0 s.3.turns new s.3.ran (life_by link old sender message n s.0 s.2 l)

-- the turns before those of the close, and the lives before that and behind
abbrev pub sent_turns : {L : Type 0} (link : Ghosts L) (old new : End L) (message : Sendable) (count : ℕ)
    → ConnectedWith link old new message count → List Turn
sent_turns link old new message count c = turns_by link old c.sender message count c.between c.sent

abbrev pub sent_life : {L : Type 0} (link : Ghosts L) (old new : End L) (message : Sendable) (count : ℕ)
    → ConnectedWith link old new message count → Life
sent_life link old new message count c = life_by link old c.sender message count c.between c.sent unlived

abbrev pub left_life : {L : Type 0} (link : Ghosts L) (old new : End L) (message : Sendable) (count : ℕ)
    → ConnectedWith link old new message count → Life
left_life link old new message count c =
    life_of link c.between c.left.turns new c.left.ran (sent_life link old new message count c)

-- The end has a history from its first call on, whose frames are those of the bytes at its link: up to where it began
-- to close the connection, and to the end; and in it both ends have closed the connection, this end first.
pub record SentFrames {L : Type 0} (link : Ghosts L) (first : L) (old new : End L) (message : Sendable) (count : ℕ)
    (c : ConnectedWith link old new message count) : Type 0 where
  pub before : Lived link first (called (sent_turns link old new message count c))
      (told (sent_turns link old new message count c)) c.between (sent_life link old new message count c)
  pub lived : Lived link first (called c.left.turns ++ called (sent_turns link old new message count c))
      (told (sent_turns link old new message count c) ++ told c.left.turns) new
      (left_life link old new message count c)
  pub closed : IsClosedByBoth (left_life link old new message count c).h

-- the same of a message of that string
abbrev pub ConnectedFrames : {L : Type 0} (link : Ghosts L) (first : L) (old new : End L) (text : List ℕ) (count : ℕ)
    → Connected link old new text count → Type 0
ConnectedFrames link first old new text count c = SentFrames link first old new c.message count c.connected

-- an end on which nothing was done before, and that sent messages and closed the connection
abbrev pub ConnectedRun : {L : Type 0} → Ghosts L → Type 0
ConnectedRun {L} link =
    (first : L) (kind : PeerKind) (old new : End L) (text : List ℕ) (count : ℕ)
    (connected : Connected link old new text count) → IsFresh first kind old
    → ConnectedFrames link first old new text count connected

-- ---- a run that closed the connection

-- The end has a history from its first call on, whose frames are those of the bytes at its link: up to where it began
-- to close the connection, and to the end; and in it both ends have closed the connection, this end first.
pub record LeftFrames {L : Type 0} (link : Ghosts L) (first : L) (old between new : End L) (turns : List Turn)
    (ran : Ran link old turns between) (left : Left link between new) : Type 0 where
  pub before : Lived link first (called turns) (told turns) between (life_of link old turns between ran unlived)
  pub lived : Lived link first (called left.turns ++ called turns) (told turns ++ told left.turns) new
      (life_of link between left.turns new left.ran (life_of link old turns between ran unlived))
  pub closed : IsClosedByBoth
      (life_of link between left.turns new left.ran (life_of link old turns between ran unlived)).h

-- an end on which nothing was done before, and that closed the connection behind these turns
abbrev pub LeftRun : {L : Type 0} → Ghosts L → Type 0
LeftRun {L} link =
    (first : L) (kind : PeerKind) (old between new : End L) (turns : List Turn) (ran : Ran link old turns between)
    (left : Left link between new) → IsFresh first kind old → LeftFrames link first old between new turns ran left
