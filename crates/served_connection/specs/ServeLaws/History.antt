-- The history of a run over a link: what happened at the connection of an end, and the bytes that passed there
-- (OASIS AMQP 1.0, part 2, sections 2.3 to 2.5).
use Rattle.std.specs.Prelude.{◌≡◌, ◌≤◌, ℕ, Bool, true, false, List, [], ◌∷◌, ◌++◌, None}
use Rattle.list_laws.specs.Told.{Loses, Gains}
use Rattle.amqp_wire.specs.declared.link.Link.{Ghosts}
use Rattle.amqp_words.specs.declared.call.Call.{Call as ConnectionCall}
use Rattle.amqp_calls.specs.declared.reply.NamedReply.{NamedReply}
use Rattle.amqp_links.specs.State.{seen as linked, no_links}
use Rattle.amqp_sessions.specs.State.{seen, none_begun}
use Rattle.amqp_peer.specs.declared.peer.PeerKind.{PeerKind}
use Rattle.amqp_peer.specs.declared.peer.PeerKind.TheVariants.{Client, Listener}
use Rattle.amqp_peer.specs.History.{Local, made_in, read_in, wrote_in}
use Rattle.amqp_peer.specs.Peering.{fresh, link_of}
use Rattle.amqp_end.specs.declared.end.End.{End}
use Rattle.amqp_end.specs.Deeds.{asked_by, heard_by, given_by, told_by}
use Rattle.amqp_end.specs.Goes.{on_connection}
use Rattle.amqp_ends.specs.Streams.{Serves}
use Rattle.amqp_session_world.specs.Carried.{KeepsPromises}
use Rattle.amqp_session_world.specs.Lives.{Life, unlived, lived}
use Rattle.amqp_serve.specs.Deeds.{deeds_in}
use Rattle.amqp_serve.specs.Ran.{Turn, calls, polls, waits, tells, forgets, IsTurn, Ran, told}
use Rattle.amqp_session_world.specs.Answers.{AreOfSessions, IsTold}

-- ---- the start

-- a listener accepts the links of its peer
abbrev pub accepts : PeerKind → Bool
accepts Client = false
accepts Listener = true

-- an end of that kind over that link, on which nothing was done
pub record IsFresh {L : Type 0} (first : L) (kind : PeerKind) (e : End L) : Type 0 where
  pub connection : e.connection ≡ fresh first kind
  pub sessions : seen e.sessions ≡ none_begun
  pub links : linked e.links ≡ no_links (accepts kind)
  pub replies : e.replies.items ≡ []
  pub last : e.last ≡ None

-- ---- turns

-- the calls on the connection in turns, the newest first
abbrev pub called : List Turn → List (ℕ × ConnectionCall)
called [] = []
called (calls name call ∷ ts) = on_connection name call ++ called ts
called (polls ∷ ts) = called ts
called (waits ∷ ts) = called ts
called (tells rs ∷ ts) = called ts
called (forgets name ∷ ts) = called ts

-- the life of an end behind a turn: a call or a poll begins with its moment, and in the others nothing happens at the
-- connection
abbrev pub turned : {L : Type 0} (link : Ghosts L) (old : End L) (t : Turn) (new : End L) → IsTurn link old t new
    → Life → Life
turned link old (calls name call) new k l = lived k.1 k.2.deeds l
turned link old polls new k l = lived k.0 k.1.deeds l
turned link old waits new k l = l
turned link old (tells rs) new k l = l
turned link old (forgets name) new k l = l

-- the same behind turns, the newest first
abbrev pub life_of : {L : Type 0} (link : Ghosts L) (old : End L) (ts : List Turn) (new : End L)
    → Ran link old ts new → Life → Life
unfolding Ran
life_of link old [] new k l = l
life_of link old (t ∷ ts) new k l = turned link k.0 t new k.2 (life_of link old ts k.0 k.1 l)

-- ---- the history

-- Between these a link gave the bytes that were read in that history, and took those that were written; where it does
-- not tell its bytes, nothing is said of them.
pub record Passed {L : Type 0} (link : Ghosts L) (old : L) (h : List Local) (new : L) : Type 0 where
  pub reads : Loses (link.input old) (link.input new) (read_in h)
  pub writes : Gains (link.output old) (link.output new) (wrote_in h)
  pub mark : link.mark new ≡ link.mark old
  pub faults : link.faults old ≤ link.faults new

-- An end over a link that was the first one as the end began, and its life since. What its sessions were handed, with
-- what waits for them, are the frames of sessions that its connection was given, in order, and what its connection
-- queued of sessions are the frames that they gave it, in order (part 2, section 2.5). Its frames are those of the
-- bytes that it read and wrote, each of its replies has its cause before it, and the rest of what a connection
-- promises. Its calls on the connection are these; what it told are these answers and then those that were not taken;
-- those of its connection are the replies of the history. The bytes are those of its link.
pub record Lived {L : Type 0} (link : Ghosts L) (first : L) (made : List (ℕ × ConnectionCall))
    (answers : List NamedReply) (e : End L) (l : Life) : Type 0 where
  pub serves : Serves e.connection (asked_by l.deeds) (heard_by l.deeds) (given_by l.deeds) l.h
  pub promises : KeepsPromises l.h
  pub calls_are : made_in l.h ≡ made
  pub told_are : told_by l.deeds ≡ answers ++ e.replies.items
  pub replied : IsTold (told_by l.deeds) e.connection.replies l.h
  pub sessions_reply : AreOfSessions (seen e.sessions).replies
  pub passed : (d : L) → Passed link first l.h (link_of d e.connection)

-- an end on which nothing was done has lived nothing
abbrev pub LivesBegin : {L : Type 0} → Ghosts L → Type 0
LivesBegin {L} link =
    (first : L) (kind : PeerKind) (e : End L) → IsFresh first kind e → Lived link first [] [] e unlived

-- an end that has lived goes on so, by what is done with it in turns
abbrev pub LivesGo : {L : Type 0} → Ghosts L → Type 0
LivesGo {L} link =
    (first : L) (cs : List (ℕ × ConnectionCall)) (answers : List NamedReply) (old new : End L) (ts : List Turn)
    (l : Life) (ran : Ran link old ts new) → Lived link first cs answers old l
    → Lived link first (called ts ++ cs) (answers ++ told ts) new (life_of link old ts new ran l)

-- what it did since is what it does in those turns, and before
abbrev pub LivesDo : {L : Type 0} → Ghosts L → Type 0
LivesDo {L} link =
    (old new : End L) (ts : List Turn) (l : Life) (ran : Ran link old ts new)
    → (life_of link old ts new ran l).deeds ≡ deeds_in link old ts new ran ++ l.deeds
