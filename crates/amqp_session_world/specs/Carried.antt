-- What is promised of two ends with sessions and links, by what happened at their connections.
use Rattle.std.specs.Prelude.{◌≡◌, ℕ, List, map}
use Rattle.amqp_wire.specs.Piped.{Piped}
use Rattle.amqp_transport.specs.Kinds.{amqp_again}
use Rattle.amqp_words.specs.declared.call.Call.{Call as ConnectionCall}
use Rattle.amqp_words.specs.declared.step.End.{End as Side}
use Rattle.amqp_words.specs.declared.step.End.TheVariants.{Client, Listener}
use Rattle.amqp_end.specs.amqp_calls.declared.reply.NamedReply.{NamedReply}
use Rattle.amqp_end.specs.amqp_calls.declared.step.Step.{Step}
use Rattle.amqp_end.specs.amqp_calls.declared.trace.Entry.{Entry}
use Rattle.amqp_peer.specs.Beats.{AllBeats}
use Rattle.amqp_peer.specs.Causes.{AllCaused, IsTied, IsRefusedAt}
use Rattle.amqp_peer.specs.Frames.{asking_of, others_of}
use Rattle.amqp_peer.specs.Gated.{IsGated}
use Rattle.amqp_peer.specs.History.{Local, made_in, replied_in, read_in, wrote_in, Once}
use Rattle.amqp_peer.specs.Replies.{AreReplies}
use Rattle.amqp_peer.specs.Said.{HasSaid}
use Rattle.amqp_ends.specs.Joined.{Meets}
use Rattle.amqp_ends.specs.Streams.{IsFront, Serves}
use Rattle.amqp_end.specs.declared.end.End.{End}
use Rattle.amqp_end.specs.Deeds.{asked_by, heard_by, given_by, told_by}
use Rattle.amqp_session_world.specs.Turn.{AreMade}
use Rattle.amqp_session_world.specs.Lives.{Life, unlived, life_of, wrote_at, told_at, calls_at}

-- What an end of a connection keeps: its replies are those of its calls, and each has its cause in what happened before it; what it wrote is what
-- its calls and what it read allow; its frames are those of its bytes; what it says on its connection, and why it closes it; and each of its empty
-- frames was due (part 2, section 2.4; part 5, section 5.3.2).
pub record KeepsPromises (h : List Local) : Type 0 where
  pub replies : AreReplies (made_in h) (replied_in h)
  pub causes : AllCaused h
  pub writes : IsGated (made_in h) (wrote_in h) (read_in h)
  pub frames : IsTied h
  pub says : HasSaid h
  pub beats : AllBeats h

-- An end with sessions, the life of its connection, and that of the other end's. What its sessions were handed, with what waits for them, are the
-- frames of sessions that its connection was given, in order, and what its connection queued of sessions are the frames that they gave it, in
-- order. Its calls, its bytes and its answers are these. What it read are the first bytes that the other wrote, and what its sessions were handed, those
-- Begins by which it is asked for a session and the other frames, are the first that the other's sessions gave, as they are read again (part 2,
-- section 2.5). No frame that it read was refused for its size (section 2.4.1).
pub record Carried (near : End Piped) (calls : List (ℕ × ConnectionCall)) (wrote : List ℕ) (answers : List NamedReply) (l m : Life) : Type 0 where
  pub serves : Serves near.connection (asked_by l.deeds) (heard_by l.deeds) (given_by l.deeds) l.h
  pub promises : KeepsPromises l.h
  pub calls_are : made_in l.h ≡ calls
  pub wrote_is : wrote_in l.h ≡ wrote
  pub told_are : told_by l.deeds ≡ answers
  pub meets : Meets l.h m.h
  pub asked : IsFront (asked_by l.deeds) (map amqp_again (asking_of (given_by m.deeds)))
  pub heard : IsFront (heard_by l.deeds) (map amqp_again (others_of (given_by m.deeds)))
  pub unrefused : Once IsRefusedAt l.h → ⊥

-- the life of an end in steps from the start
abbrev pub life_in : Side → (steps : List Step) (entries : List Entry) → AreMade steps entries → Life
life_in e steps entries m = life_of e m.first steps m.view m.turns unlived

-- two ends made these steps from the start, these are their entries, and the connection of each carries its sessions
pub record AreCarried (steps : List Step) (entries : List Entry) : Type 0 where
  pub made : AreMade steps entries
  pub client : Carried made.view.client (calls_at Client 0 steps) (wrote_at Client steps entries) (told_at Client steps entries) (life_in Client steps entries made) (life_in Listener steps entries made)
  pub listener : Carried made.view.listener (calls_at Listener 0 steps) (wrote_at Listener steps entries) (told_at Listener steps entries) (life_in Listener steps entries made) (life_in Client steps entries made)
