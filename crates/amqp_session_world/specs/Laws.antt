-- The answers of an end with sessions and links, and the replies of its connection.
use Rattle.std.specs.Prelude.{ℕ, List, ◌++◌}
use Rattle.amqp_wire.specs.declared.link.Link.{Ghosts}
use Rattle.amqp_words.specs.declared.step.End.{End as Side}
use Rattle.amqp_end.specs.amqp_calls.declared.reply.NamedReply.{NamedReply}
use Rattle.amqp_end.specs.amqp_calls.declared.step.Step.{Step}
use Rattle.amqp_end.specs.amqp_calls.declared.trace.Entry.{Entry}
use Rattle.amqp_end.specs.amqp_links.State.{State as Links}
use Rattle.amqp_peer.specs.History.{Local}
use Rattle.amqp_peer.specs.Peering.{Peering}
use Rattle.amqp_end.specs.amqp_sessions.State.{State}
use Rattle.amqp_end.specs.Deeds.{Deed, Did, behind, told_by}
use Rattle.amqp_session_world.specs.Carried.{AreCarried, life_in}
use Rattle.amqp_session_world.specs.Lives.{told_at}
use Rattle.amqp_session_world.specs.Answers.{AreOfSessions, IsTold, AreAnswered}

-- whatever an end does, its sessions go on to answer calls for sessions alone
abbrev pub SessionsAnswer : {L : Type 0} → Ghosts L → Type 0
SessionsAnswer {L} link =
    (at : ℕ) (p : Peering L) (s : State) (l : Links) (ds : List Deed) (p' : Peering L) (s' : State) (l' : Links)
    → Did link at p s l ds p' s' l' → AreOfSessions s.replies → AreOfSessions s'.replies

-- whatever an end does, what it tells of its connection goes on to be the replies of its history
abbrev pub EndsTell : {L : Type 0} → Ghosts L → Type 0
EndsTell {L} link =
    (at : ℕ) (p : Peering L) (s : State) (l : Links) (ds : List Deed) (p' : Peering L) (s' : State) (l' : Links)
    (told : List NamedReply) (h : List Local) → Did link at p s l ds p' s' l' → AreOfSessions s.replies
    → IsTold told p.replies h → IsTold (told ++ told_by ds) p'.replies (behind at ds h)

-- at each end of a trace, the answers of its connection are replies of its history, each with its cause
abbrev pub ConnectionsAnswer : Type 0
ConnectionsAnswer =
    (e : Side) (steps : List Step) (entries : List Entry) (k : AreCarried steps entries)
    → AreAnswered e steps (told_at e steps entries) (life_in e steps entries k.made).h
