-- Links that have sent no message yet (OASIS AMQP 1.0, part 2, section 2.6.12).
use Rattle.std.specs.Prelude.{◌≡◌, ℕ, Bool, List, [], ◌++◌, Some}
use Rattle.amqp_words.specs.declared.step.End.{End as Side}
use Rattle.amqp_calls.specs.declared.step.Step.{Step}
use Rattle.amqp_calls.specs.declared.trace.Entry.{Entry}
use Rattle.amqp_link_calls.specs.Called.{Called}
use Rattle.amqp_link_calls.specs.Side.{Side as LinkSide, Sender, Receiver}
use Rattle.amqp_links.specs.State.{State as Links, no_links, link_of}
use Rattle.amqp_sender.specs.Sender.{State as SenderState}
use Rattle.amqp_receiver.specs.Receiver.{State as ReceiverState}
use Rattle.amqp_sessions.specs.Parts.{EndpointState}
use Rattle.amqp_sessions.specs.State.{State as Sessions}
use Rattle.amqp_world.specs.History.{other}
use Rattle.amqp_session_world.specs.Carried.{AreCarried}
use Rattle.session_laws.specs.Messages.{transfers}
use Rattle.world_lives.specs.Lived.{Both, Moment, MomentOf}
use Rattle.world_lives.specs.Naming.{AreOnce}
use Rattle.world_lives.specs.WorldLinks.Cutting.{HaveMoments, AreBehind}
use Rattle.world_lives.specs.WorldLinks.Starting.{NoneWasGiven, Starts, Awaits, Carries}

-- a sender keeps what becomes of each message that it has sent
abbrev pub IsUnsent : LinkSide → Type 0
IsUnsent (Sender s) = s.settlements ≡ []
IsUnsent (Receiver s) = Unit {0}

-- no link of that session has sent one
abbrev pub AreUnsent : ℕ → Links → Type 0
AreUnsent session s = (n : ℕ) (l : Called) → link_of n s ≡ Some l → l.session ≡ session → IsUnsent l.side

-- by a moment they have given the session no Transfer, on whichever handle, and none is to write one
pub record GaveNone (session : ℕ) (none : Links) (all : List Both) (last : Sessions) (end : Links)
    (q : Moment none all last end) : Type 0 where
  pub none_given : (handle : ℕ) → NoneWasGiven handle session none all last end q
  pub silent : (n : ℕ) (l : Called) (t : SenderState) → link_of n q.links ≡ Some l → l.session ≡ session
      → l.side ≡ Sender t → transfers t.link.output ≡ []

-- from the start, where names are used once
abbrev pub UnsentGaveNone : Type 0
UnsentGaveNone =
    (accepts : Bool) (all : List Both) (last : Sessions) (end : Links) (q : Moment (no_links accepts) all last end)
    (session : ℕ) → AreOnce all → AreUnsent session q.links → GaveNone session (no_links accepts) all last end q

-- so a link carries its messages from between two steps on, where no link of the sender's session has sent one
abbrev pub UnsentLinksCarry : Type 0
UnsentLinksCarry =
    (e : Side) (steps : List Step) (entries : List Entry) (k : AreCarried steps entries) (c handle : ℕ)
    (p : MomentOf e steps entries k.made) (m : ℕ) (d : Called) (u : ReceiverState) (y : EndpointState)
    (q : MomentOf (other e) steps entries k.made) (n : ℕ) (l : Called) (t : SenderState) (x : EndpointState)
    → AreBehind e steps entries k.made p q → Awaits c handle m d u y _ _ _ _ p → Starts c n l t x _ _ _ _ q
    → AreUnsent l.session q.links → Carries handle m n d l u t y x _ _ _ _ p _ _ _ _ q

-- wherever the steps are cut in two
abbrev pub LinksCarryFromTheStart : Type 0
LinksCarryFromTheStart =
    (before after : List Step) (entries : List Entry) (k : AreCarried (before ++ after) entries)
    (h : HaveMoments before after entries k.made) (e : Side) (c handle m : ℕ) (d : Called) (u : ReceiverState)
    (y : EndpointState) (n : ℕ) (l : Called) (t : SenderState) (x : EndpointState)
    → Awaits c handle m d u y _ _ _ _ (h.moment e) → Starts c n l t x _ _ _ _ (h.moment (other e))
    → AreUnsent l.session (h.moment (other e)).links
    → Carries handle m n d l u t y x _ _ _ _ (h.moment e) _ _ _ _ (h.moment (other e))
