-- Messages between two ends that made steps from the start (OASIS AMQP 1.0, part 2, sections 2.5 and 2.6).
use Rattle.std.specs.Prelude.{◌≡◌, ℕ, true, List, [], Some}
use Rattle.amqp_performatives.specs.declared.attach.Attach.{Attach}
use Rattle.amqp_words.specs.declared.step.End.{End as Side}
use Rattle.amqp_calls.specs.declared.step.Step.{Step}
use Rattle.amqp_calls.specs.declared.trace.Entry.{Entry}
use Rattle.amqp_link.specs.Link.{is_attached}
use Rattle.amqp_link_calls.specs.Called.{Called}
use Rattle.amqp_link_calls.specs.Side.{Sender, Receiver}
use Rattle.amqp_links.specs.State.{State as Links, link_of}
use Rattle.amqp_receiver.specs.Receiver.{State as ReceiverState}
use Rattle.amqp_sender.specs.Sender.{State as SenderState}
use Rattle.amqp_session.specs.declared.session.SessionState.TheVariants.{Mapped}
use Rattle.amqp_session.specs.State.{State as Session}
use Rattle.amqp_sessions.specs.Parts.{EndpointState}
use Rattle.amqp_sessions.specs.State.{State as Sessions, endpoint_of}
use Rattle.amqp_world.specs.History.{other}
use Rattle.amqp_session_world.specs.Carried.{AreCarried}
use Rattle.session_laws.specs.Handing.{inputs}
use Rattle.session_laws.specs.Holding.{Move, AllStay, transfers as transfers_in}
use Rattle.session_laws.specs.Laws.{StandsBy, Arrive}
use Rattle.session_laws.specs.Messages.{transfers, on as on_handle}
use Rattle.session_laws.specs.Receiving.{IsReady}
use Rattle.link_lives.specs.Deeds.{parts_told, AreApart}
use Rattle.link_lives.specs.Logs.{IsFree}
use Rattle.session_lives.specs.Channels.{IsJoined}
use Rattle.session_lives.specs.Lives.{moves}
use Rattle.session_lives.specs.Logs.{own}
use Rattle.world_lives.specs.EndLives.Laws.{SenderPasses, ReceiverPasses, AreLed}
use Rattle.world_lives.specs.Lived.{Both, sessions_at, sessions_by, links_at, links_by, Moment, MomentOf}
use Rattle.world_lives.specs.Hearing.{Listens, Speaks, read_before, written_before}
use Rattle.world_lives.specs.Alone.{StandsAlone, AreElsewhere}
use Rattle.world_lives.specs.Naming.{AreOnce}

-- Both ends have attached a link by the same two Attaches, on that handle of the sender, and nothing was sent on it
-- yet; the sender does not detach; both ends have begun the receiver's session.
pub record AreAttached (handle : ℕ) (t : SenderState) (x : Session) (ns : List Move) (y : Session) (u : ReceiverState)
    : Type 0 where
  pub attached : is_attached t.link.phase ≡ true
  pub unsent : transfers t.link.output ≡ []
  pub holds : t.link.own.handle ≡ handle
  pub unheld : on_handle handle x.held ≡ []
  pub unwritten : on_handle handle (transfers_in x.output) ≡ []
  pub stays : AllStay handle ns
  pub begun : y.state ≡ Mapped
  pub unhanded : on_handle handle (inputs y.incoming) ≡ []
  pub ready : IsReady u
  pub mine : Attach
  pub theirs : Attach
  pub sends_by : StandsBy mine theirs t.link
  pub receives_by : StandsBy theirs mine u.link

-- A sender of the one end and a receiver of the other, each from a moment at which both have attached the link and
-- nothing of it was on its way: their sessions face each other on the channel of the sender's, no other link writes
-- on the handle, and that leads to the receiver. What the receiver answers are the first of the messages that the
-- sender has sent.
abbrev pub MessagesArrive : Type 0
MessagesArrive =
    (e : Side) (steps : List Step) (entries : List Entry) (k : AreCarried steps entries) (c handle : ℕ)
    (p : MomentOf e steps entries k.made) (m w : ℕ) (u : ReceiverState) (y : EndpointState)
    (b : ReceiverPasses m w u y p.sessions (sessions_by p.since) (sessions_at e k.made.view)
    p.links (links_by p.since) (links_at e k.made.view) p.goes)
    (q : MomentOf (other e) steps entries k.made) (n v : ℕ) (t : SenderState) (x : EndpointState)
    (a : SenderPasses n v t x q.sessions (sessions_by q.since) (sessions_at (other e) k.made.view)
    q.links (links_by q.since) (links_at (other e) k.made.view) q.goes)
    → Listens c w y _ _ _ _ p → Speaks c v x _ _ _ _ q a.life
    → on_handle handle (transfers_in (read_before c _ _ _ _ p))
    ≡ on_handle handle (transfers_in (written_before c _ _ _ _ q))
    → AreApart handle v n a.sender.log → on_handle handle (parts_told v q.links.output) ≡ []
    → AreLed handle w m p.links (links_by p.since) (links_at e k.made.view) p.goes.links_did
    → on_handle handle (inputs (own w p.sessions.incoming)) ≡ []
    → AreAttached handle t x.session (moves a.life.steps) y.session u
    → Arrive t a.sender.moves u b.receiver.moves

-- ---- from what stands at the two moments

-- A sender of an end that stands at a moment, whose call does not wait, with its session: that is on that channel,
-- alone from then on, and both ends have begun it. Names are used once in the life of the end.
pub record IsSender (c n : ℕ) (l : Called) (t : SenderState) (x : EndpointState) (none : Links) (all : List Both)
    (last : Sessions) (end : Links) (q : Moment none all last end) : Type 0 where
  pub once : AreOnce all
  pub stands : link_of n q.links ≡ Some l
  pub sends : l.side ≡ Sender t
  pub free : IsFree n q.links
  pub session : endpoint_of l.session q.sessions ≡ Some x
  pub mapped : x.session.state ≡ Mapped
  pub channel : x.session.channel ≡ c
  pub alone : StandsAlone c l.session q.sessions
  pub elsewhere : AreElsewhere c (sessions_by q.since)

-- a receiver of the other end, whose session the peer has begun on that channel
pub record IsReceiver (c m : ℕ) (l : Called) (u : ReceiverState) (y : EndpointState) (none : Links) (all : List Both)
    (last : Sessions) (end : Links) (p : Moment none all last end) : Type 0 where
  pub once : AreOnce all
  pub stands : link_of m p.links ≡ Some l
  pub receives : l.side ≡ Receiver u
  pub free : IsFree m p.links
  pub session : endpoint_of l.session p.sessions ≡ Some y
  pub joined : IsJoined c y.session

-- Both go on by moves. What is left to be asked for of the link, for the answers to be the first of the messages: that
-- both ends have attached it and nothing of it was on its way, that no other link of the session writes on the handle,
-- and that the handle leads to the receiver.
pub record Carries (c handle m n : ℕ) (d l : Called) (u : ReceiverState) (t : SenderState) (y x : EndpointState)
    (none : Links) (all : List Both) (last : Sessions) (end : Links) (p : Moment none all last end)
    (none' : Links) (all' : List Both) (last' : Sessions) (end' : Links) (q : Moment none' all' last' end')
    : Type 0 where
  pub receives : ReceiverPasses m d.session u y p.sessions (sessions_by p.since) last p.links (links_by p.since) end
      p.goes
  pub sends : SenderPasses n l.session t x q.sessions (sessions_by q.since) last' q.links (links_by q.since) end'
      q.goes
  pub arrive : on_handle handle (transfers_in (read_before c none all last end p))
      ≡ on_handle handle (transfers_in (written_before c none' all' last' end' q))
      → AreApart handle l.session n sends.sender.log → on_handle handle (parts_told l.session q.links.output) ≡ []
      → AreLed handle d.session m p.links (links_by p.since) end p.goes.links_did
      → on_handle handle (inputs (own d.session p.sessions.incoming)) ≡ []
      → AreAttached handle t x.session (moves sends.life.steps) y.session u
      → Arrive t sends.sender.moves u receives.receiver.moves

-- whichever of the two ends the sender is at
abbrev pub LinksCarry : Type 0
LinksCarry =
    (e : Side) (steps : List Step) (entries : List Entry) (k : AreCarried steps entries) (c handle : ℕ)
    (p : MomentOf e steps entries k.made) (m : ℕ) (d : Called) (u : ReceiverState) (y : EndpointState)
    (q : MomentOf (other e) steps entries k.made) (n : ℕ) (l : Called) (t : SenderState) (x : EndpointState)
    → IsReceiver c m d u y _ _ _ _ p → IsSender c n l t x _ _ _ _ q
    → Carries c handle m n d l u t y x _ _ _ _ p _ _ _ _ q
