-- The first link between two ends on a handle of a session (OASIS AMQP 1.0, part 2, sections 2.5.1 and 2.6.2).
use Rattle.std.specs.Prelude.{◌≡◌, ℕ, Bool, true, List, [], ◌++◌, Some}
use Rattle.amqp_words.specs.declared.step.End.{End as Side}
use Rattle.amqp_calls.specs.declared.step.Step.{Step}
use Rattle.amqp_calls.specs.declared.trace.Entry.{Entry}
use Rattle.amqp_link.specs.Link.{is_attached}
use Rattle.amqp_link_calls.specs.Called.{Called}
use Rattle.amqp_link_calls.specs.Side.{Sender, Receiver}
use Rattle.amqp_links.specs.Parts.{is_heard}
use Rattle.amqp_links.specs.State.{State as Links, no_links, place_of, link_of}
use Rattle.amqp_receiver.specs.Receiver.{State as ReceiverState}
use Rattle.amqp_sender.specs.Sender.{State as SenderState}
use Rattle.amqp_session.specs.declared.session.SessionState.TheVariants.{Mapped}
use Rattle.amqp_session.specs.State.{State as Session}
use Rattle.amqp_sessions.specs.Parts.{EndpointState}
use Rattle.amqp_sessions.specs.State.{State as Sessions, endpoint_of}
use Rattle.amqp_world.specs.History.{other}
use Rattle.amqp_session_world.specs.Carried.{AreCarried}
use Rattle.session_laws.specs.Handing.{inputs}
use Rattle.session_laws.specs.Holding.{Move, AllStay, transfers as transfers_in}
use Rattle.session_laws.specs.Laws.{Arrive}
use Rattle.session_laws.specs.Messages.{transfers, on as on_handle}
use Rattle.session_laws.specs.Receiving.{IsReady}
use Rattle.link_lives.specs.Deeds.{all_handed, parts_told}
use Rattle.session_lives.specs.Channels.{IsJoined}
use Rattle.session_lives.specs.Lives.{moves}
use Rattle.session_lives.specs.Logs.{own}
use Rattle.world_lives.specs.EndLives.Laws.{SenderPasses, ReceiverPasses}
use Rattle.world_lives.specs.Lived.{Both, sessions_by, links_by, Moment, MomentOf}
use Rattle.world_lives.specs.Hearing.{read_before, written_before}
use Rattle.world_lives.specs.Alone.{StandsAlone}
use Rattle.world_lives.specs.Naming.{AreOnce}
use Rattle.world_lives.specs.WorldLinks.Cutting.{AreBehind}
use Rattle.first_messages.specs.Before.{HasNone}
use Rattle.first_messages.specs.Writing.{AreOwn}
use Rattle.link_tables_agree.specs.Leads.{Leads, AreClear, attaches_at, AreQuiet}

-- ---- what was not written

-- before a moment the links of an end have given a session no Transfer on that handle, and none is on its way to it
abbrev pub NoneWasGiven : (handle session : ℕ) (none : Links) (all : List Both) (last : Sessions) (end : Links)
    → Moment none all last end → Type 0
NoneWasGiven handle session none all last end q =
    on_handle handle (parts_told session (all_handed (links_by q.before) ++ q.links.output)) ≡ []

-- then none was written on the channel, or is to be, and no other session is on it
pub record IsUnwritten (c handle session : ℕ) (none : Links) (all : List Both) (last : Sessions) (end : Links)
    (q : Moment none all last end) : Type 0 where
  pub written : on_handle handle (transfers_in (written_before c none all last end q)) ≡ []
  pub left : on_handle handle (parts_told session q.links.output) ≡ []
  pub waits : (x : EndpointState) → endpoint_of session q.sessions ≡ Some x → HasNone handle x.session
  pub alone : StandsAlone c session q.sessions

-- where the session alone was made on the channel
abbrev pub NoneIsWritten : Type 0
NoneIsWritten =
    (accepts : Bool) (all : List Both) (last : Sessions) (end : Links) (q : Moment (no_links accepts) all last end)
    (c handle session : ℕ) → AreOwn c session (sessions_by q.before)
    → NoneWasGiven handle session (no_links accepts) all last end q
    → IsUnwritten c handle session (no_links accepts) all last end q

-- ---- what was not read

-- A session has no Transfer on that handle for its links, and none is on its way from it to them.
pub record IsUnread (handle session : ℕ) (y : EndpointState) (none : Links) (all : List Both) (last : Sessions)
    (end : Links) (p : Moment none all last end) : Type 0 where
  pub handed : on_handle handle (inputs y.session.incoming) ≡ []
  pub waits : on_handle handle (inputs (own session p.sessions.incoming)) ≡ []

-- so it is where none was read on the channel on which the peer has begun it
abbrev pub NoneIsRead : Type 0
NoneIsRead =
    (accepts : Bool) (all : List Both) (last : Sessions) (end : Links) (p : Moment (no_links accepts) all last end)
    (c handle session : ℕ) (y : EndpointState) → AreOnce all → endpoint_of session p.sessions ≡ Some y
    → IsJoined c y.session → on_handle handle (transfers_in (read_before c (no_links accepts) all last end p)) ≡ []
    → IsUnread handle session y (no_links accepts) all last end p

-- ---- two ends

-- A sender that stands at a moment, with its session, which both ends have begun, and which alone its end makes on that
-- channel.
pub record Starts (c n : ℕ) (l : Called) (t : SenderState) (x : EndpointState) (none : Links) (all : List Both)
    (last : Sessions) (end : Links) (q : Moment none all last end) : Type 0 where
  pub stands : link_of n q.links ≡ Some l
  pub sends : l.side ≡ Sender t
  pub session : endpoint_of l.session q.sessions ≡ Some x
  pub mapped : x.session.state ≡ Mapped
  pub channel : x.session.channel ≡ c
  pub only : AreOwn c l.session (sessions_by all)

-- no Transfer on the handle was given to the session yet, and the sender is to write none
pub record HasNotBegun (handle : ℕ) (l : Called) (t : SenderState) (none : Links) (all : List Both) (last : Sessions)
    (end : Links) (q : Moment none all last end) : Type 0 where
  pub none_given : NoneWasGiven handle l.session none all last end q
  pub silent : transfers t.link.output ≡ []

-- A receiver of the other end, whose session the peer has begun on that channel. A handle of the peer leads to it,
-- and no Attach that waits is on that handle; from then on the peer neither detaches the link nor attaches it, or
-- another on that handle, again.
pub record Awaits (c handle m : ℕ) (l : Called) (u : ReceiverState) (y : EndpointState) (none : Links)
    (all : List Both) (last : Sessions) (end : Links) (p : Moment none all last end) : Type 0 where
  pub stands : link_of m p.links ≡ Some l
  pub receives : l.side ≡ Receiver u
  pub session : endpoint_of l.session p.sessions ≡ Some y
  pub joined : IsJoined c y.session
  pub leads : Leads handle l.session m p.links
  pub clear : AreClear handle (attaches_at (place_of l.session p.links))
  pub quiet : AreQuiet handle l.session m p.links (links_by p.since) end p.goes.links_did

-- Both ends have attached the link, on that handle of the sender, with one limit of messages; the sender does not
-- detach. They have begun the receiver's session, and the receiver has read nothing that waits.
pub record AreAgreed (handle : ℕ) (t : SenderState) (ns : List Move) (y : Session) (u : ReceiverState) : Type 0 where
  pub attached : is_attached t.link.phase ≡ true
  pub holds : t.link.own.handle ≡ handle
  pub limit : t.link.max_message_size ≡ u.link.max_message_size
  pub stays : AllStay handle ns
  pub begun : y.state ≡ Mapped
  pub ready : IsReady u

-- Both go on by moves. As long as the sender has its handle, until both ends have sent their Detach, what the receiver
-- answers are the first of the messages that the sender has sent.
pub record Carries (handle m n : ℕ) (d l : Called) (u : ReceiverState) (t : SenderState) (y x : EndpointState)
    (none : Links) (all : List Both) (last : Sessions) (end : Links) (p : Moment none all last end)
    (none' : Links) (all' : List Both) (last' : Sessions) (end' : Links) (q : Moment none' all' last' end')
    : Type 0 where
  pub receives : ReceiverPasses m d.session u y p.sessions (sessions_by p.since) last p.links (links_by p.since) end
      p.goes
  pub sends : SenderPasses n l.session t x q.sessions (sessions_by q.since) last' q.links (links_by q.since) end'
      q.goes
  pub arrive : is_heard sends.sender.link ≡ true → AreAgreed handle t (moves sends.life.steps) y.session u
      → Arrive t sends.sender.moves u receives.receiver.moves

-- whichever of the two ends the sender is at, from two moments behind the same steps
abbrev pub FirstLinksCarry : Type 0
FirstLinksCarry =
    (e : Side) (steps : List Step) (entries : List Entry) (k : AreCarried steps entries) (c handle : ℕ)
    (p : MomentOf e steps entries k.made) (m : ℕ) (d : Called) (u : ReceiverState) (y : EndpointState)
    (q : MomentOf (other e) steps entries k.made) (n : ℕ) (l : Called) (t : SenderState) (x : EndpointState)
    → AreBehind e steps entries k.made p q → Awaits c handle m d u y _ _ _ _ p → Starts c n l t x _ _ _ _ q
    → HasNotBegun handle l t _ _ _ _ q → Carries handle m n d l u t y x _ _ _ _ p _ _ _ _ q
