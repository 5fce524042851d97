-- Messages, from the call that sends one to the call that receives it (OASIS AMQP 1.0, part 2, sections 2.6.3, 2.6.12 and 2.6.14).
use Rattle.std.specs.Prelude.{◌≡◌, ◌⊎◌, ℕ, Bool, true, List, [], ◌++◌, map}
use Rattle.amqp_parts.specs.declared.part.Part.{Part}
use Rattle.amqp_performatives.specs.declared.attach.Attach.{Attach}
use Rattle.amqp_link.specs.declared.settings.AcceptSettings.{AcceptSettings}
use Rattle.amqp_link.specs.Accept.{echoed, accepted}
use Rattle.amqp_link.specs.Link.{Link, is_attached, attach_read, asked}
use Rattle.amqp_receiver.specs.Receiver.{State as Receiver}
use Rattle.amqp_sender.specs.Sender.{State as Sender}
use Rattle.amqp_session.specs.declared.session.SessionState.TheVariants as state
use Rattle.amqp_session.specs.State.{State as Session}
use Rattle.session_laws.specs.Messages.{Message, Delivery, transfers, on}
use Rattle.session_laws.specs.Sending as sending
use Rattle.session_laws.specs.Sending.{sent}
use Rattle.session_laws.specs.Holding as session
use Rattle.session_laws.specs.Holding.{AllStay, told}
use Rattle.session_laws.specs.Handing.{inputs, handed_over, heard}
use Rattle.session_laws.specs.Receiving as receiving
use Rattle.session_laws.specs.Receiving.{IsReady, AreAnswers, read, answered}

-- The link as it is once this end has attached it and read the peer's Attach, but for the frames that were taken
-- off: those are the two Attaches.
abbrev pub HasAsked : Attach → Attach → Link → Type 0
HasAsked mine theirs l = (verify : Bool) × (l ≡ record (attach_read theirs (asked verify mine)) { output = l.output })

-- the same where this end has answered the peer's Attach
abbrev pub HasAnswered : Attach → Attach → Link → Type 0
HasAnswered mine theirs l =
    (settings : AcceptSettings) × ((handle : ℕ) × ((mine ≡ echoed settings handle theirs) × (l ≡ record (accepted settings handle theirs) { output = l.output })))

-- a link that stands by two Attaches, that of this end and that of the peer
abbrev pub StandsBy : Attach → Attach → Link → Type 0
StandsBy mine theirs l = HasAsked mine theirs l ⊎ HasAnswered mine theirs l

-- A link of two ends, from a moment at which both have attached it and nothing was sent: a sender, its session, the
-- session at the other end and a receiver there, each with what it goes through. Each takes a front of what the one
-- before it has to give: the session of what the sender writes, the other session of what that one writes on the
-- handle, the receiver of what that one hands over.
pub record Path (handle : ℕ) (s : Sender) (ms : List sending.Move) (t : Session) (ns : List session.Move) (u : Session) (js : List session.Move) (r : Receiver) (ks : List receiving.Move) : Type 0 where
  pub attached : is_attached s.link.phase ≡ true
  pub unsent : transfers s.link.output ≡ []
  pub unheld : on handle t.held ≡ []
  pub unwritten : on handle (session.transfers t.output) ≡ []
  pub stays : AllStay handle ns
  pub begun : u.state ≡ state.Mapped
  pub unhanded : on handle (inputs u.incoming) ≡ []
  pub ready : IsReady r
  pub mine : Attach
  pub theirs : Attach
  pub sends_by : StandsBy mine theirs s.link
  pub receives_by : StandsBy theirs mine r.link
  pub untold : List Part
  pub takes : on handle (told t ns) ++ untold ≡ transfers (sending.written s ms)
  pub unheard : List Part
  pub hears : on handle (session.transfers (heard js)) ++ unheard ≡ on handle (session.transfers (session.written t ns))
  pub unread : List Part
  pub reads : read ks ++ unread ≡ on handle (inputs (handed_over u js))

abbrev pub message_of : Delivery → Message
message_of d = d.message

-- what the receiver answers are the first of the messages that were sent, in order and unchanged, each with the
-- number of its delivery
pub record Arrive (s : Sender) (ms : List sending.Move) (r : Receiver) (ks : List receiving.Move) : Type 0 where
  pub deliveries : List Delivery
  pub others : List Message
  pub all : sent s ms ≡ map message_of deliveries ++ others
  pub answers : AreAnswers deliveries (answered r ks)

abbrev pub MessagesArriveInOrder : Type 0
MessagesArriveInOrder =
    (handle : ℕ) (s : Sender) (ms : List sending.Move) (t : Session) (ns : List session.Move) (u : Session)
    (js : List session.Move) (r : Receiver) (ks : List receiving.Move)
    → Path handle s ms t ns u js r ks → Arrive s ms r ks

-- two ends that stand by the same two Attaches have one limit of messages (section 2.7.3)
abbrev pub LimitsAgree : Type 0
LimitsAgree =
    (mine theirs : Attach) (l n : Link) → StandsBy mine theirs l → StandsBy theirs mine n
    → is_attached l.phase ≡ true → is_attached n.phase ≡ true → l.max_message_size ≡ n.max_message_size
