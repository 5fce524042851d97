-- Messages over a link whose two ends have one limit (OASIS AMQP 1.0, part 2, sections 2.6.14 and 2.7.3).
use Rattle.std.specs.Prelude.{◌≡◌, ℕ, true, List, [], ◌++◌}
use Rattle.amqp_link.specs.Link.{is_attached}
use Rattle.amqp_parts.specs.declared.part.Part.{Part}
use Rattle.amqp_receiver.specs.Receiver.{State as Receiver}
use Rattle.amqp_sender.specs.Sender.{State as Sender}
use Rattle.amqp_session.specs.declared.session.SessionState.TheVariants as state
use Rattle.amqp_session.specs.State.{State as Session}
use Rattle.session_laws.specs.Handing.{inputs, handed_over, heard}
use Rattle.session_laws.specs.Holding as session
use Rattle.session_laws.specs.Holding.{AllStay, told}
use Rattle.session_laws.specs.Laws.{Arrive}
use Rattle.session_laws.specs.Messages.{transfers, on}
use Rattle.session_laws.specs.Receiving as receiving
use Rattle.session_laws.specs.Receiving.{IsReady, read}
use Rattle.session_laws.specs.Sending as sending
use Rattle.first_messages.specs.Before.{HasNone}

-- A sender, its session, the session at the other end and a receiver there, from a moment at which both have attached
-- the link and nothing was sent, as `Path` of session_laws has them; but of the Attaches no more is asked than that
-- both links have one limit of messages.
pub record Course (handle : ℕ) (s : Sender) (ms : List sending.Move) (t : Session) (ns : List session.Move)
    (u : Session) (js : List session.Move) (r : Receiver) (ks : List receiving.Move) : Type 0 where
  pub attached : is_attached s.link.phase ≡ true
  pub unsent : transfers s.link.output ≡ []
  pub has_none : HasNone handle t
  pub stays : AllStay handle ns
  pub begun : u.state ≡ state.Mapped
  pub unhanded : on handle (inputs u.incoming) ≡ []
  pub ready : IsReady r
  pub limit : s.link.max_message_size ≡ r.link.max_message_size
  pub untold : List Part
  pub takes : on handle (told t ns) ++ untold ≡ transfers (sending.written s ms)
  pub unheard : List Part
  pub hears : on handle (session.transfers (heard js)) ++ unheard ≡ on handle (session.transfers (session.written t ns))
  pub unread : List Part
  pub reads : read ks ++ unread ≡ on handle (inputs (handed_over u js))

abbrev pub MessagesArriveWithin : Type 0
MessagesArriveWithin =
    (handle : ℕ) (s : Sender) (ms : List sending.Move) (t : Session) (ns : List session.Move) (u : Session)
    (js : List session.Move) (r : Receiver) (ks : List receiving.Move)
    → Course handle s ms t ns u js r ks → Arrive s ms r ks
