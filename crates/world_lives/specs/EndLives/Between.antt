-- A link between two ends, from the call that sends to the call that receives (OASIS AMQP 1.0, part 2, section 2.6).
use Rattle.std.specs.Prelude.{◌≡◌, ℕ, true, List, [], ◌++◌}
use Rattle.amqp_parts.specs.declared.part.Part.{Part}
use Rattle.amqp_performatives.specs.declared.attach.Attach.{Attach}
use Rattle.amqp_receiver.specs.Receiver.{State as ReceiverState}
use Rattle.amqp_sender.specs.Sender.{State as SenderState}
use Rattle.amqp_session.specs.declared.session.SessionState.TheVariants.{Mapped}
use Rattle.amqp_session.specs.State.{State as Session}
use Rattle.amqp_link.specs.Link.{is_attached}
use Rattle.amqp_links.specs.State.{State as Links}
use Rattle.amqp_sessions.specs.Parts.{EndpointState}
use Rattle.amqp_sessions.specs.State.{State as Sessions}
use Rattle.session_laws.specs.Handing.{inputs, heard}
use Rattle.session_laws.specs.Holding as session
use Rattle.session_laws.specs.Holding.{AllStay}
use Rattle.session_laws.specs.Laws.{StandsBy, Arrive}
use Rattle.session_laws.specs.Messages.{transfers, on}
use Rattle.session_laws.specs.Receiving.{IsReady}
use Rattle.session_laws.specs.Sending as sending
use Rattle.link_lives.specs.Deeds as links
use Rattle.link_lives.specs.Deeds.{parts_told, AreApart}
use Rattle.session_lives.specs.Deeds as sessions
use Rattle.session_lives.specs.Lives.{moves}
use Rattle.session_lives.specs.Logs.{own}
use Rattle.world_lives.specs.EndLives.Ends.{Together}
use Rattle.world_lives.specs.EndLives.Laws.{SenderPasses, AreLed, ReceiverPasses}

-- whatever a sender goes through that both ends have attached, it sends on its handle: it gets another only as it is attached
-- again, and then it sends no more
abbrev pub SendOnTheirHandle : Type 0
SendOnTheirHandle =
    (handle : ℕ) (t : SenderState) (ms : List sending.Move)
    → is_attached t.link.phase ≡ true → t.link.own.handle ≡ handle → transfers t.link.output ≡ []
    → on handle (transfers (sending.written t ms)) ≡ transfers (sending.written t ms)

-- Both ends have attached the link by the same two Attaches, on that handle of the sender, and nothing was sent on it yet;
-- the sender does not detach; both ends have begun the receiver's session, and that hears a front of what the sender's
-- session writes.
pub record Meet (handle : ℕ) (t : SenderState) (x : Session) (ns : List session.Move) (y : Session) (js : List session.Move)
    (u : ReceiverState) : Type 0 where
  pub attached : is_attached t.link.phase ≡ true
  pub unsent : transfers t.link.output ≡ []
  pub holds : t.link.own.handle ≡ handle
  pub unheld : on handle x.held ≡ []
  pub unwritten : on handle (session.transfers x.output) ≡ []
  pub stays : AllStay handle ns
  pub begun : y.state ≡ Mapped
  pub unhanded : on handle (inputs y.incoming) ≡ []
  pub ready : IsReady u
  pub mine : Attach
  pub theirs : Attach
  pub sends_by : StandsBy mine theirs t.link
  pub receives_by : StandsBy theirs mine u.link
  pub unheard : List Part
  pub hears : on handle (session.transfers (heard js)) ++ unheard ≡ on handle (session.transfers (session.written x ns))

-- what the receiver of the one end answers are the first of the messages that the sender of the other has sent
abbrev pub MessagesPass : Type 0
MessagesPass =
    (handle n v : ℕ) (t : SenderState) (e : EndpointState) (s : Sessions) (sd : List sessions.Deed) (s' : Sessions)
    (l : Links) (ld : List links.Deed) (l' : Links) (k : Together s sd s' l ld l') (a : SenderPasses n v t e s sd s' l ld l' k)
    (m w : ℕ) (u : ReceiverState) (f : EndpointState) (z : Sessions) (zd : List sessions.Deed) (z' : Sessions)
    (y : Links) (yd : List links.Deed) (y' : Links) (j : Together z zd z' y yd y') (b : ReceiverPasses m w u f z zd z' y yd y' j)
    → AreApart handle v n a.sender.log → on handle (parts_told v l.output) ≡ []
    → AreLed handle w m y yd y' j.links_did → on handle (inputs (own w z.incoming)) ≡ []
    → Meet handle t e.session (moves a.life.steps) f.session (moves b.life.steps) u
    → Arrive t a.sender.moves u b.receiver.moves
