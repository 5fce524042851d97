-- That the frames for which answers of one end stand were put out by links of the other (OASIS AMQP 1.0, part 2,
-- section 2.6).
use Rattle.std.specs.Prelude.{◌≡◌, ◌⊎◌, ℕ, true, false, All, Contains, List, Some, None, ⊤}
use Rattle.amqp_calls.specs.declared.reply.NamedReply.{NamedReply}
use Rattle.amqp_calls.specs.declared.reply.Reply.{Reply}
use Rattle.amqp_calls.specs.declared.reply.Reply.TheVariants.{Connection, Session, Link}
use Rattle.amqp_calls.specs.declared.step.Step.{Step}
use Rattle.amqp_calls.specs.declared.trace.Entry.{Entry}
use Rattle.amqp_delivery.specs.declared.info.DeliveryInfo.{DeliveryInfo}
use Rattle.amqp_end.specs.Deeds.{Deed}
use Rattle.amqp_frames.specs.declared.body.FrameBody.{FrameBody}
use Rattle.amqp_frames.specs.declared.body.FrameBody.TheVariants as b
use Rattle.amqp_link.specs.declared.error.AttachError.{AttachError}
use Rattle.amqp_link.specs.declared.error.AttachError.TheVariants as attach
use Rattle.amqp_link.specs.declared.error.DetachError.{DetachError}
use Rattle.amqp_link.specs.declared.error.DetachError.TheVariants as detach
use Rattle.amqp_link.specs.declared.error.LinkStateError.{LinkStateError}
use Rattle.amqp_link.specs.declared.error.LinkStateError.TheVariants as state
use Rattle.amqp_link_words.specs.declared.link_reply.AcceptError.TheVariants.{LocalSender, LocalReceiver}
use Rattle.amqp_link_words.specs.declared.link_reply.LinkReply.{LinkReply}
use Rattle.amqp_link_words.specs.declared.link_reply.LinkReply.TheVariants as reply
use Rattle.amqp_messages.specs.declared.message.Body.{Body}
use Rattle.amqp_messages.specs.declared.message.Message.{Message}
use Rattle.amqp_parts.specs.declared.part.Part.{Part}
use Rattle.amqp_performatives.specs.Attach.{written}
use Rattle.amqp_performatives.specs.declared.attach.Attach.{Attach}
use Rattle.amqp_performatives.specs.declared.detach.Detach.{Detach}
use Rattle.amqp_receiver.specs.declared.error.RecvError.TheVariants as recv
use Rattle.amqp_sender.specs.declared.error.SendError.TheVariants as send
use Rattle.amqp_session.specs.declared.session.LinkInput.{LinkInput}
use Rattle.amqp_session.specs.declared.session.LinkInput.TheVariants as input
use Rattle.amqp_session_world.specs.Carried.{AreCarried, life_in}
use Rattle.amqp_session_world.specs.Lives.{told_at}
use Rattle.amqp_termini.specs.declared.outcome.Outcome.{Outcome}
use Rattle.amqp_termini.specs.declared.outcome.Outcome.TheVariants.{Accepted}
use Rattle.amqp_words.specs.declared.step.End.{End as Side}
use Rattle.amqp_world.specs.History.{other}
use Rattle.link_answers.specs.Coming.{IsPiece, IsStamped, Passed, passed_in, IsBegunOn}
use Rattle.link_answers.specs.Laws.{nothing, TraceStands}
use Rattle.link_answers.specs.Passing.{read_by, behind}
use Rattle.link_answers.specs.Standing.{Given, Written, HasWritten, IsSettled, IsAnswered, IsDetached, IsRuled}
use Rattle.link_answers.specs.Standing.{Read, IsHanded, IsGiven, OnLink, Says, Any, HasError}

-- ---- what links were handed

-- what has passed at the sessions of an end and at those of the other, and what the links of the other have put out
pub record Ends : Type 0 where
  pub near : Passed
  pub far : Passed
  pub out : List Written

-- A link of the other end has put out that frame, on a session that was on a channel on which the other end has begun
-- the session of that name.
pub record IsPut (w : Ends) (session : ℕ) (x : FrameBody) : Type 0 where
  pub channel : ℕ
  pub begun : IsBegunOn w.near session channel
  pub facing : ℕ
  pub on : Contains w.far.channels (facing, channel)
  pub link : ℕ
  pub out : Contains w.out (link, (facing, x))

-- What links are handed of the peer such frames say: a Disposition and a Detach the same, an Attach as it is read
-- again, a Flow with the state of its session in it, and of a Transfer it is a part.
abbrev pub IsFrom : (FrameBody → Type 0) → LinkInput → Type 0
IsFrom Is (input.Attach x) = (y : Attach) × (Is (b.Attach y) × (x ≡ written y))
IsFrom Is (input.Flow x) = IsStamped Is x
IsFrom Is (input.Transfer x payload) = IsPiece Is x payload
IsFrom Is (input.Disposition x) = Is (b.Disposition x)
IsFrom Is (input.Detach x) = Is (b.Detach x)
IsFrom Is other = ⊤

-- links of the other end have put out what the links of that session were handed
abbrev pub WasPut : Ends → ℕ → LinkInput → Type 0
WasPut w session x = IsFrom (IsPut w session) x

-- ---- answers

-- an Attach was handed over for the link of that name, and links of the other end have put it out
abbrev pub IsAnsweredBy : Ends → Given → ℕ → Type 0
IsAnsweredBy w g link = (k : IsAnswered g link) × WasPut w k.session (input.Attach k.attach)

-- so was a Detach of which that is so, on the handle of such an Attach
pub record IsDetachedBy (Of : Detach → Type 0) (w : Ends) (g : Given) (link : ℕ) : Type 0 where
  pub detached : IsDetached Of g link
  pub attach : WasPut w detached.answered.session (input.Attach detached.answered.attach)
  pub detach : WasPut w detached.answered.session (input.Detach detached.detach)

-- so was a Disposition that says that outcome
abbrev pub IsRuledBy : Ends → Given → Outcome → Type 0
IsRuledBy w g outcome = (k : IsRuled g outcome) × WasPut w k.session (input.Disposition k.disposition)

-- So was a Transfer, on the handle of such an Attach: it is a part of one that a link of the other end has put out.
pub record IsHandedBy (w : Ends) (g : Given) (link : ℕ) (x : Part) : Type 0 where
  pub it : Read
  pub handed : IsHanded g link x it
  pub attach : WasPut w handed.answered.session (input.Attach handed.answered.attach)
  pub sent : WasPut w handed.answered.session (input.Transfer x.transfer x.payload)

-- so were all Transfers of a delivery
abbrev pub IsGivenBy : Ends → Given → ℕ → DeliveryInfo → Message Body → Type 0
IsGivenBy w g link info message = (k : IsGiven g link info message) × All (IsHandedBy w g link) k.parts

-- an outcome of a message: it was sent settled over the link, and so it was accepted, or links of the other end say so
abbrev pub OutcomeBy : Ends → Given → List Written → ℕ → Outcome → Type 0
OutcomeBy w g near link outcome =
    ((outcome ≡ Accepted (record {})) × HasWritten IsSettled link near) ⊎ IsRuledBy w g outcome

-- why a link is not made, how the peer has left it, and the same as one is told that leaves it: of the peer's Detach
abbrev pub AttachFailsBy : Ends → Given → ℕ → AttachError → Type 0
AttachFailsBy w g name (attach.RemoteClosedWithError e) = IsDetachedBy (HasError e) w g name
AttachFailsBy w g name other = ⊤

abbrev pub StateFailsBy : Ends → Given → ℕ → LinkStateError → Type 0
StateFailsBy w g link state.RemoteDetached = IsDetachedBy (Says false None) w g link
StateFailsBy w g link (state.RemoteDetachedWithError e) = IsDetachedBy (Says false (Some e)) w g link
StateFailsBy w g link state.RemoteClosed = IsDetachedBy (Says true None) w g link
StateFailsBy w g link (state.RemoteClosedWithError e) = IsDetachedBy (Says true (Some e)) w g link
StateFailsBy w g link other = ⊤

abbrev pub PartFailsBy : Ends → Given → ℕ → DetachError → Type 0
PartFailsBy w g link detach.DetachedByRemote = IsDetachedBy (Says false None) w g link
PartFailsBy w g link (detach.RemoteDetachedWithError e) = IsDetachedBy (Says false (Some e)) w g link
PartFailsBy w g link detach.ClosedByRemote = IsDetachedBy Any w g link
PartFailsBy w g link (detach.RemoteClosedWithError e) = IsDetachedBy (HasError e) w g link
PartFailsBy w g link other = ⊤

-- what links of the other end have put out where a call is answered so; of other answers nothing is said
abbrev pub IsSaidBy : Ends → Given → List Written → ℕ → LinkReply → Type 0
IsSaidBy w g near name reply.Sender = IsAnsweredBy w g name
IsSaidBy w g near name reply.Receiver = IsAnsweredBy w g name
IsSaidBy w g near name (reply.Outcome x) = OnLink g name (λ link. OutcomeBy w g near link x)
IsSaidBy w g near name (reply.Delivery info message) = OnLink g name (λ link. IsGivenBy w g link info message.value)
IsSaidBy w g near name reply.Detached = OnLink g name (λ link. IsDetachedBy Any w g link)
IsSaidBy w g near name reply.Closed = OnLink g name (λ link. IsDetachedBy Any w g link)
IsSaidBy w g near name (reply.SenderAttachError e) = AttachFailsBy w g name e
IsSaidBy w g near name (reply.ReceiverAttachError e) = AttachFailsBy w g name e
IsSaidBy w g near name (reply.AcceptError (LocalSender e)) = AttachFailsBy w g name e
IsSaidBy w g near name (reply.AcceptError (LocalReceiver e)) = AttachFailsBy w g name e
IsSaidBy w g near name (reply.SendError (send.LinkStateError e)) = OnLink g name (λ link. StateFailsBy w g link e)
IsSaidBy w g near name (reply.RecvError (recv.LinkStateError e)) = OnLink g name (λ link. StateFailsBy w g link e)
IsSaidBy w g near name (reply.DetachError e) = OnLink g name (λ link. PartFailsBy w g link e)
IsSaidBy w g near name other = ⊤

-- an answer of a link, among those of all
abbrev pub IsSaidAs : Ends → Given → List Written → ℕ → Reply → Type 0
IsSaidAs w g near name (Link answer) = IsSaidBy w g near name answer
IsSaidAs w g near name (Session answer) = ⊤
IsSaidAs w g near name (Connection answer) = ⊤

-- ---- two ends

-- what that end of a trace did
abbrev pub deeds_of : (e : Side) (steps : List Step) (entries : List Entry) → AreCarried steps entries → List Deed
deeds_of e steps entries k = (life_in e steps entries k.made).deeds

-- its sessions and those of the other, where the links of the other have put that out
abbrev pub ends_of : (e : Side) (steps : List Step) (entries : List Entry)
    → AreCarried steps entries → List Written → Ends
ends_of e steps entries k out = record {
  near = passed_in (deeds_of e steps entries k);
  far = passed_in (deeds_of (other e) steps entries k);
  out = out;
}

-- An end of a trace, with what its links and those of the other end have put out: what its links were handed of the
-- peer those of the other end have put out, and so have they the frames for which its answers stand.
pub record EndMeets (e : Side) (steps : List Step) (entries : List Entry) (k : AreCarried steps entries) : Type 0 where
  pub near : TraceStands (told_at e steps entries) (deeds_of e steps entries k)
  pub far : TraceStands (told_at (other e) steps entries) (deeds_of (other e) steps entries k)
  pub handed :
      All (λ (x : ℕ × LinkInput). WasPut (ends_of e steps entries k far.written) x.0 x.1)
      (read_by (deeds_of e steps entries k))
  pub said :
      All (λ (r : NamedReply).
      IsSaidAs (ends_of e steps entries k far.written) (behind (deeds_of e steps entries k) nothing) near.written
      r.name r.reply)
      (told_at e steps entries)

abbrev pub EndsMeet : Type 0
EndsMeet =
    (e : Side) (steps : List Step) (entries : List Entry) (k : AreCarried steps entries) → EndMeets e steps entries k
