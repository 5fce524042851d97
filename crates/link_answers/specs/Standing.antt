-- What answers to calls for links stand for: frames that were written and read (OASIS AMQP 1.0, part 2, section 2.6).
use Rattle.std.specs.Prelude.{◌≡◌, ◌⊎◌, ℕ, Bool, true, false, All, Contains, List, [], ◌∷◌, Option, Some, None, Ok, ⊤}
use Rattle.amqp_composites.specs.declared.error.Error.{Error as AmqpError}
use Rattle.amqp_composites.specs.declared.modes.Role.{Role}
use Rattle.amqp_composites.specs.declared.modes.Role.TheVariants as role
use Rattle.amqp_composites.specs.declared.modes.ReceiverSettleMode.{ReceiverSettleMode}
use Rattle.amqp_delivery.specs.declared.info.DeliveryInfo.{DeliveryInfo}
use Rattle.amqp_frames.specs.declared.body.FrameBody.{FrameBody}
use Rattle.amqp_frames.specs.declared.body.FrameBody.TheVariants as b
use Rattle.amqp_link.specs.declared.error.AttachError.{AttachError}
use Rattle.amqp_link.specs.declared.error.AttachError.TheVariants as attach
use Rattle.amqp_link.specs.declared.error.DetachError.{DetachError}
use Rattle.amqp_link.specs.declared.error.DetachError.TheVariants as detach
use Rattle.amqp_link.specs.declared.error.LinkStateError.{LinkStateError}
use Rattle.amqp_link.specs.declared.error.LinkStateError.TheVariants as state
use Rattle.amqp_link_words.specs.declared.link_call.LinkCall.{LinkCall}
use Rattle.amqp_link_words.specs.declared.link_call.LinkCall.TheVariants as call
use Rattle.amqp_link_words.specs.declared.link_call.Parting.{Parting}
use Rattle.amqp_link_words.specs.declared.link_call.Parting.TheVariants as parting
use Rattle.amqp_link_words.specs.declared.link_call.Sendable.{Sendable}
use Rattle.amqp_link_words.specs.declared.link_reply.AcceptError.TheVariants.{LocalSender, LocalReceiver}
use Rattle.amqp_link_words.specs.declared.link_reply.LinkReply.{LinkReply}
use Rattle.amqp_link_words.specs.declared.link_reply.LinkReply.TheVariants as reply
use Rattle.amqp_link_words.specs.declared.link_reply.NamedLinkReply.{NamedLinkReply}
use Rattle.amqp_links.specs.Hearing.{other_role}
use Rattle.amqp_messages.specs.declared.message.Body.{Body}
use Rattle.amqp_messages.specs.declared.message.Message.{Message}
use Rattle.amqp_messages.specs.Reading.{IsTheMessage, SpellsMessage}
use Rattle.amqp_parts.specs.declared.part.Part.{Part}
use Rattle.amqp_parts.specs.Join.{first_said}
use Rattle.amqp_parts.specs.Split.{bytes_of}
use Rattle.amqp_performatives.specs.declared.attach.Attach.{Attach}
use Rattle.amqp_performatives.specs.declared.detach.Detach.{Detach}
use Rattle.amqp_performatives.specs.declared.disposition.Disposition.{Disposition}
use Rattle.amqp_receiver.specs.declared.error.RecvError.{RecvError}
use Rattle.amqp_receiver.specs.declared.error.RecvError.TheVariants as recv
use Rattle.amqp_sender.specs.declared.error.SendError.{SendError}
use Rattle.amqp_sender.specs.declared.error.SendError.TheVariants as send
use Rattle.amqp_sender.specs.declared.sender.Settlement.TheVariants.{Settled}
use Rattle.amqp_sender.specs.Settling.{settlement_of}
use Rattle.amqp_session.specs.declared.session.LinkInput.{LinkInput}
use Rattle.amqp_session.specs.declared.session.LinkInput.TheVariants as input
use Rattle.amqp_termini.specs.declared.outcome.Outcome.{Outcome}
use Rattle.amqp_termini.specs.declared.outcome.Outcome.TheVariants.{Accepted}

-- ---- what has passed

-- what the session of that name handed over
abbrev pub Read : Type 0
Read = ℕ × LinkInput

-- what the links of an end were given: the calls that were made, by their names, and what the sessions handed to them, each
-- in order
pub record Given : Type 0 where
  pub asked : List (ℕ × LinkCall)
  pub read : List Read

-- a frame that a link has put out: under the name of the link, for the session of that name
abbrev pub Written : Type 0
Written = ℕ × (ℕ × FrameBody)

-- the link of that name has put out a frame of that kind
abbrev pub HasWritten : (FrameBody → Type 0) → ℕ → List Written → Type 0
HasWritten Kind link written = (session : ℕ) × ((x : FrameBody) × (Kind x × Contains written (link, (session, x))))

abbrev pub IsDetach : FrameBody → Type 0
IsDetach (b.Detach x) = ⊤
IsDetach x = ⊥

-- a Transfer with those bytes
abbrev pub Carries : List ℕ → FrameBody → Type 0
Carries payload (b.Transfer x bytes) = bytes ≡ payload
Carries payload x = ⊥

-- a Transfer of a delivery that is settled as it is sent
abbrev pub IsSettled : FrameBody → Type 0
IsSettled (b.Transfer x bytes) = x.settled ≡ Some true
IsSettled x = ⊥

-- ---- calls

-- a call for a link of that name, at which this end has that role, on that session; one that accepts takes any there
abbrev pub IsCallFor : ℕ → List ℕ → Role → LinkCall → Type 0
IsCallFor session name who (call.Sender at settings) = (at ≡ session) × ((settings.name ≡ name) × (who ≡ role.Sender))
IsCallFor session name who (call.Receiver at settings) = (at ≡ session) × ((settings.name ≡ name) × (who ≡ role.Receiver))
IsCallFor session name who (call.Accept at settings mode auto) = at ≡ session
IsCallFor session name who other = ⊥

-- a call that sends over that link
abbrev pub IsSendOver : ℕ → LinkCall → Type 0
IsSendOver link (call.Send other message) = other ≡ link
IsSendOver link (call.SendTimed other message timeout) = other ≡ link
IsSendOver link other = ⊥

-- a call on that link that sends, receives, or leaves it, or that asks what has become of what was sent over it
abbrev pub IsCallOn : List (ℕ × LinkCall) → ℕ → LinkCall → Type 0
IsCallOn asked link (call.Send other message) = other ≡ link
IsCallOn asked link (call.SendTimed other message timeout) = other ≡ link
IsCallOn asked link (call.Recv other) = other ≡ link
IsCallOn asked link (call.Part other how) = other ≡ link
IsCallOn asked link (call.Outcome name) = (x : LinkCall) × (Contains asked (name, x) × IsSendOver link x)
IsCallOn asked link other = ⊥

abbrev pub IsOn : List (ℕ × LinkCall) → ℕ → ℕ → Type 0
IsOn asked name link = (x : LinkCall) × (Contains asked (name, x) × IsCallOn asked link x)

abbrev pub IsDetaching : Parting → Type 0
IsDetaching (parting.Detach error timeout) = ⊤
IsDetaching other = ⊥

abbrev pub IsClosing : Parting → Type 0
IsClosing (parting.Close error) = ⊤
IsClosing other = ⊥

-- ---- Attaches and Detaches

-- The link of that name has put out an Attach in that role, on the session of a call of its name that asked for a link of
-- that name and role.
pub record HasAttached (g : Given) (w : List Written) (link : ℕ) (role : Role) : Type 0 where
  pub call : LinkCall
  pub asked : Contains g.asked (link, call)
  pub session : ℕ
  pub attach : Attach
  pub is_for : IsCallFor session attach.name role call
  pub in_role : attach.role ≡ role
  pub out : Contains w (link, (session, b.Attach attach))

-- The call of that name was one for a link, and an Attach of the peer was handed over on its session for such a link: of the
-- same name, and of the other end.
pub record IsAnswered (g : Given) (link : ℕ) : Type 0 where
  pub call : LinkCall
  pub asked : Contains g.asked (link, call)
  pub session : ℕ
  pub attach : Attach
  pub is_for : IsCallFor session attach.name (other_role attach.role) call
  pub read : Contains g.read (session, input.Attach attach)

-- a Detach of which that is so was handed over on the handle of such an Attach
pub record IsDetached (Of : Detach → Type 0) (g : Given) (link : ℕ) : Type 0 where
  pub answered : IsAnswered g link
  pub detach : Detach
  pub is_so : Of detach
  pub handle : detach.handle ≡ answered.attach.handle
  pub read : Contains g.read (answered.session, input.Detach detach)

-- a Transfer was handed over on such a handle, as this that was read
pub record IsHanded (g : Given) (link : ℕ) (x : Part) (it : Read) : Type 0 where
  pub answered : IsAnswered g link
  pub handle : x.transfer.handle ≡ answered.attach.handle
  pub same : it ≡ (answered.session, input.Transfer x.transfer x.payload)

-- whether it closes the link, and its error
abbrev pub Says : Bool → Option AmqpError → Detach → Type 0
Says closed error x = (x.closed ≡ closed) × (x.error ≡ error)

abbrev pub Any : Detach → Type 0
Any x = ⊤

abbrev pub HasError : AmqpError → Detach → Type 0
HasError error x = x.error ≡ Some error

-- ---- answers

-- a link is made: an Attach of this end in that role is out, and one of the peer was handed over for it
abbrev pub IsMade : Given → List Written → ℕ → Role → Type 0
IsMade g w name role = HasAttached g w name role × IsAnswered g name

-- a message is sent: the call was one that sends it, and its link has put out a Transfer with its bytes
pub record IsSent (g : Given) (w : List Written) (name : ℕ) : Type 0 where
  pub link : ℕ
  pub message : Sendable
  pub asked : Contains g.asked (name, call.Send link message)
      ⊎ ((timeout : ℕ) × Contains g.asked (name, call.SendTimed link message timeout))
  pub own : HasWritten (Carries message.payload) link w

-- a link is left: the call was one of that kind on it, this end's Detach is out, and one of the peer was handed over for it
pub record IsParted (Kind : Parting → Type 0) (g : Given) (w : List Written) (name : ℕ) : Type 0 where
  pub link : ℕ
  pub how : Parting
  pub kind : Kind how
  pub asked : Contains g.asked (name, call.Part link how)
  pub own : HasWritten IsDetach link w
  pub theirs : IsDetached Any g link

-- why a link is not made: of the peer's error this says that its Detach had it
abbrev pub AttachFails : Given → ℕ → AttachError → Type 0
AttachFails g name (attach.RemoteClosedWithError error) = IsDetached (HasError error) g name
AttachFails g name other = ⊤

-- how the peer has left a link, as a call is told that sends or receives
abbrev pub StateFails : Given → ℕ → LinkStateError → Type 0
StateFails g link state.RemoteDetached = IsDetached (Says false None) g link
StateFails g link (state.RemoteDetachedWithError error) = IsDetached (Says false (Some error)) g link
StateFails g link state.RemoteClosed = IsDetached (Says true None) g link
StateFails g link (state.RemoteClosedWithError error) = IsDetached (Says true (Some error)) g link
StateFails g link other = ⊤

-- as one is told that leaves it, or waits for that: of `ClosedByRemote` and `RemoteClosedWithError` not whether it closed
abbrev pub PartFails : Given → ℕ → DetachError → Type 0
PartFails g link detach.DetachedByRemote = IsDetached (Says false None) g link
PartFails g link (detach.RemoteDetachedWithError error) = IsDetached (Says false (Some error)) g link
PartFails g link detach.ClosedByRemote = IsDetached Any g link
PartFails g link (detach.RemoteClosedWithError error) = IsDetached (HasError error) g link
PartFails g link other = ⊤

-- the call is on a link of which this is so
abbrev pub OnLink : Given → ℕ → (ℕ → Type 0) → Type 0
OnLink g name Of = (link : ℕ) × (IsOn g.asked name link × Of link)

abbrev pub SendFails : Given → ℕ → SendError → Type 0
SendFails g name (send.LinkStateError e) = OnLink g name (λ link. StateFails g link e)
SendFails g name other = ⊤

abbrev pub RecvFails : Given → ℕ → RecvError → Type 0
RecvFails g name (recv.LinkStateError e) = OnLink g name (λ link. StateFails g link e)
RecvFails g name other = ⊤

-- a Disposition was handed over that says that outcome
pub record IsRuled (g : Given) (outcome : Outcome) : Type 0 where
  pub session : ℕ
  pub disposition : Disposition
  pub says : settlement_of disposition.state ≡ Settled outcome
  pub read : Contains g.read (session, input.Disposition disposition)

-- an outcome of a message: it was sent settled over the link, and so it was accepted, or the peer has said so
abbrev pub OutcomeStands : Given → List Written → ℕ → Outcome → Type 0
OutcomeStands g w link outcome = ((outcome ≡ Accepted (record {})) × HasWritten IsSettled link w) ⊎ IsRuled g outcome

-- ---- deliveries

-- the number and the tag of a delivery stand in its first Transfer (section 2.7.5)
abbrev pub BeginsAs : ℕ → List ℕ → List Part → Type 0
BeginsAs number tag [] = ⊥
BeginsAs number tag (x ∷ xs) = (x.transfer.delivery_id ≡ Some number) × (x.transfer.delivery_tag ≡ Some tag)

-- a Transfer of that delivery: it is not aborted, and says no other number or tag (section 2.7.5)
pub record IsPartOf (number : ℕ) (tag : List ℕ) (x : Part) : Type 0 where
  pub whole : x.transfer.aborted ≡ false
  pub says_number : (other : ℕ) → x.transfer.delivery_id ≡ Some other → other ≡ number
  pub says_tag : (other : List ℕ) → x.transfer.delivery_tag ≡ Some other → other ≡ tag

-- each but the last says that more is to come, and the last says whether (section 2.6.14)
abbrev pub SayMore : Bool → List Part → Type 0
SayMore last [] = ⊥
SayMore last (x ∷ []) = x.transfer.more ≡ last
SayMore last (x ∷ y ∷ ys) = (x.transfer.more ≡ true) × SayMore last (y ∷ ys)

-- how the receiver is to settle the delivery, as the first says that says so (section 2.7.5)
abbrev pub said_mode : List Part → Option ReceiverSettleMode
said_mode [] = None
said_mode (x ∷ xs) = first_said x.transfer.rcv_settle_mode (said_mode xs)

-- the Transfers of one delivery, of which more is to come or not
pub record AreParts (more : Bool) (info : DeliveryInfo) (parts : List Part) : Type 0 where
  pub begins : BeginsAs info.delivery_id info.delivery_tag parts
  pub each : All (IsPartOf info.delivery_id info.delivery_tag) parts
  pub mode : said_mode parts ≡ info.rcv_settle_mode
  pub say : SayMore more parts

-- each of some is one of others, in their order
abbrev pub AreAmong : {X Y : Type 0} → (X → Y → Type 0) → List X → List Y → Type 0
AreAmong Is [] ys = ⊤
AreAmong Is (x ∷ xs) [] = ⊥
AreAmong Is (x ∷ xs) (y ∷ ys) = (Is x y × AreAmong Is xs ys) ⊎ AreAmong Is (x ∷ xs) ys

-- The Transfers of a delivery were handed over for the link, all of them and in order, and their bytes, one behind the
-- other, spell its message.
pub record IsGiven (g : Given) (link : ℕ) (info : DeliveryInfo) (message : Message Body) : Type 0 where
  pub parts : List Part
  pub handed : AreAmong (IsHanded g link) parts g.read
  pub whole : AreParts false info parts
  pub spelled : IsTheMessage (Ok message) (SpellsMessage (bytes_of parts))

-- ---- each answer

-- what an answer stands for; of others nothing is said
abbrev pub Stands : Given → List Written → ℕ → LinkReply → Type 0
Stands g w name reply.Sender = IsMade g w name role.Sender
Stands g w name reply.Receiver = IsMade g w name role.Receiver
Stands g w name reply.Sent = IsSent g w name
Stands g w name (reply.Outcome x) = OnLink g name (λ link. OutcomeStands g w link x)
Stands g w name reply.Detached = IsParted IsDetaching g w name
Stands g w name reply.Closed = IsParted IsClosing g w name
Stands g w name (reply.SenderAttachError e) = AttachFails g name e
Stands g w name (reply.ReceiverAttachError e) = AttachFails g name e
Stands g w name (reply.AcceptError (LocalSender e)) = AttachFails g name e
Stands g w name (reply.AcceptError (LocalReceiver e)) = AttachFails g name e
Stands g w name (reply.Delivery info message) = OnLink g name (λ link. IsGiven g link info message.value)
Stands g w name (reply.SendError e) = SendFails g name e
Stands g w name (reply.RecvError e) = RecvFails g name e
Stands g w name (reply.DetachError e) = OnLink g name (λ link. PartFails g link e)
Stands g w name other = ⊤

abbrev pub AllStand : Given → List Written → List NamedLinkReply → Type 0
AllStand g w answers = All (λ (r : NamedLinkReply). Stands g w r.name r.reply) answers
