-- What the state of an end's links stands for (OASIS AMQP 1.0, part 2, section 2.6).
use Rattle.std.specs.Prelude.{◌≡◌, ℕ, Bool, true, false, All, Contains, List, [], ◌∷◌, ◌++◌, map, slice_get, Option, Some, None, ⊤}
use Rattle.std.specs.Map.{values_of}
use Rattle.amqp_composites.specs.declared.error.Error.{Error as AmqpError}
use Rattle.amqp_composites.specs.declared.modes.Role.TheVariants as role
use Rattle.amqp_frames.specs.declared.body.FrameBody.{FrameBody}
use Rattle.amqp_link.specs.declared.endpoint.LinkPhase.{LinkPhase}
use Rattle.amqp_link.specs.declared.endpoint.LinkPhase.TheVariants as phase
use Rattle.amqp_link.specs.declared.error.AttachError.{AttachError}
use Rattle.amqp_link.specs.Link.{Link, is_heard}
use Rattle.amqp_link_calls.specs.declared.leave.PartKind.{PartKind}
use Rattle.amqp_link_calls.specs.declared.leave.PartKind.TheVariants as kind
use Rattle.amqp_link_calls.specs.declared.leave.WaitingPart.{WaitingPart}
use Rattle.amqp_link_calls.specs.Called.{Called}
use Rattle.amqp_link_calls.specs.Side.{Side, Sender, Receiver, link_of as link_in, role_of}
use Rattle.amqp_link_words.specs.declared.link_call.LinkCall.{LinkCall}
use Rattle.amqp_link_words.specs.declared.link_call.LinkCall.TheVariants as call
use Rattle.amqp_link_words.specs.declared.link_call.Parting.{Parting}
use Rattle.amqp_links.specs.declared.links.SentDelivery.{SentDelivery}
use Rattle.amqp_links.specs.declared.timed.Awaited.{Awaited}
use Rattle.amqp_links.specs.declared.timed.Awaited.TheVariants as awaited
use Rattle.amqp_links.specs.declared.timed.TimedCall.{TimedCall}
use Rattle.amqp_links.specs.Inputs.{handle_of}
use Rattle.amqp_links.specs.Parts.{Told, Frame, Astray}
use Rattle.amqp_links.specs.State.{State, place_of, link_of}
use Rattle.amqp_parts.specs.declared.part.Part.{Part}
use Rattle.amqp_parts.specs.Join.{Incomplete}
use Rattle.amqp_parts.specs.Split.{bytes_of}
use Rattle.amqp_performatives.specs.declared.attach.Attach.{Attach}
use Rattle.amqp_performatives.specs.declared.detach.Detach.{Detach}
use Rattle.amqp_receiver.specs.declared.receiver.Incoming.{Incoming}
use Rattle.amqp_receiver.specs.Delivering.{all_bytes}
use Rattle.amqp_sender.specs.declared.sender.Settlement.TheVariants.{Settled}
use Rattle.amqp_session.specs.declared.session.LinkInput.{LinkInput}
use Rattle.amqp_session.specs.declared.session.LinkInput.TheVariants as input
use Rattle.amqp_session_links.specs.declared.place.WaitingAccept.{WaitingAccept}
use Rattle.amqp_session_links.specs.State.{State as Place}
use Rattle.amqp_termini.specs.declared.outcome.Outcome.{Outcome}
use Rattle.link_answers.specs.Standing.{Read, Given, Written, HasWritten, HasAttached, IsDetach, IsCallFor, IsSendOver, IsOn, IsDetaching, IsClosing, IsAnswered, IsDetached, Any, HasError, AttachFails, OutcomeStands, IsHanded, AreParts, AreAmong, AllStand}

-- ---- one link

-- this end has sent a Detach
abbrev pub has_left : LinkPhase → Bool
has_left phase.AttachSent = false
has_left phase.DetachExpected = false
has_left phase.Attached = false
has_left other = true

-- What a link stands for, as it is: once it was made the peer has attached it; where this end has left it its Detach is out,
-- and where it hears no more, the peer's was read; the Detaches that it knows were.
pub record LinkStands (g : Given) (w : List Written) (n : ℕ) (l : Link) : Type 0 where
  pub made : l.is_made ≡ true → IsAnswered g n
  pub out : has_left l.phase ≡ true → HasWritten IsDetach n w
  pub over : is_heard l.phase ≡ false → IsDetached Any g n
  pub remote : (d : Detach) → l.remote ≡ Some d → IsDetached (λ x. x ≡ d) g n
  pub failure : (e : AttachError) → l.failure ≡ Some e → AttachFails g n e
  pub last : (e : AmqpError) → l.last_error ≡ Some e → IsDetached (HasError e) g n

-- the call of that name was such a one
abbrev pub HasAsked : Given → ℕ → (LinkCall → Type 0) → Type 0
HasAsked g name Of = (x : LinkCall) × (Of x × Contains g.asked (name, x))

-- the kind of a call that waits until a link is left
abbrev pub IsOfKind : PartKind → Parting → Type 0
IsOfKind kind.OnDetach how = ⊤
IsOfKind kind.Detach how = IsDetaching how
IsOfKind kind.Close how = IsClosing how

abbrev pub PartStands : Given → ℕ → WaitingPart → Type 0
PartStands g link w = (how : Parting) × (IsOfKind w.kind how × Contains g.asked (w.name, call.Part link how))

-- a delivery that was begun, of which more is to come or not: it has what these Transfers say together, and their bytes
pub record IsJoined (more : Bool) (parts : List Part) (x : Incomplete) : Type 0 where
  pub number : ℕ
  pub tag : List ℕ
  pub has_number : x.transfer.delivery_id ≡ Some number
  pub has_tag : x.transfer.delivery_tag ≡ Some tag
  pub are : AreParts more
      (record { delivery_id = number; delivery_tag = tag; rcv_settle_mode = x.transfer.rcv_settle_mode }) parts
  pub bytes : all_bytes x.payloads ≡ bytes_of parts

abbrev pub IsBegun : List Part → Option Incomplete → Type 0
IsBegun parts None = parts ≡ []
IsBegun parts (Some x) = IsJoined true parts x

abbrev pub parts_in : List Incoming → List Part
parts_in xs = map (λ (x : Incoming). record { transfer = x.transfer; payload = x.payload }) xs

-- What waits at a receiver is among what was read, in order: the Transfers of the delivery that was begun, and those
-- behind them.
pub record WaitStands (g : Given) (link : ℕ) (read : List Read)
    (incoming : List Incoming) (buffer : Option Incomplete) : Type 0 where
  pub begun : List Part
  pub has : IsBegun begun buffer
  pub handed : AreAmong (IsHanded g link) (begun ++ parts_in incoming) read

-- what a sender knows of its messages stands for that, and what waits at a receiver
abbrev pub OutcomesStand : Given → List Written → ℕ → Side → Type 0
OutcomesStand g w n (Sender s) = (place : ℕ) (x : Outcome) → slice_get s.settlements place ≡ Some (Settled x) → OutcomeStands g w n x
OutcomesStand g w n (Receiver s) = WaitStands g n g.read s.incoming s.buffer

-- What a link with the calls that wait at it stands for: the call of its name asked for it, its Attach is out, the call that
-- attaches it has its name, the others are on it, and what it knows of its messages, or was handed, is so.
pub record CalledStands (g : Given) (w : List Written) (n : ℕ) (l : Called) : Type 0 where
  pub asked : HasAsked g n (IsCallFor l.session (link_in l.side).own.name (role_of l.side))
  pub own : HasAttached g w n (role_of l.side)
  pub link : LinkStands g w n (link_in l.side)
  pub outcomes : OutcomesStand g w n l.side
  pub attaching : (name : ℕ) → l.attaching ≡ Some name → name ≡ n
  pub waiting : All (λ (e : ℕ × ℕ). IsOn g.asked e.1 n) l.waiting
  pub parting : (p : WaitingPart) → l.parting ≡ Some p → PartStands g n p
  pub answers : AllStand g w l.answers

-- ---- what the links of a session share

-- a handle of the peer leads to a link that is answered there by an Attach with that handle
pub record Leads (g : Given) (session remote link : ℕ) : Type 0 where
  pub answered : IsAnswered g link
  pub on_session : answered.session ≡ session
  pub has : answered.attach.handle ≡ remote

-- what was read on that session of a handle of the peer that no link has
abbrev pub IsEarly : ℕ → ℕ → LinkInput → Read → Type 0
IsEarly session remote x it = (it ≡ (session, x)) × (handle_of x ≡ Some remote)

pub record PlaceStands (g : Given) (session : ℕ) (p : Place) : Type 0 where
  pub senders : All (λ (e : List ℕ × ℕ). HasAsked g e.1 (IsCallFor session e.0 role.Sender)) p.table.senders
  pub receivers : All (λ (e : List ℕ × ℕ). HasAsked g e.1 (IsCallFor session e.0 role.Receiver)) p.table.receivers
  pub remotes : All (λ (e : ℕ × ℕ). Leads g session e.0 e.1) p.table.remotes
  pub attaches : All (λ (x : Attach). Contains g.read (session, input.Attach x)) p.attaches
  pub early : All (λ (e : ℕ × List LinkInput). AreAmong (IsEarly session e.0) e.1 g.read) p.early
  pub accepting : (a : WaitingAccept) → p.accepting ≡ Some a
      → Contains g.asked (a.name, call.Accept session a.settings a.credit_mode a.auto_accept)

-- ---- all of them

abbrev pub SentStands : Given → ℕ × SentDelivery → Type 0
SentStands g e = HasAsked g e.0 (IsSendOver e.1.link)

-- a call with a time, by what it waits for
abbrev pub AwaitedStands : Given → ℕ → ℕ → Awaited → Type 0
AwaitedStands g link name (awaited.Credit message) = (timeout : ℕ) × Contains g.asked (name, call.SendTimed link message timeout)
AwaitedStands g link name (awaited.Outcome token) = ⊤
AwaitedStands g link name awaited.Detach = ⊤

abbrev pub TimedStands : Given → ℕ × TimedCall → Type 0
TimedStands g e = AwaitedStands g e.0 e.1.timer.name e.1.awaited

pub record StateStands (g : Given) (w : List Written) (s : State) : Type 0 where
  pub places : (session : ℕ) (p : Place) → place_of session s ≡ Some p → PlaceStands g session p
  pub links : (n : ℕ) (l : Called) → link_of n s ≡ Some l → CalledStands g w n l
  pub sends : All (SentStands g) s.sends
  pub timed : All (TimedStands g) s.timed
  pub replies : AllStand g w s.replies

-- the frames among what is to be done on the sessions
abbrev pub frame_in : Told → List (ℕ × FrameBody)
frame_in (Frame session x) = (session, x) ∷ []
frame_in (Astray session) = []

abbrev pub frames_in : List Told → List (ℕ × FrameBody)
frames_in [] = []
frames_in (x ∷ xs) = frame_in x ++ frames_in xs

-- What the links have put out is what went to their sessions, and what still is to go, in order; and all stands for that.
pub record AreStanding (g : Given) (gave : List (ℕ × FrameBody)) (w : List Written) (s : State) : Type 0 where
  pub output : gave ++ frames_in s.output ≡ values_of w
  pub stands : StateStands g w s
