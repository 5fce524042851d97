-- What becomes of messages, as the links of an end hear it (OASIS AMQP 1.0, part 2, sections 2.6.12 and 2.7.6).
use Rattle.std.specs.Prelude.{◌≡◌, ◌⊎◌, ◌<◌, ℕ, nat_eq, true, false, List, [], ◌∷◌, ◌++◌, Option, Some}
use Rattle.std.specs.Map.{lookup}
use Rattle.amqp_composites.specs.declared.modes.Role.TheVariants as role
use Rattle.amqp_termini.specs.declared.outcome.Outcome.{Outcome}
use Rattle.amqp_termini.specs.declared.outcome.Outcome.TheVariants.{Accepted}
use Rattle.amqp_link_calls.specs.Called.{Called}
use Rattle.amqp_link_calls.specs.Side.{Sender}
use Rattle.amqp_link_tables.specs.Deliveries.{is_within}
use Rattle.amqp_link_words.specs.declared.link_call.LinkCall.{LinkCall}
use Rattle.amqp_link_words.specs.declared.link_call.LinkCall.TheVariants as call
use Rattle.amqp_link_words.specs.declared.link_call.Sendable.{Sendable}
use Rattle.amqp_link_words.specs.declared.link_reply.LinkReply.TheVariants as reply
use Rattle.amqp_link_words.specs.declared.link_reply.NamedLinkReply.{NamedLinkReply}
use Rattle.amqp_links.specs.declared.links.SentDelivery.{SentDelivery}
use Rattle.amqp_links.specs.Calling.{Calls}
use Rattle.amqp_links.specs.Forgetting.{forgotten}
use Rattle.amqp_links.specs.State.{State, no_links, link_of}
use Rattle.amqp_performatives.specs.declared.disposition.Disposition.{Disposition}
use Rattle.amqp_sender.specs.declared.sender.Settlement.TheVariants.{Settled}
use Rattle.amqp_sender.specs.Sender.{State as SenderState}
use Rattle.amqp_sender.specs.Sending.{is_settled, tag_of}
use Rattle.amqp_sender.specs.Settling.{settlement_of}
use Rattle.amqp_session.specs.declared.session.LeftDelivery.{LeftDelivery}
use Rattle.amqp_session.specs.declared.session.LinkInput.{LinkInput}
use Rattle.amqp_session.specs.declared.session.LinkInput.TheVariants as input
use Rattle.link_lives.specs.Deeds.{Deed, Asks, Hears, Tells, IsDeed}
use Rattle.session_laws.specs.Giving.{last_of}
use Rattle.session_laws.specs.Settling.{IsAmong}

-- a call that attaches a sender, sends, or asks for an outcome
abbrev pub IsSending : LinkCall → Type 0
IsSending (call.Sender session settings) = Unit {0}
IsSending (call.Send link message) = Unit {0}
IsSending (call.Outcome send) = Unit {0}
IsSending other = ⊥

-- the links of an end do something, or forget what a call sent
pub data Step : Type 0 where
  Does : Deed → Step
  Forgets : ℕ → Step

abbrev pub IsStep : State → Step → State → Type 0
IsStep old (Does d) new = IsDeed old d new
IsStep old (Forgets name) new = new ≡ forgotten name old

-- one after another
abbrev pub Did : State → List Step → State → Type 0
Did old [] new = new ≡ old
Did old (x ∷ xs) new = (s : State) × (IsStep old x s × Did s xs new)

-- what they heard of the sessions, each under the name of its session
abbrev pub heard_of : Step → List (ℕ × LinkInput)
heard_of (Does (Hears session x)) = (session, x) ∷ []
heard_of other = []

abbrev pub heard_in : List Step → List (ℕ × LinkInput)
heard_in [] = []
heard_in (x ∷ xs) = heard_of x ++ heard_in xs

-- the answers that are taken
abbrev pub told_of : Step → State → List NamedLinkReply
told_of (Does Tells) s = s.replies
told_of other s = []

abbrev pub told_in : (old : State) (xs : List Step) (new : State) → Did old xs new → List NamedLinkReply
told_in old [] new h = []
told_in old (x ∷ xs) new h = told_of x old ++ told_in h.0 xs new h.1.1

-- the numbers of a Disposition and that of a delivery have 32 bits, as in each frame (section 2.8.9)
pub record AreShort (d : Disposition) (number : ℕ) : Type 0 where
  pub first : d.first < 4294967296
  pub last : last_of d < 4294967296
  pub delivery : number < 4294967296

-- The delivery with that tag has left on a session, and a Disposition of a receiver was heard there that covers its number and says that outcome.
pub record Rules (heard : List (ℕ × LinkInput)) (tag : List ℕ) (outcome : Outcome) : Type 0 where
  pub session : ℕ
  pub left : LeftDelivery
  pub leaves : IsAmong (session, input.Left left) heard
  pub is_tag : left.delivery_tag ≡ tag
  pub disposition : Disposition
  pub comes : IsAmong (session, input.Disposition disposition) heard
  pub by_receiver : disposition.role ≡ role.Receiver
  pub covers : AreShort disposition left.delivery_id → is_within disposition.first (last_of disposition) left.delivery_id ≡ true
  pub state : settlement_of disposition.state ≡ Settled outcome

-- A call has sent that message by the sender of a link, as that stands, with the tag that is its next. The message was sent settled, and so it was
-- accepted; or its delivery was ruled so.
pub record IsRuled (heard : List (ℕ × LinkInput)) (link : Option Called) (message : Sendable) (outcome : Outcome) : Type 0 where
  pub called : Called
  pub stands : link ≡ Some called
  pub sender : SenderState
  pub sends : called.side ≡ Sender sender
  pub ruled : ((is_settled sender.link.own.snd_settle_mode message.settled ≡ true) × (outcome ≡ Accepted (record {}))) ⊎ Rules heard (tag_of sender.delivery_count) outcome

-- ---- what is done between two calls

-- a step of other calls than these, each one that such an end makes
abbrev pub IsBetween : List ℕ → Step → Type 0
IsBetween names (Does (Asks name x max)) = IsSending x × (IsAmong name names → ⊥)
IsBetween names other = Unit {0}

abbrev pub AreBetween : List ℕ → List Step → Type 0
AreBetween names [] = Unit {0}
AreBetween names (x ∷ xs) = IsBetween names x × AreBetween names xs

-- What the links of an end did from the start that attaches senders alone: a call sends a message; later on the message is known by the name of
-- that call; then another call asks for its outcome. No other call has one of their names, and none behind the first that of the link.
pub record Asked (name asking link : ℕ) (message : Sendable) : Type 0 where
  pub before : List Step
  pub ready : State
  pub begun : Did (no_links false) before ready
  pub others_before : AreBetween (name ∷ asking ∷ []) before
  pub max : Option ℕ
  pub sent : State
  pub sends : Calls name (call.Send link message) max ready sent
  pub between : List Step
  pub known : State
  pub goes : Did sent between known
  pub others_between : AreBetween (name ∷ asking ∷ link ∷ []) between
  pub delivery : SentDelivery
  pub is_known : lookup (nat_eq name) known.sends ≡ Some delivery
  pub waiting : List Step
  pub asked : State
  pub waits : Did known waiting asked
  pub others_waiting : AreBetween (name ∷ asking ∷ link ∷ []) waiting
  pub limit : Option ℕ
  pub awaited : State
  pub asks : Calls asking (call.Outcome name) limit asked awaited
  pub later : List Step
  pub last : State
  pub ends : Did awaited later last
  pub others_later : AreBetween (name ∷ asking ∷ link ∷ []) later

-- what they heard in all that, and the answers that were taken
abbrev pub heard_by : (name asking link : ℕ) (message : Sendable) → Asked name asking link message → List (ℕ × LinkInput)
heard_by name asking link message k = heard_in k.before ++ (heard_in k.between ++ (heard_in k.waiting ++ heard_in k.later))

abbrev pub answers_of : (name asking link : ℕ) (message : Sendable) → Asked name asking link message → List NamedLinkReply
answers_of name asking link message k =
    told_in (no_links false) k.before k.ready k.begun ++ (told_in k.sent k.between k.known k.goes
    ++ (told_in k.known k.waiting k.asked k.waits ++ told_in k.awaited k.later k.last k.ends))

-- an outcome that is told then is that of the message
abbrev pub LinksTellOutcomes : Type 0
LinksTellOutcomes =
    (name asking link : ℕ) (message : Sendable) (outcome : Outcome) (k : Asked name asking link message)
    → IsAmong (record { name = asking; reply = reply.Outcome outcome }) (answers_of name asking link message k)
    → IsRuled (heard_by name asking link message k) (link_of link k.ready) message outcome
