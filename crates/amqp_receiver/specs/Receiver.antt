-- A receiver, as its rules see it (OASIS AMQP 1.0, part 2, section 2.6).
use Rattle.std.specs.Prelude.{◌≡◌, ℕ, nat_eq, Bool, true, false, not, ◌&&◌, List, [], ◌∷◌, ◌++◌, Option, Some, None, unwrap_or, Result, Ok, Err, if◌then◌else◌}
use Rattle.std.specs.Option.{option_map}
use Rattle.amqp_composites.specs.declared.modes.Role.TheVariants as role
use Rattle.amqp_termini.specs.declared.target_archetype.TargetArchetype.TheVariants as archetype
use Rattle.amqp_performatives.specs.declared.attach.Attach.{Attach}
use Rattle.amqp_performatives.specs.declared.flow.Flow.{Flow}
use Rattle.amqp_performatives.specs.declared.transfer.Transfer.{Transfer}
use Rattle.amqp_link.specs.amqp_frames.declared.body.FrameBody.{FrameBody}
use Rattle.amqp_link.specs.amqp_frames.declared.body.FrameBody.TheVariants as b
use Rattle.amqp_parts.specs.Join as parts
use Rattle.amqp_delivery.specs.Book.{Book, empty_book, with_credit, attached, drained_by}
use Rattle.amqp_delivery.specs.declared.info.CreditMode.{CreditMode}
use Rattle.amqp_delivery.specs.declared.info.CreditMode.TheVariants.{Manual, Auto}
use Rattle.amqp_link.specs.declared.endpoint.AttachPoll.{AttachPoll}
use Rattle.amqp_link.specs.declared.endpoint.LinkPhase.{LinkPhase}
use Rattle.amqp_link.specs.declared.endpoint.LinkPhase.TheVariants as phase
use Rattle.amqp_link.specs.declared.error.AttachError.{AttachError}
use Rattle.amqp_link.specs.declared.error.IllegalLinkStateError.{IllegalLinkStateError}
use Rattle.amqp_link.specs.declared.error.IllegalLinkStateError.TheVariants as illegal
use Rattle.amqp_link.specs.declared.settings.AcceptSettings.{AcceptSettings}
use Rattle.amqp_link.specs.Accept as accept
use Rattle.amqp_link.specs.Link as link
use Rattle.amqp_link.specs.Numbers.{minus, plus, link_flow}
use Rattle.amqp_link.specs.Termini.{source_at, target_at}
use Rattle.amqp_receiver.specs.declared.receiver.Incoming.{Incoming}
use Rattle.amqp_receiver.specs.declared.receiver.Receiver.{Receiver}
use Rattle.amqp_receiver.specs.declared.settings.ReceiverSettings.{ReceiverSettings}

-- the link; the book of its deliveries and its credit; the Transfers that wait; the delivery of which more is to come; where the
-- sender's delivery-count began, how many deliveries it has begun since, modulo 2^32, and how much credit it has drained; whether the
-- last Transfer that was read has more to come; whether each delivery is accepted as it is given; whether the sender was asked to use up
-- its credit, and was given none since
pub record State : Type 0 where
  pub link : link.Link
  pub book : Book
  pub incoming : List Incoming
  pub buffer : Option parts.Incomplete
  pub initial : ℕ
  pub begun : ℕ
  pub drained : ℕ
  pub is_inside : Bool
  pub auto_accept : Bool
  pub is_draining : Bool

abbrev pub seen : Receiver → State
seen s = record { link = link.seen s.link; book = s.book.book; incoming = s.incoming.items; buffer = option_map parts.seen s.buffer; initial = s.initial; begun = s.begun; drained = s.drained; is_inside = s.is_inside; auto_accept = s.auto_accept; is_draining = s.is_draining }

abbrev pub fresh : link.Link → CreditMode → Bool → State
fresh l credit_mode auto_accept = record { link = l; book = empty_book l.own.rcv_settle_mode credit_mode 0; incoming = []; buffer = None; initial = 0; begun = 0; drained = 0; is_inside = false; auto_accept = auto_accept; is_draining = false }

-- the Attach that the settings say
abbrev pub own_of : ReceiverSettings → ℕ → Attach
own_of x handle = record { name = x.name; handle = handle; role = role.Receiver; snd_settle_mode = x.snd_settle_mode; rcv_settle_mode = x.rcv_settle_mode; source = Some (source_at x.source x.dynamic); target = Some (archetype.Target (target_at x.target false)); unsettled = None; incomplete_unsettled = false; initial_delivery_count = None; max_message_size = x.max_message_size; offered_capabilities = None; desired_capabilities = None; properties = None }

-- this end attaches
abbrev pub asked : ReceiverSettings → ℕ → State
asked x handle = fresh (link.asked x.verify (own_of x handle)) x.credit_mode x.auto_accept

-- ---- credit

-- the sender is told its credit, and whether it is to use it up (section 2.6.7)
abbrev pub telling_credit : Bool → State → State
telling_credit drain s = record s { link = link.saying (b.Flow (link_flow s.link.own.handle s.book.delivery_count s.book.credit drain)) s.link }

-- credit that is given is not to be used up
abbrev pub giving : ℕ → State → State
giving credit s = telling_credit false (record s { book = with_credit s.book credit; is_draining = false })

-- once both ends have attached, credit is given where it is kept up
abbrev pub giving_first : CreditMode → State → State
giving_first Manual s = s
giving_first (Auto credit) s = giving credit s

-- both ends have attached
abbrev pub opened : ℕ → State → State
opened count s = giving_first s.book.credit_mode (record s { book = attached s.book count; initial = count })

abbrev pub opened_if : Bool → Option ℕ → State → State
opened_if true count s = opened (unwrap_or count 0) s
opened_if false count s = s

-- this end answers the Attach of a sender
abbrev pub accepted : AcceptSettings → CreditMode → ℕ → Attach → State
accepted x credit_mode handle attach = opened_if (accept.accepted x handle attach).is_made attach.initial_delivery_count (fresh (accept.accepted x handle attach) credit_mode false)

-- the peer's Attach was read: it opens the link where that was not attached before
abbrev pub attach_read : Attach → State → State
attach_read x s = opened_if (not s.link.is_made && (link.attach_read x s.link).is_made) x.initial_delivery_count (record s { link = link.attach_read x s.link })

-- what a call comes to that gives credit or settles deliveries: the receiver behind it, and the refusal if it is refused
pub record Made : Type 0 where
  pub state : State
  pub answer : Option IllegalLinkStateError

abbrev pub works : State → Made
works s = record { state = s; answer = None }

abbrev pub refuses : IllegalLinkStateError → State → Made
refuses e s = record { state = s; answer = Some e }

abbrev pub Answers : Result Unit IllegalLinkStateError → Made → State → Type 0
Answers (Ok done) made new = (made.answer ≡ None) × (new ≡ made.state)
Answers (Err (illegal.Memory a)) made new = Unit {0}
Answers (Err e) made new = (made.answer ≡ Some e) × (new ≡ made.state)

abbrev pub giving_unless : Option IllegalLinkStateError → ℕ → State → Made
giving_unless (Some e) credit s = refuses e s
giving_unless None credit s = works (giving credit s)

abbrev pub credit_set : ℕ → State → Made
credit_set credit s = giving_unless (link.disposal_refusal s.link) credit s

-- ---- what is read

-- a Transfer waits; it begins a delivery where the one before it had no more to come
abbrev pub waiting : Transfer → List ℕ → State → State
waiting x payload s = record s { incoming = s.incoming ++ record { transfer = x; payload = payload } ∷ []; begun = if s.is_inside then s.begun else plus s.begun 1; is_inside = x.more && not x.aborted }

abbrev pub transfer_in : LinkPhase → Transfer → List ℕ → State → State
transfer_in phase.Attached x payload s = waiting x payload s
transfer_in other x payload s = record s { link = link.unexpected s.link }

abbrev pub transfer_read : Transfer → List ℕ → State → State
transfer_read x payload s = transfer_in s.link.phase x payload s

-- how much credit the sender has drained: its delivery-count has moved by that beside the deliveries that it has begun
abbrev pub drained_more : ℕ → State → ℕ
drained_more count s = minus count (plus (plus s.initial s.begun) s.drained)

abbrev pub draining : ℕ → State → State
draining amount s = record s { book = drained_by s.book amount; drained = plus s.drained amount }

abbrev pub drain_read : Bool → Option ℕ → State → State
drain_read true (Some count) s = draining (drained_more count s) s
drain_read drain count s = s

abbrev pub flow_in : LinkPhase → Flow → State → State
flow_in phase.Attached x s = drain_read x.drain x.delivery_count s
flow_in other x s = record s { link = link.unexpected s.link }

-- the sender's Flow was read
abbrev pub flow_read : Flow → State → State
flow_read x s = flow_in s.link.phase x s

abbrev pub Polls : Result AttachPoll AttachError → State → State → Type 0
Polls result old new = link.Polls result (link.polled old.link) old.link new.link × (new ≡ record old { link = new.link })

abbrev pub TakesFrame : State → Option FrameBody → State → Type 0
TakesFrame old x new = link.TakesFrame old.link x new.link × (new ≡ record old { link = new.link })

-- a size of 0 says that there is no limit
abbrev pub limit_of : ℕ → Option ℕ
limit_of size = if nat_eq size 0 then None else Some size
