-- What a receiver goes through: its calls and what it hears, one after another (OASIS AMQP 1.0, part 2, section 2.6).
use Rattle.std.specs.Prelude.{◌≡◌, ℕ, ◌<◌, length, Bool, true, false, List, [], ◌∷◌, ◌++◌, map, Option, Some, None, Result, Ok, Err}
use Rattle.amqp_composites.specs.declared.error.Error.{Error as AmqpError}
use Rattle.amqp_termini.specs.declared.state.DeliveryState.{DeliveryState}
use Rattle.amqp_performatives.specs.declared.attach.Attach.{Attach}
use Rattle.amqp_performatives.specs.declared.detach.Detach.{Detach}
use Rattle.amqp_performatives.specs.declared.flow.Flow.{Flow}
use Rattle.amqp_performatives.specs.declared.transfer.Transfer.{Transfer}
use Rattle.amqp_frames.specs.declared.shared.CoveredDelivery.{CoveredDelivery}
use Rattle.amqp_frames.specs.declared.shared.SessionStopReason.{SessionStopReason}
use Rattle.amqp_parts.specs.declared.part.Part.{Part}
use Rattle.amqp_delivery.specs.declared.info.CreditMode.{CreditMode}
use Rattle.amqp_delivery.specs.declared.info.DeliveryInfo.{DeliveryInfo}
use Rattle.amqp_delivery.specs.declared.info.DisposerView.{DisposerView}
use Rattle.amqp_link.specs.Link as link
use Rattle.amqp_link.specs.Parting as parting
use Rattle.amqp_receiver.specs.declared.error.RecvError.{RecvError}
use Rattle.amqp_receiver.specs.declared.error.RecvError.TheVariants as error
use Rattle.amqp_receiver.specs.AutoAccept.{auto_accepted}
use Rattle.amqp_receiver.specs.Delivering.{all_bytes}
use Rattle.amqp_receiver.specs.Disposing.{disposed, disposed_by}
use Rattle.amqp_receiver.specs.Parting.{reattached}
use Rattle.amqp_receiver.specs.Receiver.{State, attach_read, transfer_read, flow_read, credit_set}
use Rattle.amqp_receiver.specs.Receiving.{Got, received, disposition_read, is_too_large}
use Rattle.amqp_receiver.specs.Regulating.{credit_mode_set, auto_accept_set, drain_asked, properties_told}
use Rattle.session_laws.specs.Messages.{Delivery, whole_of, Carry}

-- A call: to receive, where the bytes of a delivery that is complete spell a message or not; to dispose of deliveries, by the view of a
-- disposer or as the link is now; to regulate credit; to learn how far the attach is, to detach or close, to abandon, to attach again, or that
-- there is no handle for that. What is heard: each frame, and that the session has stopped. All that is to be written is taken off.
pub data Move : Type 0 where
  receives : Bool → Move
  disposes : List DeliveryInfo → DeliveryState → Move
  disposes_by : DisposerView → List DeliveryInfo → DeliveryState → Move
  sets_credit : ℕ → Move
  sets_credit_mode : CreditMode → Move
  sets_auto_accept : Bool → Move
  drains : Move
  tells_properties : Move
  polls : Move
  parts : Bool → Option AmqpError → Move
  abandons : Move
  reattaches : ℕ → Move
  stays : Move
  hears_attach : Attach → Move
  hears_flow : Flow → Move
  hears_transfer : Transfer → List ℕ → Move
  hears_disposition : CoveredDelivery → Bool → Move
  hears_detach : Detach → Move
  stops : SessionStopReason → Move
  hands_over : Move

abbrev pub with_link : link.Link → State → State
with_link l s = record s { link = l }

-- a message that is given is accepted, where that is to be done at once
abbrev pub given_behind : Bool → Option (Result Got RecvError) → State → State
given_behind true (Some (Ok x)) s = auto_accepted x.info s
given_behind spells answer s = s

-- the receiver behind a move
abbrev pub after : State → Move → State
after s (receives spells) = given_behind spells (received s).answer (received s).state
after s (disposes infos state) = (disposed infos state s).state
after s (disposes_by view infos state) = (disposed_by view infos state s).state
after s (sets_credit credit) = (credit_set credit s).state
after s (sets_credit_mode mode) = credit_mode_set mode s
after s (sets_auto_accept value) = auto_accept_set value s
after s drains = (drain_asked s).state
after s tells_properties = (properties_told s).state
after s polls = with_link (link.polled s.link).link s
after s (parts closes error) = with_link (parting.parting closes error s.link).link s
after s abandons = with_link (parting.abandoned s.link) s
after s (reattaches handle) = reattached handle s
after s stays = with_link (parting.unplaced s.link) s
after s (hears_attach x) = attach_read x s
after s (hears_flow x) = flow_read x s
after s (hears_transfer x payload) = transfer_read x payload s
after s (hears_disposition covered settled) = disposition_read covered settled s
after s (hears_detach d) = with_link (link.detach_read d s.link) s
after s (stops why) = with_link (link.stopped why s.link) s
after s hands_over = with_link (record s.link { output = [] }) s

abbrev pub after_all : State → List Move → State
after_all s [] = s
after_all s (m ∷ ms) = after_all (after s m) ms

-- ---- what was read

abbrev pub read_by : Move → List Part
read_by (hears_transfer x payload) = record { transfer = x; payload = payload } ∷ []
read_by other = []

-- the Transfers that it has heard, in order
abbrev pub read : List Move → List Part
read [] = []
read (m ∷ ms) = read_by m ++ read ms

-- ---- what was answered

-- of a delivery that was complete: it was given, or dropped since there was no credit for it, or there is another error. The number is the
-- credit at the call.
pub data Answer : Type 0 where
  Given : ℕ → Got → Answer
  Exceeded : ℕ → Answer
  Failed : RecvError → Answer

-- where nothing was complete, or the link gives no more, there is none
abbrev pub answer_in : ℕ → Option (Result Got RecvError) → List Answer
answer_in credit None = []
answer_in credit (Some (Ok x)) = Given credit x ∷ []
answer_in credit (Some (Err error.TransferLimitExceeded)) = Exceeded credit ∷ []
answer_in credit (Some (Err (error.LinkStateError e))) = []
answer_in credit (Some (Err e)) = Failed e ∷ []

abbrev pub answered_by : State → Move → List Answer
answered_by s (receives spells) = answer_in s.book.credit (received s).answer
answered_by s other = []

-- the answers of the calls that receive, in order
abbrev pub answered : State → List Move → List Answer
answered s [] = []
answered s (m ∷ ms) = answered_by s m ++ answered (after s m) ms

-- what names a delivery
abbrev pub info_of : Delivery → DeliveryInfo
info_of d = record { delivery_id = d.number; delivery_tag = d.message.tag; rcv_settle_mode = None }

-- The delivery was given for credit, with its number, its tag, its format and its bytes, or there was no credit for it.
abbrev pub IsAnswer : Delivery → Answer → Type 0
IsAnswer d (Given credit x) = (0 < credit) × (x.info ≡ info_of d) × (x.message_format ≡ Some d.message.format) × (all_bytes x.payloads ≡ d.message.payload)
IsAnswer d (Exceeded credit) = credit ≡ 0
IsAnswer d (Failed e) = ⊥

-- the answers are those of the deliveries, one by one
abbrev pub AreAnswers : List Delivery → List Answer → Type 0
AreAnswers [] [] = Unit {0}
AreAnswers [] (a ∷ more) = ⊥
AreAnswers (d ∷ ds) [] = ⊥
AreAnswers (d ∷ ds) (a ∷ more) = IsAnswer d a × AreAnswers ds more

-- each delivery is one that a link with that limit takes
abbrev pub AllFit : ℕ → List Delivery → Type 0
AllFit limit [] = Unit {0}
AllFit limit (d ∷ ds) = (is_too_large (length d.message.payload) limit ≡ false) × AllFit limit ds

-- both ends have attached, and nothing was read that waits
pub record IsReady (s : State) : Type 0 where
  pub attached : link.is_attached s.link.phase ≡ true
  pub waiting : s.incoming ≡ []
  pub buffer : s.buffer ≡ None

-- the answers are those of the first deliveries, in order
pub record Answers (ds : List Delivery) (xs : List Answer) : Type 0 where
  pub first : List Delivery
  pub others : List Delivery
  pub all : ds ≡ first ++ others
  pub answers : AreAnswers first xs

-- whatever a receiver goes through: what it answers are the first of the deliveries whose parts it reads, in order, unchanged
abbrev pub AnswersInOrder : Type 0
AnswersInOrder = (s : State) (ms : List Move) (ds : List Delivery) (later : List Part) → IsReady s → AllFit s.link.max_message_size ds
    → Carry (map whole_of ds) (read ms ++ later) → Answers ds (answered s ms)
