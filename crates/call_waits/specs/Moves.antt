-- What a link with its calls goes through: what it hears, and the calls (OASIS AMQP 1.0, part 2, section 2.6).
use Rattle.std.specs.Prelude.{◌≡◌, ℕ, Bool, true, List, [], Option, None}
use Rattle.amqp_termini.specs.declared.state.DeliveryState.{DeliveryState}
use Rattle.amqp_performatives.specs.declared.attach.Attach.{Attach}
use Rattle.amqp_performatives.specs.declared.detach.Detach.{Detach}
use Rattle.amqp_performatives.specs.declared.flow.Flow.{Flow}
use Rattle.amqp_performatives.specs.declared.transfer.Transfer.{Transfer}
use Rattle.amqp_frames.specs.declared.shared.CoveredDelivery.{CoveredDelivery}
use Rattle.amqp_frames.specs.declared.shared.SessionStopReason.{SessionStopReason}
use Rattle.amqp_delivery.specs.declared.info.DeliveryInfo.{DeliveryInfo}
use Rattle.amqp_delivery.specs.declared.info.DisposerView.{DisposerView}
use Rattle.amqp_link_words.specs.declared.link_call.Disposal.{Disposal}
use Rattle.amqp_link_words.specs.declared.link_call.Parting.{Parting}
use Rattle.amqp_link_words.specs.declared.link_call.Sendable.{Sendable}
use Rattle.amqp_link_words.specs.declared.link_reply.LinkReply.{LinkReply}
use Rattle.amqp_link_words.specs.declared.regulation.Regulation.{Regulation}
use Rattle.amqp_link_calls.specs.Answering.{answers_taken}
use Rattle.amqp_link_calls.specs.Called.{Called, with_side, stopped}
use Rattle.amqp_link_calls.specs.Calling.{having_sent, outcome_asked, outcome_given_up, having_received, disposes, sets_credit}
use Rattle.amqp_link_calls.specs.Disposers.{disposes_by}
use Rattle.amqp_link_calls.specs.Hearing as hearing
use Rattle.amqp_link_calls.specs.Leaving.{leaves, part_given_up, wants_handle, handle_given, handle_refused}
use Rattle.amqp_link_calls.specs.Regulating.{regulates}
use Rattle.amqp_link_calls.specs.Side.{link_of, with_link, is_stopped}

-- The peer's Attach, Flow, Transfer or Detach is read, or its Disposition for a delivery; the session has stopped, and
-- is over. A call sends, asks for the outcome of the delivery at a place, receives with that answer, disposes of
-- deliveries, as the link is now or by a disposer's view, sets the credit, has a receiver go on otherwise, or leaves the
-- link. The time of the call of that name is over that waits for an outcome, or leaves the link. The frames to be
-- written, or the answers, are taken. The link, which is to be attached again, is given a handle, or there is none.
pub data Move : Type 0 where
  HearsAttach : Attach → Move
  HearsFlow : Flow → Move
  HearsTransfer : Transfer → List ℕ → Move
  HearsDetach : Detach → Move
  HearsDisposition : CoveredDelivery → Bool → Option DeliveryState → Move
  Stops : SessionStopReason → Move
  Concludes : Move
  Sends : Sendable → Move
  AsksOutcome : ℕ → ℕ → Move
  Receives : LinkReply → Move
  Disposes : Disposal → List DeliveryInfo → Move
  DisposesBy : DisposerView → Disposal → List DeliveryInfo → Move
  SetsCredit : ℕ → Move
  Regulates : Regulation → Move
  Leaves : ℕ → Parting → Move
  GivesUpOutcome : ℕ → ℕ → Move
  GivesUpPart : ℕ → Move
  Writes : Move
  Answers : Move
  GetsHandle : ℕ → Move
  GetsNoHandle : Move

-- all that the link has to write was written
abbrev pub written : Called → Called
written l = with_side (with_link (record (link_of l.side) { output = [] }) l.side) l

-- the link behind it
abbrev pub after : Move → Called → Called
after (HearsAttach x) l = hearing.attach_read x l
after (HearsFlow x) l = hearing.flow_read x l
after (HearsTransfer x payload) l = hearing.transfer_read x payload l
after (HearsDetach d) l = hearing.detach_read d l
after (HearsDisposition covered settled x) l = hearing.disposition_read covered settled x l
after (Stops why) l = stopped why l
after Concludes l = hearing.concluded l
after (Sends x) l = having_sent x l
after (AsksOutcome name place) l = outcome_asked name place l
after (Receives answer) l = with_side (having_received answer l.side) l
after (Disposes x infos) l = with_side (disposes x infos l.side).side l
after (DisposesBy view x infos) l = with_side (disposes_by view x infos l.side).side l
after (SetsCredit credit) l = with_side (sets_credit credit l.side).side l
after (Regulates x) l = with_side (regulates x l.side).side l
after (Leaves name x) l = (leaves name x l).called
after (GivesUpOutcome name place) l = outcome_given_up name place l
after (GivesUpPart name) l = part_given_up name l
after Writes l = written l
after Answers l = answers_taken l
after (GetsHandle handle) l = handle_given handle l
after GetsNoHandle l = handle_refused l

-- nothing more comes of a session once it has stopped; a call that leaves the link is taken while none waits that does;
-- a link gets a handle where it is to be attached again
abbrev pub May : Move → Called → Type 0
May Concludes l = is_stopped l.side ≡ true
May (Leaves name x) l = l.parting ≡ None
May (GetsHandle handle) l = wants_handle l ≡ true
May GetsNoHandle l = wants_handle l ≡ true
May other l = Unit {0}
