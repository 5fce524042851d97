-- Two ends, a link, and one message on it, from the attach to the outcome (OASIS AMQP 1.0, part 2, section 2.6).
use Rattle.std.specs.Prelude.{◌≡◌, ℕ, true, false, codes, List, [], ◌∷◌, Some, None, Vec}
use Rattle.std.specs.declared.alloc.Global.{Global}
use Rattle.amqp_composites.specs.declared.modes.ReceiverSettleMode.TheVariants.{First}
use Rattle.amqp_composites.specs.declared.modes.Role.TheVariants as role
use Rattle.amqp_composites.specs.declared.modes.SenderSettleMode.TheVariants.{Mixed}
use Rattle.amqp_performatives.specs.declared.attach.Attach.{Attach}
use Rattle.amqp_performatives.specs.declared.disposition.Disposition.{Disposition}
use Rattle.amqp_performatives.specs.declared.flow.Flow.{Flow}
use Rattle.amqp_performatives.specs.declared.transfer.Transfer.{Transfer}
use Rattle.amqp_termini.specs.declared.outcome.Outcome.TheVariants.{Accepted}
use Rattle.amqp_frames.specs.declared.body.FrameBody.{FrameBody}
use Rattle.amqp_frames.specs.declared.body.FrameBody.TheVariants as b
use Rattle.amqp_frames.specs.declared.shared.CoveredDelivery.{CoveredDelivery}
use Rattle.amqp_frames.specs.declared.shared.LinkFrame.TheVariants as link
use Rattle.amqp_delivery.specs.States.{accepted}
use Rattle.amqp_delivery.specs.declared.info.CreditMode.TheVariants.{Manual}
use Rattle.amqp_delivery.specs.declared.info.DeliveryInfo.{DeliveryInfo}
use Rattle.amqp_link.specs.declared.settings.AcceptSettings.{AcceptSettings}
use Rattle.amqp_link.specs.Accept.{echoed}
use Rattle.amqp_link.specs.Link.{asked}
use Rattle.amqp_link.specs.Numbers.{link_flow}
use Rattle.amqp_receiver.specs.Receiver as receiver
use Rattle.amqp_sender.specs.declared.sender.Settlement.TheVariants.{Settled}
use Rattle.amqp_sender.specs.Sender as sender
use Rattle.amqp_session.specs.declared.session.LeftDelivery.{LeftDelivery}
use Rattle.amqp_session.specs.declared.settings.SessionSettings.{SessionSettings}
use Rattle.amqp_session.specs.Begin as begin
use Rattle.amqp_session.specs.State.{State as Session, Framed}
use Rattle.amqp_session.specs.Windows.{stamped}
use Rattle.session_laws.specs.Messages.{Message}
use Rattle.session_laws.specs.Sending as sending
use Rattle.session_laws.specs.Sending.{hears_attach, hears_flow, hears_disposition, sends, sent}
use Rattle.session_laws.specs.Holding as session
use Rattle.session_laws.specs.Holding.{tells, hears, hands_frame}
use Rattle.session_laws.specs.Receiving as receiving
use Rattle.session_laws.specs.Receiving.{sets_credit, hears_transfer, receives, disposes, AreAnswers, answered}
use Rattle.session_laws.specs.Laws.{Path}
use Rattle.session_laws.specs.Outcomes.{Back}
use Rattle.session_laws.specs.Crediting.{Way}

-- the message: a section of data with the bytes of "hello" (part 3, section 3.2.6)
abbrev pub hello : List ℕ
hello = 0 ∷ 83 ∷ 117 ∷ 160 ∷ 5 ∷ 104 ∷ 101 ∷ 108 ∷ 108 ∷ 111 ∷ []

abbrev pub tag : List ℕ
tag = 0 ∷ 0 ∷ 0 ∷ 0 ∷ []

abbrev pub message : Message
message = record { handle = 0; tag = tag; format = 0; settled = false; batchable = false; payload = hello }

-- ---- the frames

-- the Attach of the sender, and that by which the other end answers
abbrev pub mine : Attach
mine = sender.own_of (record { name = codes "s"; source = None; target = Some (codes "q"); dynamic = false; snd_settle_mode = Mixed; rcv_settle_mode = First; max_message_size = None; initial_delivery_count = 0; verify = true }) 0

abbrev pub accepts : AcceptSettings
accepts = record { max_message_size = Some 1024; initial_delivery_count = 0; dynamic_address = None }

abbrev pub theirs : Attach
theirs = echoed accepts 0 mine

-- credit for two deliveries, as the receiver writes it
abbrev pub credit : Flow
credit = link_flow 0 0 2 false

-- the Transfer as the sender writes it, and as it comes
abbrev pub written : Transfer
written = record {
  handle = 0;
  delivery_id = None;
  delivery_tag = Some tag;
  message_format = Some 0;
  settled = Some false;
  more = false;
  rcv_settle_mode = None;
  state = None;
  resume = false;
  aborted = false;
  batchable = false;
}

abbrev pub coming : Transfer
coming = record written { delivery_id = Some 0 }

-- the delivery is accepted and settled
abbrev pub ruling : Disposition
ruling = record {
  role = role.Receiver;
  first = 0;
  last = None;
  settled = true;
  state = Some accepted;
  batchable = false;
}

abbrev pub info : DeliveryInfo
info = record { delivery_id = 0; delivery_tag = tag; rcv_settle_mode = None }

abbrev pub covered : CoveredDelivery
covered = record { delivery_id = 0; delivery_tag = tag }

abbrev pub left : LeftDelivery
left = record { handle = 0; delivery_id = 0; delivery_tag = tag; settled = false }

abbrev pub framed : FrameBody → Framed
framed x = record { channel = 0; body = x }

-- ---- the sessions, once both Begins were written and read

abbrev pub settings : SessionSettings
settings = record {
  next_outgoing_id = 0;
  incoming_window = 8;
  outgoing_window = 8;
  handle_max = 7;
  offered_capabilities = None;
  desired_capabilities = None;
  properties = None;
  max_frame_size = 512;
}

-- that of the sender has begun, that of the receiver has answered
abbrev pub session_from : Session
session_from = session.after (begin.mapped 0 (begin.begin_of settings (Some 0)) (begin.begun settings 0)) hands_frame

abbrev pub other_from : Session
other_from = session.after (begin.accepted settings 0 (record { channel = 0; begin = begin.begin_of settings None })) hands_frame

abbrev pub session_goes : List session.Move
session_goes = tells (link.Attach mine) ∷ hears (framed (b.Attach theirs)) ∷ hears (framed (b.Flow (stamped other_from.windows credit))) ∷ tells (link.Transfer written hello) ∷ hears (framed (b.Disposition ruling)) ∷ []

-- which deliveries its links found for the Disposition, the session does not read
abbrev pub other_goes : Vec CoveredDelivery Global → List session.Move
other_goes found = hears (framed (b.Attach mine)) ∷ tells (link.Attach theirs) ∷ tells (link.Flow credit) ∷ hears (framed (b.Transfer coming hello)) ∷ tells (link.Disposition ruling found) ∷ []

-- ---- the links, once both Attaches were written and read

-- credit comes, a call sends the message, and the Disposition comes
abbrev pub sends_from : sender.State
sends_from = sending.after (sender.begun (asked true mine) 0) (hears_attach theirs)

abbrev pub sender_goes : List sending.Move
sender_goes = hears_flow (stamped other_from.windows credit) ∷ sends hello 0 None false ∷ hears_disposition covered true (Some accepted) ∷ []

-- a call gives credit, the Transfer comes, a call receives the message, and another accepts it
abbrev pub receives_from : receiver.State
receives_from = receiver.accepted accepts Manual 0 mine

abbrev pub receiver_goes : List receiving.Move
receiver_goes = sets_credit 2 ∷ hears_transfer coming hello ∷ receives true ∷ disposes (info ∷ []) accepted ∷ []

-- ---- together

-- these two ends meet what the laws of messages, outcomes and credit ask: the one message is sent, the receiver
-- answers with it and nothing else, and the sender tells that it was accepted
pub record PathIsMet (found : Vec CoveredDelivery Global) : Type 0 where
  pub path : Path 0 sends_from sender_goes session_from session_goes other_from (other_goes found) receives_from receiver_goes
  pub back : Back 0 sends_from sender_goes session_from session_goes other_from (other_goes found) (record { receiver = receives_from; moves = receiver_goes } ∷ [])
  pub way : Way 0 sends_from sender_goes session_from session_goes other_from (other_goes found) receives_from receiver_goes
  pub sends_one : sent sends_from sender_goes ≡ message ∷ []
  pub answers : AreAnswers (record { number = 0; message = message } ∷ []) (answered receives_from receiver_goes)
  pub tells_outcome : (sending.after_all sends_from sender_goes).settlements ≡ Settled (Accepted (record {})) ∷ []

abbrev pub PathsAreMet : Type 0
PathsAreMet = (found : Vec CoveredDelivery Global) → PathIsMet found
