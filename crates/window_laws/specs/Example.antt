-- Two sessions of which one fills the window of the other, and waits until it is told that there is room (OASIS AMQP
-- 1.0, part 2, section 2.5.6).
use Rattle.std.specs.Prelude.{◌≡◌, ℕ, ◌+◌, ◌<◌, true, false, codes, List, [], ◌∷◌, ◌++◌, Some, None}
use Rattle.amqp_composites.specs.declared.modes.ReceiverSettleMode.TheVariants.{First}
use Rattle.amqp_composites.specs.declared.modes.Role.TheVariants as role
use Rattle.amqp_composites.specs.declared.modes.SenderSettleMode.TheVariants.{Mixed}
use Rattle.amqp_performatives.specs.declared.attach.Attach.{Attach}
use Rattle.amqp_performatives.specs.declared.flow.Flow.{Flow}
use Rattle.amqp_performatives.specs.declared.transfer.Transfer.{Transfer}
use Rattle.amqp_frames.specs.declared.body.FrameBody.{FrameBody}
use Rattle.amqp_frames.specs.declared.body.FrameBody.TheVariants as b
use Rattle.amqp_frames.specs.declared.shared.LinkFrame.TheVariants as link
use Rattle.amqp_session.specs.declared.settings.SessionSettings.{SessionSettings}
use Rattle.amqp_session.specs.Begin.{begin_of}
use Rattle.amqp_session.specs.State.{Framed}
use Rattle.session_laws.specs.Holding.{tells, hears}
use Rattle.window_laws.specs.Starting.{Start, begins, answers, reads, writes, window, first_number}
use Rattle.window_laws.specs.Counting.{count}
use Rattle.window_laws.specs.Keeping.{Step, moves_one, moves_other, moves_of_one, moves_of_other, GoOn}

abbrev pub framed : FrameBody → Framed
framed x = record { channel = 0; body = x }

-- the one numbers its Transfers from the highest number on; the other takes one Transfer at a time
abbrev pub settings : SessionSettings
settings = record {
  next_outgoing_id = 4294967295;
  incoming_window = 8;
  outgoing_window = 8;
  handle_max = 7;
  offered_capabilities = None;
  desired_capabilities = None;
  properties = None;
  max_frame_size = 512;
}

abbrev pub other_settings : SessionSettings
other_settings = record settings { next_outgoing_id = 0; incoming_window = 1 }

-- ---- the frames

abbrev pub answer : Framed
answer = framed (b.Begin (begin_of other_settings (Some 0)))

abbrev pub attach : Attach
attach = record {
  name = codes "s";
  handle = 0;
  role = role.Sender;
  snd_settle_mode = Mixed;
  rcv_settle_mode = First;
  source = None;
  target = None;
  unsettled = None;
  incomplete_unsettled = false;
  initial_delivery_count = Some 0;
  max_message_size = None;
  offered_capabilities = None;
  desired_capabilities = None;
  properties = None;
}

-- a delivery with that tag, as its link writes it
abbrev pub delivery : ℕ → Transfer
delivery tag = record {
  handle = 0;
  delivery_id = None;
  delivery_tag = Some (tag ∷ []);
  message_format = Some 0;
  settled = Some true;
  more = false;
  rcv_settle_mode = None;
  state = None;
  resume = false;
  aborted = false;
  batchable = false;
}

-- a section of data with the bytes of "hello" (part 3, section 3.2.6)
abbrev pub hello : List ℕ
hello = 0 ∷ 83 ∷ 117 ∷ 160 ∷ 5 ∷ 104 ∷ 101 ∷ 108 ∷ 108 ∷ 111 ∷ []

-- as it is sent, with its number
abbrev pub sent : ℕ → Framed
sent number = framed (b.Transfer (record (delivery number) { delivery_id = Some number }) hello)

-- the other has read the Transfer 4294967295 and waits for the Transfer 0
abbrev pub report : Flow
report = record {
  next_incoming_id = Some 0;
  incoming_window = 1;
  next_outgoing_id = 0;
  outgoing_window = 8;
  handle = None;
  delivery_count = None;
  link_credit = None;
  available = None;
  drain = false;
  echo = false;
  properties = None;
}

-- ---- the sessions

abbrev pub one_starts : Start
one_starts = begins settings 0

abbrev pub other_starts : Start
other_starts = answers other_settings 0 (record { channel = 0; begin = begin_of settings None })

-- the link of the one writes two deliveries, for which there is no room at once
abbrev pub fills : List Step
fills =
    moves_one (hears answer) ∷ moves_one (tells (link.Attach attach))
    ∷ moves_one (tells (link.Transfer (delivery 0) hello)) ∷ moves_one (tells (link.Transfer (delivery 1) hello)) ∷ []

-- the other reads the first one, and reports it
abbrev pub tells_back : List Step
tells_back =
    moves_other (hears (framed (b.Attach attach))) ∷ moves_other (hears (sent 0))
    ∷ moves_one (hears (framed (b.Flow report))) ∷ []

abbrev pub goes : List Step
goes = fills ++ tells_back

-- They meet what the laws ask. The second delivery waits while the window is full, and is written once the other has
-- reported the first one; then the window is full again, and each bound is reached.
pub record WindowIsMet : Type 0 where
  pub go_on : GoOn one_starts [] other_starts [] goes
  pub short : first_number one_starts < 4294967296
  pub narrow : window other_starts < 4294967296
  pub few : count (reads other_starts (moves_of_other goes)) + window other_starts < 4294967296
  pub waits : count (writes one_starts (moves_of_one fills)) ≡ 1
  pub read : count (reads other_starts (moves_of_other goes)) ≡ 1
  pub written : count (writes one_starts (moves_of_one goes)) ≡ 2
