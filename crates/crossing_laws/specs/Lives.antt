-- What an end of a link goes through from the moment at which both have attached it (OASIS AMQP 1.0, part 2, section 2.6).
use Rattle.std.specs.Prelude.{◌≡◌, ℕ, Bool, false, List, [], ◌∷◌, ◌⊎◌, Option, None, if◌then◌else◌}
use Rattle.amqp_composites.specs.declared.error.Error.{Error as AmqpError}
use Rattle.amqp_composites.specs.declared.modes.Role.TheVariants as role
use Rattle.amqp_link.specs.amqp_frames.declared.body.FrameBody.{FrameBody}
use Rattle.amqp_link.specs.amqp_frames.declared.shared.SessionStopReason.{SessionStopReason}
use Rattle.amqp_link.specs.amqp_performatives.Attach.{written}
use Rattle.amqp_link.specs.amqp_performatives.declared.attach.Attach.{Attach}
use Rattle.amqp_link.specs.amqp_performatives.declared.detach.Detach.{Detach}
use Rattle.amqp_link.specs.declared.endpoint.LinkPhase.TheVariants as phase
use Rattle.amqp_link.specs.declared.settings.AcceptSettings.{AcceptSettings}
use Rattle.amqp_link.specs.Accept.{accepted, echoed}
use Rattle.amqp_link.specs.Link.{Link, asked, attach_read, unexpected, detach_read, stopped, polled, saying, closing, is_attached}
use Rattle.amqp_link.specs.Parting.{parting, abandoned, reattached, unplaced}
use Rattle.amqp_link.specs.Rules.{is_dynamic_source}
use Rattle.crossing_laws.specs.Ends.{Anew}

-- What is read: an Attach, a Detach, another frame; that the session has stopped. A call: to learn how far the attach is, to detach or
-- close, to abandon, to attach again, or that there is no handle for that. A frame is to be written; an attached link is closed for what
-- was read; all that is to be written is taken off.
pub data Move : Type 0 where
  hears_attach : Attach → Move
  hears_detach : Detach → Move
  hears_other : Move
  stops : SessionStopReason → Move
  polls : Move
  parts : Bool → Option AmqpError → Move
  abandons : Move
  reattaches : Anew → Move
  stays : Move
  says : FrameBody → Move
  fails : Option AmqpError → Move
  hands_over : Move

-- the end behind a move
abbrev pub after : Link → Move → Link
after s (hears_attach x) = attach_read x s
after s (hears_detach d) = detach_read d s
after s hears_other = unexpected s
after s (stops why) = stopped why s
after s polls = (polled s).link
after s (parts closes error) = (parting closes error s).link
after s abandons = abandoned s
after s (reattaches n) = reattached n.handle n.unsettled n.count s
after s stays = unplaced s
after s (says x) = saying x s
after s (fails error) = if is_attached s.phase then closing error s else s
after s hands_over = record s { output = [] }

abbrev pub after_all : Link → List Move → Link
after_all s [] = s
after_all s (m ∷ ms) = after_all (after s m) ms

-- a sender has attached, and a receiver has answered
pub record SenderAsked (s r : Link) : Type 0 where
  pub attach : Attach
  pub verify : Bool
  pub settings : AcceptSettings
  pub handle : ℕ
  pub role : attach.role ≡ role.Sender
  pub sender : s ≡ attach_read (written (echoed settings handle (written attach))) (asked verify attach)
  pub receiver : r ≡ accepted settings handle (written attach)
  -- the node that a sender says was made for its source has an address (part 3, section 3.5.3)
  pub source : is_dynamic_source false attach.source ≡ false

-- a receiver has attached, and a sender has answered
pub record ReceiverAsked (s r : Link) : Type 0 where
  pub attach : Attach
  pub verify : Bool
  pub settings : AcceptSettings
  pub handle : ℕ
  pub role : attach.role ≡ role.Receiver
  pub sender : s ≡ accepted settings handle (written attach)
  pub receiver : r ≡ attach_read (written (echoed settings handle (written attach))) (asked verify attach)

-- a sender and a receiver as they are once each has read the other's Attach
abbrev pub Meet : Link → Link → Type 0
Meet s r = SenderAsked s r ⊎ ReceiverAsked s r

-- it is attached, nobody has abandoned it, and its session has not stopped
pub record Stands (s : Link) : Type 0 where
  pub attached : s.phase ≡ phase.Attached
  pub kept : s.is_gone ≡ false
  pub runs : s.stop_reason ≡ None
