-- Two ends that have attached a link to each other (OASIS AMQP 1.0, part 2, section 2.6.3).
use Rattle.std.specs.Prelude.{◌≡◌, true, false, codes, Some, None}
use Rattle.amqp_composites.specs.declared.modes.ReceiverSettleMode.TheVariants.{First}
use Rattle.amqp_composites.specs.declared.modes.Role.TheVariants as role
use Rattle.amqp_composites.specs.declared.modes.SenderSettleMode.TheVariants.{Mixed}
use Rattle.amqp_link.specs.amqp_frames.amqp_termini.declared.target_archetype.TargetArchetype.TheVariants as archetype
use Rattle.amqp_link.specs.amqp_performatives.Attach.{written}
use Rattle.amqp_link.specs.amqp_performatives.declared.attach.Attach.{Attach}
use Rattle.amqp_link.specs.declared.endpoint.LinkPhase.TheVariants as phase
use Rattle.amqp_link.specs.declared.settings.AcceptSettings.{AcceptSettings}
use Rattle.amqp_link.specs.Accept.{accepted, echoed}
use Rattle.amqp_link.specs.Link.{Link, asked, attach_read}
use Rattle.amqp_link.specs.Termini.{source_at, target_at}
use Rattle.crossing_laws.specs.Lives.{SenderAsked}

-- a sender to the node "q"
abbrev pub attach : Attach
attach = record {
  name = codes "s";
  handle = 0;
  role = role.Sender;
  snd_settle_mode = Mixed;
  rcv_settle_mode = First;
  source = Some (source_at None false);
  target = Some (archetype.Target (target_at (Some (codes "q")) false));
  unsettled = None;
  incomplete_unsettled = false;
  initial_delivery_count = Some 0;
  max_message_size = None;
  offered_capabilities = None;
  desired_capabilities = None;
  properties = None;
}

abbrev pub settings : AcceptSettings
settings = record { max_message_size = Some 1024; initial_delivery_count = 0; dynamic_address = None }

abbrev pub receiver : Link
receiver = accepted settings 7 (written attach)

abbrev pub sender : Link
sender = attach_read (written (echoed settings 7 (written attach))) (asked true attach)

-- there are two such ends
pub record EndsAreMet : Type 0 where
  pub meet : SenderAsked sender receiver
  pub sends : sender.phase ≡ phase.Attached
  pub receives : receiver.phase ≡ phase.Attached
