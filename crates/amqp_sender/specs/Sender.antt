-- A sender, as its rules see it (OASIS AMQP 1.0, part 2, section 2.6).
use Rattle.std.specs.Prelude.{◌≡◌, ℕ, nat_eq, false, List, [], Option, Some, None, Result, if◌then◌else◌}
use Rattle.amqp_composites.specs.declared.modes.Role.TheVariants as role
use Rattle.amqp_termini.specs.declared.target_archetype.TargetArchetype.TheVariants as archetype
use Rattle.amqp_link.specs.amqp_performatives.declared.attach.Attach.{Attach}
use Rattle.amqp_link.specs.amqp_frames.declared.body.FrameBody.{FrameBody}
use Rattle.amqp_link.specs.declared.endpoint.AttachPoll.{AttachPoll}
use Rattle.amqp_link.specs.declared.error.AttachError.{AttachError}
use Rattle.amqp_link.specs.declared.settings.AcceptSettings.{AcceptSettings}
use Rattle.amqp_link.specs.Accept as accept
use Rattle.amqp_link.specs.Link as link
use Rattle.amqp_link.specs.Termini.{source_at, target_at}
use Rattle.amqp_sender.specs.declared.sender.Sender.{Sender}
use Rattle.amqp_sender.specs.declared.sender.Settlement.{Settlement}
use Rattle.amqp_sender.specs.declared.settings.SenderSettings.{SenderSettings}

-- the link; how many deliveries may be sent, and how many were; what has become of each, in order; the places of those that are not
-- settled, by their tags
pub record State : Type 0 where
  pub link : link.Link
  pub credit : ℕ
  pub delivery_count : ℕ
  pub settlements : List Settlement
  pub unsettled : List (List ℕ × ℕ)

abbrev pub seen : Sender → State
seen s = record { link = link.seen s.link; credit = s.credit; delivery_count = s.delivery_count; settlements = s.settlements.items; unsettled = s.unsettled.entries }

abbrev pub begun : link.Link → ℕ → State
begun l count = record { link = l; credit = 0; delivery_count = count; settlements = []; unsettled = [] }

-- the Attach that the settings say
abbrev pub own_of : SenderSettings → ℕ → Attach
own_of x handle = record { name = x.name; handle = handle; role = role.Sender; snd_settle_mode = x.snd_settle_mode; rcv_settle_mode = x.rcv_settle_mode; source = Some (source_at x.source false); target = Some (archetype.Target (target_at x.target x.dynamic)); unsettled = None; incomplete_unsettled = false; initial_delivery_count = Some x.initial_delivery_count; max_message_size = x.max_message_size; offered_capabilities = None; desired_capabilities = None; properties = None }

-- this end attaches
abbrev pub asked : SenderSettings → ℕ → State
asked x handle = begun (link.asked x.verify (own_of x handle)) x.initial_delivery_count

-- it answers the Attach of a receiver
abbrev pub accepted : AcceptSettings → ℕ → Attach → State
accepted x handle attach = begun (accept.accepted x handle attach) x.initial_delivery_count

-- a size of 0 says that there is no limit
abbrev pub limit_of : ℕ → Option ℕ
limit_of size = if nat_eq size 0 then None else Some size

abbrev pub Polls : Result AttachPoll AttachError → State → State → Type 0
Polls result old new = link.Polls result (link.polled old.link) old.link new.link × (new ≡ record old { link = new.link })

abbrev pub TakesFrame : State → Option FrameBody → State → Type 0
TakesFrame old x new = link.TakesFrame old.link x new.link × (new ≡ record old { link = new.link })
