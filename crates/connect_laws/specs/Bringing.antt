-- Where what a session hands to its links comes from (OASIS AMQP 1.0, part 2, sections 2.5.6 and 2.6.12).
use Rattle.std.specs.Prelude.{◌≡◌, List, [], Some}
use Rattle.amqp_frames.specs.declared.body.FrameBody.{FrameBody}
use Rattle.amqp_frames.specs.declared.body.FrameBody.TheVariants as b
use Rattle.amqp_parts.specs.declared.part.Part.{Part}
use Rattle.amqp_session.specs.declared.session.LeftDelivery.{LeftDelivery}
use Rattle.amqp_session.specs.declared.session.LinkInput.{LinkInput}
use Rattle.amqp_session.specs.declared.session.LinkInput.TheVariants as input
use Rattle.amqp_session.specs.State.{State}
use Rattle.session_laws.specs.Handing.{handed_over, heard}
use Rattle.session_laws.specs.Holding.{Move, transfers, written}
use Rattle.session_laws.specs.Settling.{IsAmong}
use Rattle.session_laws.specs.Speaking.{bodies}

-- the Transfer that begins the delivery, with its handle, its number and its tag, is among these
pub record HasBegun (parts : List Part) (x : LeftDelivery) : Type 0 where
  pub part : Part
  pub among : IsAmong part parts
  pub handle : part.transfer.handle ≡ x.handle
  pub number : part.transfer.delivery_id ≡ Some x.delivery_id
  pub tag : part.transfer.delivery_tag ≡ Some x.delivery_tag

-- that a delivery leaves is told where its Transfer was written, and a Disposition where it was heard
abbrev pub IsBrought : List Part → List FrameBody → LinkInput → Type 0
IsBrought parts frames (input.Left x) = HasBegun parts x
IsBrought parts frames (input.Disposition x) = IsAmong (b.Disposition x) frames
IsBrought parts frames other = Unit {0}

-- whatever a session goes through from a moment at which nothing is handed over
abbrev pub SessionsBring : Type 0
SessionsBring = (s : State) (ms : List Move) → s.incoming ≡ [] → (x : LinkInput) → IsAmong x (handed_over s ms) → IsBrought (transfers (written s ms)) (bodies (heard ms)) x
