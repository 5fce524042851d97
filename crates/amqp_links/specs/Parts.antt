-- One link and what it writes, as the links of an end see them (OASIS AMQP 1.0, part 2, section 2.6).
use Rattle.std.specs.Prelude.{◌≡◌, ℕ, Bool, true, List, [], ◌∷◌, Option, Some, None, if◌then◌else◌}
use Rattle.amqp_frames.specs.declared.body.FrameBody.{FrameBody}
use Rattle.amqp_frames.specs.declared.shared.CoveredDelivery.{CoveredDelivery}
use Rattle.amqp_link.specs.Link as link
use Rattle.amqp_link_calls.specs.Called.{Called, with_side}
use Rattle.amqp_link_calls.specs.Hearing as hearing
use Rattle.amqp_link_calls.specs.Side as side
use Rattle.amqp_session_links.specs.amqp_session.declared.session.LinkInput.{LinkInput}
use Rattle.amqp_session_links.specs.amqp_session.declared.session.LinkInput.TheVariants as input
use Rattle.amqp_termini.specs.declared.state.DeliveryState.{DeliveryState}
use Rattle.amqp_links.specs.declared.output.LinksOutput.{LinksOutput}
use Rattle.amqp_links.specs.declared.output.LinksOutput.TheVariants as output

-- ---- what is to be done on a session

-- a frame is to be written on the session of that name; or the peer has attached a link there that no call awaits
pub data Told : Type 0 where
  Frame : ℕ → FrameBody → Told
  Astray : ℕ → Told

abbrev pub told : LinksOutput → Told
told (output.Frame session x) = Frame session (link.body_of x)
told (output.Astray session) = Astray session

-- the first of a queue is taken off
abbrev pub Pops : List Told → Option Told → List Told → Type 0
Pops old None new = (old ≡ []) × (new ≡ [])
Pops old (Some x) new = old ≡ x ∷ new

-- ---- one link

abbrev pub output_of : Called → List FrameBody
output_of l = (side.link_of l.side).output

-- all that the link has to write was written
abbrev pub emptied : Called → Called
emptied l = with_side (side.with_link (record (side.link_of l.side) { output = [] }) l.side) l

abbrev pub handle_of : Called → ℕ
handle_of l = (side.link_of l.side).own.handle

abbrev pub name_of : Called → List ℕ
name_of l = (side.link_of l.side).own.name

abbrev pub is_over : Called → Bool
is_over l = link.is_over (side.link_of l.side).phase

abbrev pub is_heard : Called → Bool
is_heard l = link.is_heard (side.link_of l.side).phase

-- the link hears a frame
abbrev pub heard : LinkInput → Called → Called
heard (input.Flow x) l = hearing.flow_read x l
heard (input.Transfer x payload) l = hearing.transfer_read x payload l
heard (input.Detach x) l = hearing.detach_read x l
heard x l = l

-- it hears what has become of a delivery, until both ends have sent their Detach
abbrev pub disposition_heard : CoveredDelivery → Bool → Option DeliveryState → Called → Called
disposition_heard x settled state l = if is_heard l then hearing.disposition_read x settled state l else l

-- whether the number of the delivery may be forgotten
abbrev pub is_forgotten : CoveredDelivery → Bool → Option DeliveryState → Called → Bool
is_forgotten x settled state l = if is_heard l then hearing.is_settled_by l.side x settled state else true
