-- Deliveries of the peer by their numbers, until they are settled (OASIS AMQP 1.0, part 2, sections 2.6.12 and 2.7.5).
use Rattle.std.specs.Prelude.{ℕ, Bool, true, false, List, [], ◌∷◌, Option, Some, None, unwrap_or, if◌then◌else◌}
use Rattle.amqp_composites.specs.declared.modes.Role.TheVariants as role
use Rattle.amqp_delivery.specs.declared.info.DeliveryInfo.{DeliveryInfo}
use Rattle.amqp_link_calls.specs.Called.{Called}
use Rattle.amqp_link_calls.specs.Disposers.{settles, settles_at_once, is_receiving}
use Rattle.amqp_link_tables.specs.declared.deliveries.Delivered.{Delivered}
use Rattle.amqp_link_calls.specs.amqp_link_words.declared.link_reply.LinkReply.{LinkReply}
use Rattle.amqp_link_calls.specs.amqp_link_words.declared.link_reply.LinkReply.TheVariants as reply
use Rattle.amqp_performatives.specs.declared.transfer.Transfer.{Transfer}
use Rattle.amqp_session_links.specs.amqp_session.declared.session.LinkInput.{LinkInput}
use Rattle.amqp_session_links.specs.amqp_session.declared.session.LinkInput.TheVariants as input
use Rattle.amqp_session_links.specs.Numbers.{begun}
use Rattle.amqp_links.specs.Settling.{forgetting}
use Rattle.amqp_links.specs.State.{State, link_of, at_place}

-- the number of a delivery that begins, and what it stands for: its first Transfer says number and tag
abbrev pub numbered : ℕ → Option ℕ → Option (List ℕ) → Option (ℕ × Delivered)
numbered link (Some number) (Some tag) = Some (number, record { link = link; tag = tag })
numbered link number tag = None

-- one that is settled needs none
abbrev pub begun_by : ℕ → Transfer → Option (ℕ × Delivered)
begun_by link x = if unwrap_or x.settled false then None else numbered link x.delivery_id x.delivery_tag

abbrev pub receives_at : Option Called → Bool
receives_at None = false
receives_at (Some l) = is_receiving l.side

abbrev pub begun_as : Option (ℕ × Delivered) → ℕ → State → State
begun_as None session s = s
begun_as (Some d) session s = at_place session (begun d.0 d.1) s

-- a Transfer was read for a link
abbrev pub transfer_numbered : ℕ → ℕ → Transfer → State → State
transfer_numbered session link x s = if receives_at (link_of link s) then begun_as (begun_by link x) session s else s

-- a frame was
abbrev pub numbering : ℕ → ℕ → LinkInput → State → State
numbering session link (input.Transfer x payload) s = transfer_numbered session link x s
numbering session link other s = s

-- a delivery that is settled as it is given needs its number no more
abbrev pub left_at : Option Called → DeliveryInfo → State → State
left_at None info s = s
left_at (Some l) info s = forgetting (settles_at_once info l.side) role.Sender l.session info.delivery_id s

abbrev pub given_left : ℕ → Option DeliveryInfo → State → State
given_left link None s = s
given_left link (Some info) s = left_at (link_of link s) info s

-- nor do those that are settled as they are disposed of
abbrev pub disposed_at : Option Called → DeliveryInfo → State → State
disposed_at None info s = s
disposed_at (Some l) info s = forgetting (settles info l.side) role.Sender l.session info.delivery_id s

abbrev pub all_left : ℕ → List DeliveryInfo → State → State
all_left link [] s = s
all_left link (x ∷ xs) s = all_left link xs (disposed_at (link_of link s) x s)

-- a disposal was made
abbrev pub is_done : LinkReply → Bool
is_done reply.Done = true
is_done other = false

abbrev pub disposed_left : Bool → ℕ → List DeliveryInfo → State → State
disposed_left true link infos s = all_left link infos s
disposed_left false link infos s = s
