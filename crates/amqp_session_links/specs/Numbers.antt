-- The deliveries of a session by their numbers, in both directions (OASIS AMQP 1.0, part 2, sections 2.6.12, 2.7.6 and 2.8.9).
use Rattle.std.specs.Prelude.{ℕ, List, Option, Some, None, if◌then◌else◌}
use Rattle.amqp_composites.specs.declared.modes.Role.{Role}
use Rattle.amqp_composites.specs.declared.modes.Role.TheVariants as role
use Rattle.amqp_link_tables.specs.Calls.{link_at}
use Rattle.amqp_link_tables.specs.Deliveries as deliveries
use Rattle.amqp_link_tables.specs.declared.deliveries.Delivered.{Delivered}
use Rattle.amqp_session.specs.declared.session.LeftDelivery.{LeftDelivery}
use Rattle.amqp_session_links.specs.State.{State}

-- the deliveries of which a peer in that role speaks: as a receiver of those that this end has sent, as a sender of its own
abbrev pub told_by : Role → State → List (ℕ × Delivered)
told_by role.Receiver s = s.outgoing
told_by role.Sender s = s.incoming

-- a delivery that was not settled as it left is known by its number
abbrev pub entered_at : Option ℕ → LeftDelivery → State → State
entered_at None x s = s
entered_at (Some link) x s =
    if x.settled then s else record s { outgoing = deliveries.entered x.delivery_id (record { link = link; tag = x.delivery_tag }) s.outgoing }

abbrev pub entered : LeftDelivery → State → State
entered x s = entered_at (link_at x.handle s.table) x s

-- so is a delivery that has begun to come
abbrev pub begun : ℕ → Delivered → State → State
begun number x s = record s { incoming = deliveries.entered number x s.incoming }

-- no delivery of which a peer in that role speaks has that number
abbrev pub forgotten : Role → ℕ → State → State
forgotten role.Receiver number s = record s { outgoing = deliveries.forgotten number s.outgoing }
forgotten role.Sender number s = record s { incoming = deliveries.forgotten number s.incoming }
