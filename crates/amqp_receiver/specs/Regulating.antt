-- What a receiver does by itself, and what it asks of its sender beside that it gives credit (OASIS AMQP 1.0, part 2, section 2.6.7).
use Rattle.std.specs.Prelude.{Bool, true, false, Option, Some, None, if◌then◌else◌}
use Rattle.amqp_delivery.specs.Book.{restarted}
use Rattle.amqp_delivery.specs.declared.info.CreditMode.{CreditMode}
use Rattle.amqp_link.specs.declared.error.IllegalLinkStateError.{IllegalLinkStateError}
use Rattle.amqp_link.specs.Link as link
use Rattle.amqp_receiver.specs.Receiver.{State, Made, works, refuses, telling_credit}

-- when credit is given from now on
abbrev pub credit_mode_set : CreditMode → State → State
credit_mode_set mode s = record s { book = record s.book { credit_mode = mode } }

-- whether each delivery is accepted as it is given
abbrev pub auto_accept_set : Bool → State → State
auto_accept_set value s = record s { auto_accept = value }

-- the sender is asked once to use up its credit, until it is given more
abbrev pub asking_to_drain : State → State
asking_to_drain s = if s.is_draining then s else telling_credit true (record s { is_draining = true })

-- what was disposed of is counted anew
abbrev pub drain_begun : State → State
drain_begun s = asking_to_drain (record s { book = restarted s.book })

abbrev pub drained_unless : Option IllegalLinkStateError → State → Made
drained_unless (Some e) s = refuses e s
drained_unless None s = works (drain_begun s)

-- credit is to be used up
abbrev pub drain_asked : State → Made
drain_asked s = drained_unless (link.disposal_refusal s.link) s

abbrev pub told_unless : Option IllegalLinkStateError → State → Made
told_unless (Some e) s = refuses e s
told_unless None s = works (telling_credit false s)

-- the sender is told how the link stands; the link has no properties (part 2, section 2.7.4)
abbrev pub properties_told : State → Made
properties_told s = told_unless (link.disposal_refusal s.link) s
