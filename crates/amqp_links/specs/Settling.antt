-- Deliveries by their numbers in the session, and what becomes of them (OASIS AMQP 1.0, part 2, sections 2.6.12 and 2.7.6).
use Rattle.std.specs.Prelude.{ℕ, Bool, true, false, List, [], ◌∷◌, Option, Some, None, unwrap_or}
use Rattle.amqp_composites.specs.declared.modes.Role.{Role}
use Rattle.amqp_frames.specs.declared.shared.CoveredDelivery.{CoveredDelivery}
use Rattle.amqp_link_calls.specs.Called.{Called}
use Rattle.amqp_link_tables.specs.declared.deliveries.Delivered.{Delivered}
use Rattle.amqp_link_tables.specs.Deliveries.{delivery_of, covered}
use Rattle.amqp_performatives.specs.declared.disposition.Disposition.{Disposition}
use Rattle.amqp_session_links.specs.amqp_session.declared.session.LeftDelivery.{LeftDelivery}
use Rattle.amqp_session_links.specs.Numbers.{told_by, entered, forgotten}
use Rattle.amqp_session_links.specs.State.{State as Place}
use Rattle.amqp_links.specs.Parts.{disposition_heard, is_forgotten}
use Rattle.amqp_links.specs.State.{State, place_of, link_of, with_link, at_place}
use Rattle.amqp_links.specs.Taking.{taken_up}

-- a delivery of this end has begun to leave
abbrev pub left : ℕ → LeftDelivery → State → State
left session x s = at_place session (entered x) s

-- a delivery that is settled needs its number no more
abbrev pub forgetting : Bool → Role → ℕ → ℕ → State → State
forgetting true teller session number s = at_place session (forgotten teller number) s
forgetting false teller session number s = s

abbrev pub link_settled : Option Called → ℕ → CoveredDelivery → Disposition → State → State
link_settled None link x d s = s
link_settled (Some l) link x d s = with_link link (disposition_heard x d.settled d.state l) s

abbrev pub forgets : Option Called → CoveredDelivery → Disposition → Bool
forgets None x d = true
forgets (Some l) x d = is_forgotten x d.settled d.state l

-- the link of a delivery hears the Disposition
abbrev pub settled_at : ℕ → ℕ → CoveredDelivery → Disposition → State → State
settled_at session link x d s =
    taken_up link (forgetting (forgets (link_of link s) x d) d.role session x.delivery_id (link_settled (link_of link s) link x d s))

-- the delivery of that number of which a peer in that role speaks
abbrev pub delivery_at : Role → ℕ → Option Place → Option Delivered
delivery_at teller number None = None
delivery_at teller number (Some p) = delivery_of number (told_by teller p)

-- the name of its link, and the delivery there
abbrev pub covered_by : ℕ → Delivered → ℕ × CoveredDelivery
covered_by number x = (x.link, record { delivery_id = number; delivery_tag = x.tag })

abbrev pub settled_by : Option Delivered → ℕ → ℕ → Disposition → State → State
settled_by None session number d s = s
settled_by (Some x) session number d s = settled_at session (covered_by number x).0 (covered_by number x).1 d s

abbrev pub settled : ℕ → ℕ → Disposition → State → State
settled session number d s = settled_by (delivery_at d.role number (place_of session s)) session number d s

abbrev pub all_settled : List ℕ → ℕ → Disposition → State → State
all_settled [] session d s = s
all_settled (n ∷ ns) session d s = all_settled ns session d (settled session n d s)

-- the numbers of deliveries that a Disposition covers
abbrev pub covered_at : Disposition → Option Place → List ℕ
covered_at d None = []
covered_at d (Some p) = covered d.first (unwrap_or d.last d.first) (told_by d.role p)

-- a Disposition was read: one of the receivers of the peer speaks of deliveries of this end, one of its senders of its own
abbrev pub disposition_read : ℕ → Disposition → State → State
disposition_read session d s = all_settled (covered_at d (place_of session s)) session d s
