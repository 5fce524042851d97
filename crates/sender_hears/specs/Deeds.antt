-- What is for one sender, of what the sessions hand to the links of an end (OASIS AMQP 1.0, part 2, sections 2.6.7
-- and 2.6.12).
use Rattle.std.specs.Prelude.{ℕ, nat_eq, List, [], ◌∷◌, ◌++◌, Option, Some, None, if◌then◌else◌}
use Rattle.amqp_frames.specs.declared.shared.CoveredDelivery.{CoveredDelivery}
use Rattle.amqp_link_calls.specs.Called.{Called}
use Rattle.amqp_link_tables.specs.declared.deliveries.Delivered.{Delivered}
use Rattle.amqp_performatives.specs.declared.disposition.Disposition.{Disposition}
use Rattle.amqp_performatives.specs.declared.flow.Flow.{Flow}
use Rattle.amqp_session.specs.declared.session.LinkInput.TheVariants as input
use Rattle.amqp_links.specs.Hearing.{link_from_at}
use Rattle.amqp_links.specs.Parts.{is_heard}
use Rattle.amqp_links.specs.Settling.{delivery_at, covered_by, settled, covered_at}
use Rattle.amqp_links.specs.State.{State, place_of, link_of, entered}
use Rattle.link_lives.specs.Deeds.{Deed, Hears, Did}
use Rattle.sender_hears.specs.Words.{Word, Credit, Outcome}

-- only the link of that name hears that
abbrev pub by_one : ℕ → List Word → ℕ → List Word
by_one link heard n = if nat_eq link n then heard else []

-- ---- Flows

-- a Flow on a handle of the peer is for the link of that handle
abbrev pub flow_from : Option ℕ → Flow → ℕ → List Word
flow_from None x n = []
flow_from (Some link) x n = by_one link (Credit x ∷ []) n

-- one without a handle is for no link (section 2.7.4)
abbrev pub flow_for : Option ℕ → ℕ → Flow → State → ℕ → List Word
flow_for None session x s n = []
flow_for (Some remote) session x s n = flow_from (link_from_at remote (place_of session s)) x n

-- ---- Dispositions

-- a link hears of a delivery until both ends have sent their Detach
abbrev pub ruled_at : Option Called → CoveredDelivery → Disposition → List Word
ruled_at None x d = []
ruled_at (Some l) x d =
    if is_heard l then Outcome (record { delivery = x; settled = d.settled; state = d.state }) ∷ [] else []

-- the delivery of that number is one of that link
abbrev pub ruled_by : Option Delivered → ℕ → Disposition → State → ℕ → List Word
ruled_by None number d s n = []
ruled_by (Some x) number d s n = by_one x.link (ruled_at (link_of x.link s) (covered_by number x).1 d) n

-- of each of these numbers, one behind the other
abbrev pub all_ruled : List ℕ → ℕ → Disposition → State → ℕ → List Word
all_ruled [] session d s n = []
all_ruled (k ∷ ks) session d s n =
    ruled_by (delivery_at d.role k (place_of session s)) k d s n ++ all_ruled ks session d (settled session k d s) n

-- of the numbers that it covers
abbrev pub rulings_for : ℕ → Disposition → State → ℕ → List Word
rulings_for session d s n = all_ruled (covered_at d (place_of session s)) session d s n

-- ---- deeds

-- what the link of that name is to hear
abbrev pub words_for : Deed → State → ℕ → List Word
words_for (Hears session (input.Flow x)) s n = flow_for x.handle session x s n
words_for (Hears session (input.Disposition d)) s n = rulings_for session d (entered session s) n
words_for d s n = []

-- what it is to hear in all of them, in order
abbrev pub words_in : (old : State) (ds : List Deed) (new : State) → Did old ds new → ℕ → List Word
words_in old [] new h n = []
words_in old (d ∷ ds) new h n = words_for d old n ++ words_in h.0 ds new h.1.1 n
