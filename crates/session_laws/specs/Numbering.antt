-- How the links of a session find the deliveries of which a Disposition speaks (OASIS AMQP 1.0, part 2, sections 2.6.12 and 2.7.6).
use Rattle.std.specs.Prelude.{ℕ, ◌<◌, nat_eq, Bool, true, false, List, [], ◌∷◌, ◌++◌, flat_map, Option, Some, None, if◌then◌else◌}
use Rattle.amqp_composites.specs.declared.modes.Role.{Role}
use Rattle.amqp_composites.specs.declared.modes.Role.TheVariants as role
use Rattle.amqp_termini.specs.declared.state.DeliveryState.{DeliveryState}
use Rattle.amqp_performatives.specs.declared.disposition.Disposition.{Disposition}
use Rattle.amqp_frames.specs.declared.shared.CoveredDelivery.{CoveredDelivery}
use Rattle.amqp_link_tables.specs.declared.deliveries.Delivered.{Delivered}
use Rattle.amqp_link_tables.specs.Deliveries.{entered, delivery_of, forgotten, covered}
use Rattle.amqp_session.specs.declared.session.LeftDelivery.{LeftDelivery}
use Rattle.amqp_session.specs.declared.session.LinkInput.{LinkInput}
use Rattle.amqp_session.specs.declared.session.LinkInput.TheVariants as input
use Rattle.session_laws.specs.Giving.{last_of}
use Rattle.session_laws.specs.Sending as sending
use Rattle.session_laws.specs.Sending.{hears_disposition}

-- A delivery has begun to leave; a Disposition was read; a number is needed no more.
pub data Step : Type 0 where
  leaves : LeftDelivery → Step
  covers : Disposition → Step
  forgets : ℕ → Step

-- a delivery that was not settled as it left is known by its number; a link is known by its handle
abbrev pub numbered : LeftDelivery → List (ℕ × Delivered) → List (ℕ × Delivered)
numbered x ds = if x.settled then ds else entered x.delivery_id (record { link = x.handle; tag = x.delivery_tag }) ds

-- the table of numbers behind a step
abbrev pub stepped : Step → List (ℕ × Delivered) → List (ℕ × Delivered)
stepped (leaves x) ds = numbered x ds
stepped (covers x) ds = ds
stepped (forgets n) ds = forgotten n ds

-- what a sender hears of a delivery: whether it is settled, and its state
pub record News : Type 0 where
  pub delivery : CoveredDelivery
  pub settled : Bool
  pub state : Option DeliveryState

abbrev pub news_if : Bool → ℕ → Delivered → Disposition → List News
news_if true n x d = record { delivery = record { delivery_id = n; delivery_tag = x.tag }; settled = d.settled; state = d.state } ∷ []
news_if false n x d = []

-- where the delivery of that number is one of the link with that handle
abbrev pub news_at : ℕ → Option Delivered → ℕ → Disposition → List News
news_at handle None n d = []
news_at handle (Some x) n d = news_if (nat_eq x.link handle) n x d

abbrev pub news_of : ℕ → List (ℕ × Delivered) → Disposition → List News
news_of handle ds d = flat_map (λ (n : ℕ). news_at handle (delivery_of n ds) n d) (covered d.first (last_of d) ds)

-- a sender hears of receivers alone
abbrev pub news_by : Role → ℕ → List (ℕ × Delivered) → Disposition → List News
news_by role.Receiver handle ds d = news_of handle ds d
news_by role.Sender handle ds d = []

abbrev pub told_by : ℕ → List (ℕ × Delivered) → Step → List News
told_by handle ds (covers d) = news_by d.role handle ds d
told_by handle ds other = []

-- what the sender with that handle is told, in order
abbrev pub told : ℕ → List (ℕ × Delivered) → List Step → List News
told handle ds [] = []
told handle ds (x ∷ xs) = told_by handle ds x ++ told handle (stepped x ds) xs

-- what a step takes of the session
abbrev pub input_of : Step → List LinkInput
input_of (leaves x) = input.Left x ∷ []
input_of (covers x) = input.Disposition x ∷ []
input_of (forgets n) = []

abbrev pub inputs_of : List Step → List LinkInput
inputs_of xs = flat_map input_of xs

-- numbers have 32 bits, as in each frame
abbrev pub IsShort : Step → Type 0
IsShort (leaves x) = x.delivery_id < 4294967296
IsShort (covers x) = (x.first < 4294967296) × (last_of x < 4294967296)
IsShort (forgets n) = Unit {0}

abbrev pub AreShort : List Step → Type 0
AreShort [] = Unit {0}
AreShort (x ∷ xs) = IsShort x × AreShort xs

-- what a sender has heard of deliveries, in order
abbrev pub news_in : sending.Move → List News
news_in (hears_disposition delivery settled state) = record { delivery = delivery; settled = settled; state = state } ∷ []
news_in other = []

abbrev pub news : List sending.Move → List News
news ms = flat_map news_in ms
