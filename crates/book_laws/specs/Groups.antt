-- What a disposal of several deliveries orders (OASIS AMQP 1.0, part 2, sections 2.6.7, 2.6.12 and 2.7.6).
use Rattle.std.specs.Prelude.{◌≡◌, ℕ, zero, suc, ◌+◌, ◌-◌, ◌/◌, ◌≤◌, ◌==◌, ◌&&◌, nat_le, min, Bool, false, cond, List, [], ◌∷◌, ◌++◌, map, Option, None, Some}
use Rattle.std.specs.Str.{bytes_eq}
use Rattle.std.specs.Map.{lookup, set_value}
use Rattle.indexmap.specs.IndexMap.{swap_remove_entry}
use Rattle.amqp_composites.specs.declared.modes.ReceiverSettleMode.{ReceiverSettleMode}
use Rattle.amqp_composites.specs.declared.modes.ReceiverSettleMode.TheVariants.{First, Second}
use Rattle.amqp_termini.specs.declared.state.DeliveryState.{DeliveryState}
use Rattle.amqp_delivery.specs.declared.entry.Kept.{Kept}
use Rattle.amqp_delivery.specs.declared.run.Run.{Run}
use Rattle.amqp_delivery.specs.declared.orders.Order.{Order}
use Rattle.amqp_delivery.specs.declared.orders.Order.TheVariants.{Disposition, Flow}
use Rattle.amqp_delivery.specs.declared.info.CreditMode.{CreditMode}
use Rattle.amqp_delivery.specs.declared.info.CreditMode.TheVariants.{Manual, Auto}
use Rattle.amqp_delivery.specs.declared.info.DeliveryInfo.{DeliveryInfo}
use Rattle.amqp_delivery.specs.declared.info.DisposerView.{DisposerView}
use Rattle.amqp_delivery.specs.Book.{Book, is_first, goes_on, mode_for, stated}

-- the unsettled deliveries by their tags
abbrev pub Unsettled : Type 0
Unsettled = List (List ℕ × Kept)

-- what a disposal leaves of them: in mode First the delivery goes, in mode Second it keeps the state
abbrev pub left_at : Option Kept → ReceiverSettleMode → Unsettled → List ℕ → DeliveryState → Unsettled
left_at None mode es tag state = es
left_at (Some k) First es tag state = swap_remove_entry (bytes_eq tag) es
left_at (Some k) Second es tag state = set_value (bytes_eq tag) es (stated k state)

-- the settle mode and the number of a delivery that was unsettled
abbrev pub told_at : Option Kept → ReceiverSettleMode → ℕ → List (ReceiverSettleMode × ℕ)
told_at None mode number = []
told_at (Some k) mode number = (mode, number) ∷ []

-- the settle modes and the numbers of those deliveries that are unsettled when their turn comes, in order
abbrev pub unsettled_of : DisposerView → DeliveryState → Unsettled → List DeliveryInfo → List (ReceiverSettleMode × ℕ)
unsettled_of view state es [] = []
unsettled_of view state es (info ∷ infos) =
    told_at (lookup (bytes_eq info.delivery_tag) es) (mode_for view info) info.delivery_id
    ++ unsettled_of view state
    (left_at (lookup (bytes_eq info.delivery_tag) es) (mode_for view info) es info.delivery_tag state) infos

-- so many deliveries of one mode, from this number on
abbrev pub spread : ReceiverSettleMode → ℕ → ℕ → List (ReceiverSettleMode × ℕ)
spread mode number zero = []
spread mode number (suc count) = (mode, number) ∷ spread mode (number + 1) count

-- the deliveries that a run speaks of, and those that several do
abbrev pub told_by : Run → List (ReceiverSettleMode × ℕ)
told_by r = spread r.mode r.first ((r.last + 1) - r.first)

abbrev pub told_by_all : List Run → List (ReceiverSettleMode × ℕ)
told_by_all [] = []
told_by_all (r ∷ rs) = told_by r ++ told_by_all rs

-- each speaks of one delivery at least
abbrev pub AllRise : List Run → Type 0
AllRise [] = Unit {0}
AllRise (r ∷ rs) = (r.first ≤ r.last) × AllRise rs

-- the first of these runs does not go on with that one
abbrev pub Breaks : Run → List Run → Type 0
Breaks r [] = Unit {0}
Breaks r (s ∷ ss) = goes_on r s.mode s.first ≡ false

-- no run goes on with the one before it
abbrev pub AllBreak : List Run → Type 0
AllBreak [] = Unit {0}
AllBreak (r ∷ rs) = Breaks r rs × AllBreak rs

-- the Disposition of a run
abbrev pub order_of : DeliveryState → Run → Order
order_of state r = Disposition r.first r.last (is_first r.mode) state

-- how many deliveries were disposed of since credit was last given, after so many more
abbrev pub counted : ℕ → List DeliveryInfo → ℕ
counted processed [] = processed
counted processed (info ∷ infos) = counted (min (processed + 1) 4294967295) infos

-- a Flow where credit is due and the view's attachment is current
abbrev pub flow_of : CreditMode → Bool → ℕ → ℕ → List Order
flow_of Manual current processed delivery_count = []
flow_of (Auto m) current processed delivery_count =
    cond (nat_le (m / 2) processed && current) (Flow delivery_count m ∷ []) []

-- what a disposal of these deliveries orders: a Disposition for each run of those that were unsettled, in order,
-- each once, as few as can be; and then a Flow where credit is due
pub record IsGroup (b : Book) (view : DisposerView) (infos : List DeliveryInfo) (state : DeliveryState) (group : List Order)
    : Type 0 where
  pub runs : List Run
  pub orders : group ≡ map (order_of state) runs
      ++ flow_of view.credit_mode (b.attachment == view.attachment) (counted b.processed infos) b.delivery_count
  pub each : told_by_all runs ≡ unsettled_of view state b.entries infos
  pub rise : AllRise runs
  pub few : AllBreak runs
