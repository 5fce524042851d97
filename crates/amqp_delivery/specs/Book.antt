-- The settlement book of a receiver (OASIS AMQP 1.0, part 2, sections 2.6.7, 2.6.12 and 2.7.6).
use Rattle.std.specs.Prelude.{◌≡◌, ℕ, ◌+◌, ◌-◌, ◌/◌, ◌%◌, min, Bool, true, false, ◌==◌, ◌&&◌, nat_le, ◌++◌, List, [], ◌∷◌, Option, Some, None, slice_get}
use Rattle.std.specs.Str.{bytes_eq}
use Rattle.std.specs.Map.{lookup, set_value}
use Rattle.indexmap.specs.IndexMap.{insert_entry, swap_remove_entry}
use Rattle.amqp_termini.specs.amqp_composites.declared.modes.ReceiverSettleMode.{ReceiverSettleMode}
use Rattle.amqp_termini.specs.amqp_composites.declared.modes.ReceiverSettleMode.TheVariants.{First, Second}
use Rattle.amqp_termini.specs.declared.state.DeliveryState.{DeliveryState}
use Rattle.amqp_delivery.specs.declared.orders.Order.{Order}
use Rattle.amqp_delivery.specs.declared.orders.Order.TheVariants.{Disposition, Flow}
use Rattle.amqp_delivery.specs.declared.entry.Kept.{Kept}
use Rattle.amqp_delivery.specs.declared.run.Run.{Run}
use Rattle.amqp_delivery.specs.declared.info.CreditMode.{CreditMode}
use Rattle.amqp_delivery.specs.declared.info.CreditMode.TheVariants.{Manual, Auto}
use Rattle.amqp_delivery.specs.declared.info.DeliveryInfo.{DeliveryInfo}
use Rattle.amqp_delivery.specs.declared.info.DisposerView.{DisposerView}
use Rattle.amqp_delivery.specs.declared.ranges.Range.{Range}
use Rattle.amqp_delivery.specs.Ranges.{runs, sorted_by}
use Rattle.amqp_delivery.specs.declared.calls.BookReply.{BookReply}
use Rattle.amqp_delivery.specs.declared.calls.BookReply.TheVariants.{Done, Taken, Stale}

-- the unsettled deliveries by their tags, and the orders not yet handed out
pub record Book : Type 0 where
  pub mode : ReceiverSettleMode
  pub credit_mode : CreditMode
  pub entries : List (List ℕ × Kept)
  pub processed : ℕ
  pub credit : ℕ
  pub delivery_count : ℕ
  pub attachment : ℕ
  pub orders : List Order

-- a book, and room for how many orders
pub record Shelf : Type 0 where
  pub book : Book
  pub room : ℕ

-- room for how many disposals: each makes two orders at most, a Disposition and a Flow
abbrev pub spare : Shelf → ℕ
spare s = s.room / 2

-- what a call leaves and answers
pub record Out : Type 0 where
  pub book : Book
  pub reply : BookReply

abbrev pub empty_book : ReceiverSettleMode → CreditMode → ℕ → Book
empty_book mode credit_mode credit = record { mode = mode; credit_mode = credit_mode; entries = []; processed = 0; credit = credit; delivery_count = 0; attachment = 0; orders = [] }

abbrev pub with_order : Book → Order → Book
with_order b o = record b { orders = b.orders ++ o ∷ [] }

-- the unsettled delivery of that tag, if there is one
abbrev pub found_in : Book → List ℕ → Option Kept
found_in b tag = lookup (bytes_eq tag) b.entries

-- what was said of the delivery at a place, if there is one there and anything was
abbrev pub state_of : Option (List ℕ × Kept) → Option DeliveryState
state_of None = None
state_of (Some p) = p.1.state

abbrev pub state_at : Book → ℕ → Option DeliveryState
state_at b place = state_of (slice_get b.entries place)

-- without the delivery of that tag; the last one takes its place
abbrev pub without : Book → List ℕ → Book
without b tag = record b { entries = swap_remove_entry (bytes_eq tag) b.entries }

abbrev pub with_entry : Book → List ℕ → Kept → Book
with_entry b tag k = record b { entries = set_value (bytes_eq tag) b.entries k }

abbrev pub stated : Kept → DeliveryState → Kept
stated k state = record k { state = Some state }

-- a delivery that has no state yet
abbrev pub entry_for : Book → DeliveryInfo → Kept
entry_for b info = record { state = None; attachment = b.attachment; number = info.delivery_id }

-- a delivery is entered, in the place of the one of its tag if there is one, else as the last
abbrev pub registered : Book → DeliveryInfo → Book
registered b info = record b { entries = insert_entry bytes_eq b.entries info.delivery_tag (entry_for b info) }

-- the mode of the delivery, else of the view (section 2.8.3)
abbrev pub mode_or : Option ReceiverSettleMode → ReceiverSettleMode → ReceiverSettleMode
mode_or None mode = mode
mode_or (Some mode) view = mode

abbrev pub mode_for : DisposerView → DeliveryInfo → ReceiverSettleMode
mode_for view info = mode_or info.rcv_settle_mode view.mode

-- mode First: the delivery goes, and a settled Disposition is ordered; mode Second: its state is kept, and an unsettled one ordered
abbrev pub settled_at : Option Kept → ReceiverSettleMode → Book → DeliveryInfo → DeliveryState → Book
settled_at None mode b info state = b
settled_at (Some k) First b info state = with_order (without b info.delivery_tag) (Disposition info.delivery_id info.delivery_id true state)
settled_at (Some k) Second b info state = with_order (with_entry b info.delivery_tag (stated k state)) (Disposition info.delivery_id info.delivery_id false state)

abbrev pub settled : Book → DisposerView → DeliveryInfo → DeliveryState → Book
settled b view info state = settled_at (found_in b info.delivery_tag) (mode_for view info) b info state

abbrev pub processed_one : Book → Book
processed_one b = record b { processed = min (b.processed + 1) 4294967295 }

abbrev pub refilled : Book → ℕ → Book
refilled b m = with_order (record b { credit = m; processed = 0 }) (Flow b.delivery_count m)

-- is credit due, and is the view's attachment current?
abbrev pub refill_at : Bool → Bool → Book → ℕ → ℕ → Out
refill_at false current b m found = record { book = b; reply = Done found false }
refill_at true true b m found = record { book = refilled b m; reply = Done found true }
refill_at true false b m found = record { book = b; reply = Stale }

-- credit is due where half of it was used (section 2.6.7)
abbrev pub refill : CreditMode → Book → ℕ → ℕ → Out
refill Manual b attachment found = record { book = b; reply = Done found false }
refill (Auto m) b attachment found = refill_at (nat_le (m / 2) b.processed) (b.attachment == attachment) b m found

abbrev pub one_if : Option Kept → ℕ
one_if None = 0
one_if (Some k) = 1

abbrev pub disposed : Book → DisposerView → DeliveryInfo → DeliveryState → Out
disposed b view info state = refill view.credit_mode (processed_one (settled b view info state)) view.attachment (one_if (found_in b info.delivery_tag))

-- ---- the calls of the receiver

abbrev pub auto_to : CreditMode → ℕ → CreditMode
auto_to Manual c = Manual
auto_to (Auto m) c = Auto c

abbrev pub with_credit : Book → ℕ → Book
with_credit b c = record b { credit = c; credit_mode = auto_to b.credit_mode c; processed = 0 }

abbrev pub restarted : Book → Book
restarted b = record b { processed = 0 }

-- a delivery came: delivery-counts are numbers modulo 2^32 (section 2.8.10)
abbrev pub completed : Book → Book
completed b = record b { delivery_count = (b.delivery_count + 1) % 4294967296; credit = b.credit - 1 }

abbrev pub drained_by : Book → ℕ → Book
drained_by b a = record b { delivery_count = (b.delivery_count + a) % 4294967296; credit = b.credit - a }

abbrev pub attached : Book → ℕ → Book
attached b c = record b { attachment = min (b.attachment + 1) 18446744073709551615; delivery_count = c; credit = 0 }

abbrev pub taken : Book → Book
taken b = record b { orders = [] }

abbrev pub recorded_at : Option Kept → Book → List ℕ → DeliveryState → Book
recorded_at None b tag state = b
recorded_at (Some k) b tag state = with_entry b tag (stated k state)

abbrev pub recorded : Book → List ℕ → DeliveryState → Book
recorded b tag state = recorded_at (found_in b tag) b tag state

abbrev pub view_of : Book → ℕ → DisposerView
view_of b handle = record { attachment = b.attachment; mode = b.mode; credit_mode = b.credit_mode; handle = handle }

-- ---- a list of deliveries: one Disposition for each run of unsettled ones with numbers in a row and one mode

pub record Walk : Type 0 where
  pub book : Book
  pub run : Option Run
  pub found : ℕ

abbrev pub is_first : ReceiverSettleMode → Bool
is_first First = true
is_first Second = false

-- orders the Disposition of the run
abbrev pub closed : Option Run → DeliveryState → Book → Book
closed None state b = b
closed (Some r) state b = with_order b (Disposition r.first r.last (is_first r.mode) state)

abbrev pub changed_at : ReceiverSettleMode → Kept → Book → List ℕ → DeliveryState → Book
changed_at First k b tag state = without b tag
changed_at Second k b tag state = with_entry b tag (stated k state)

abbrev pub same_mode : ReceiverSettleMode → ReceiverSettleMode → Bool
same_mode First First = true
same_mode First Second = false
same_mode Second First = false
same_mode Second Second = true

-- does the delivery go on with the run? None follows the greatest number.
abbrev pub goes_on : Run → ReceiverSettleMode → ℕ → Bool
goes_on r mode number = same_mode r.mode mode && (r.last + 1 == number)

abbrev pub new_run : ReceiverSettleMode → ℕ → Run
new_run mode number = record { first = number; last = number; mode = mode }

abbrev pub joined_at : Bool → Run → Book → ReceiverSettleMode → ℕ → DeliveryState → ℕ → Walk
joined_at true r b mode number state found = record { book = b; run = Some (record r { last = number }); found = found }
joined_at false r b mode number state found = record { book = closed (Some r) state b; run = Some (new_run mode number); found = found }

abbrev pub joined : Option Run → Book → ReceiverSettleMode → ℕ → DeliveryState → ℕ → Walk
joined None b mode number state found = record { book = b; run = Some (new_run mode number); found = found }
joined (Some r) b mode number state found = joined_at (goes_on r mode number) r b mode number state found

-- a delivery that is not unsettled is counted, and breaks no run
abbrev pub walked_at : Option Kept → ReceiverSettleMode → Walk → DeliveryInfo → DeliveryState → Walk
walked_at None mode w info state = record w { book = processed_one w.book }
walked_at (Some k) mode w info state = joined w.run (processed_one (changed_at mode k w.book info.delivery_tag state)) mode info.delivery_id state (min (w.found + 1) 4294967295)

abbrev pub walked : DisposerView → DeliveryState → Walk → DeliveryInfo → Walk
walked view state w info = walked_at (found_in w.book info.delivery_tag) (mode_for view info) w info state

abbrev pub walk_all : DisposerView → DeliveryState → Walk → List DeliveryInfo → Walk
walk_all view state w [] = w
walk_all view state w (info ∷ infos) = walk_all view state (walked view state w info) infos

abbrev pub done_with : DisposerView → DeliveryState → Walk → Out
done_with view state w = refill view.credit_mode (closed w.run state w.book) view.attachment w.found

abbrev pub disposed_all : Book → DisposerView → List DeliveryInfo → DeliveryState → Out
disposed_all b view infos state = done_with view state (walk_all view state (record { book = b; run = None; found = 0 }) infos)

abbrev pub open_runs : Option Run → ℕ
open_runs None = 0
open_runs (Some r) = 1

-- ---- ranges

-- the attachment and the number of an unsettled delivery: a number is below 2^32 (section 2.8.9)
abbrev pub pair_of : Kept → ℕ × ℕ
pair_of k = (k.attachment, k.number % 4294967296)

-- the pairs of the unsettled deliveries, in order
abbrev pub pairs_of : List (List ℕ × Kept) → List (ℕ × ℕ)
pairs_of entries = sorted_by pair_of entries

-- their maximal runs of one attachment with numbers in a row
abbrev pub runs_of : Book → List Range
runs_of b = runs (pairs_of b.entries)
