-- How many orders the book of a receiver makes.
use Rattle.std.specs.Prelude.{◌≡◌, ℕ, ◌+◌, ◌≤◌, min, nat_le, ◌==◌, ◌/◌, Bool, true, false, List, [], ◌∷◌, ◌++◌, length, Option, Some, None, refl}
use Rattle.std.proofs.Common.{ap, arith}
use Rattle.std.proofs.lemmas.List.{length-append}
use Rattle.amqp_composites.specs.declared.modes.ReceiverSettleMode.{ReceiverSettleMode}
use Rattle.amqp_composites.specs.declared.modes.ReceiverSettleMode.TheVariants.{First, Second}
use Rattle.amqp_termini.specs.declared.state.DeliveryState.{DeliveryState}
use Rattle.amqp_delivery.specs.Book.{Book, Walk, closed, changed_at, processed_one, goes_on, joined_at, joined, walked_at, walked, walk_all, refill_at, refill, disposed_all, found_in, mode_for, open_runs}
use Rattle.amqp_delivery.specs.declared.entry.Kept.{Kept}
use Rattle.amqp_delivery.specs.declared.info.CreditMode.{CreditMode}
use Rattle.amqp_delivery.specs.declared.info.CreditMode.TheVariants.{Manual, Auto}
use Rattle.amqp_delivery.specs.declared.info.DeliveryInfo.{DeliveryInfo}
use Rattle.amqp_delivery.specs.declared.info.DisposerView.{DisposerView}
use Rattle.amqp_delivery.specs.declared.orders.Order.{Order}
use Rattle.amqp_delivery.specs.declared.orders.Order.TheVariants.{Flow}
use Rattle.amqp_delivery.specs.declared.run.Run.{Run}

-- the orders of a walk, and that of the run that it is in
abbrev pub weight : Walk → ℕ
weight w = length w.book.orders + open_runs w.run

one_more : (xs : List Order) (x : Order) → length (xs ++ x ∷ []) ≡ length xs + 1
one_more xs x = length-append xs (x ∷ [])

closed_orders : (o : Option Run) (state : DeliveryState) (k : Book) → length (closed o state k).orders ≡ length k.orders + open_runs o
closed_orders None state k = omega arith
closed_orders (Some r) state k = one_more k.orders _

joined_orders : (c : Bool) (r : Run) (k : Book) (mode : ReceiverSettleMode) (number : ℕ) (state : DeliveryState) (found : ℕ) → weight (joined_at c r k mode number state found) ≤ length k.orders + 1 + 1
joined_orders true r k mode number state found = omega arith
joined_orders false r k mode number state found = let e = closed_orders (Some r) state k in omega arith

join_orders : (o : Option Run) (k : Book) (mode : ReceiverSettleMode) (number : ℕ) (state : DeliveryState) (found : ℕ) → weight (joined o k mode number state found) ≤ length k.orders + open_runs o + 1
join_orders None k mode number state found = omega arith
join_orders (Some r) k mode number state found = joined_orders (goes_on r mode number) r k mode number state found

changed_orders : (mode : ReceiverSettleMode) (x : Kept) (k : Book) (tag : List ℕ) (state : DeliveryState) → (processed_one (changed_at mode x k tag state)).orders ≡ k.orders
changed_orders First x k tag state = refl
changed_orders Second x k tag state = refl

walked_orders : (o : Option Kept) (mode : ReceiverSettleMode) (w : Walk) (info : DeliveryInfo) (state : DeliveryState) → weight (walked_at o mode w info state) ≤ weight w + 1
walked_orders None mode w info state = omega arith
walked_orders (Some x) mode w info state =
    let k = processed_one (changed_at mode x w.book info.delivery_tag state) in
    let e : length k.orders ≡ length w.book.orders = ap length (changed_orders mode x w.book info.delivery_tag state) in
    let j = join_orders w.run k mode info.delivery_id state (min (w.found + 1) 4294967295) in
    omega arith

walk_orders : (view : DisposerView) (state : DeliveryState) (infos : List DeliveryInfo) (w : Walk) → weight (walk_all view state w infos) ≤ weight w + length infos
walk_orders view state [] w = omega arith
walk_orders view state (info ∷ infos) w =
    let a = walked_orders (found_in w.book info.delivery_tag) (mode_for view info) w info state in
    let c = walk_orders view state infos (walked view state w info) in
    omega arith

refill_orders : (due current : Bool) (k : Book) (m found : ℕ) → length (refill_at due current k m found).book.orders ≤ length k.orders + 1
refill_orders false current k m found = omega arith
refill_orders true true k m found = let e = one_more k.orders (Flow k.delivery_count m) in omega arith
refill_orders true false k m found = omega arith

refilled_orders : (mode : CreditMode) (k : Book) (attachment found : ℕ) → length (refill mode k attachment found).book.orders ≤ length k.orders + 1
refilled_orders Manual k attachment found = omega arith
refilled_orders (Auto m) k attachment found = refill_orders (nat_le (m / 2) k.processed) (k.attachment == attachment) k m found

-- one for each delivery at most, and one for credit
pub disposed_orders : (k : Book) (view : DisposerView) (infos : List DeliveryInfo) (state : DeliveryState) → length (disposed_all k view infos state).book.orders ≤ length k.orders + length infos + 1
disposed_orders k view infos state =
    let w : Walk = record { book = k; run = None; found = 0 } in
    let v = walk_all view state w infos in
    let a = walk_orders view state infos w in
    let c = closed_orders v.run state v.book in
    let d = refilled_orders view.credit_mode (closed v.run state v.book) view.attachment v.found in
    omega arith
