-- What a walk over a list of deliveries orders.
use Rattle.std.specs.Prelude.{◌≡◌, ℕ, ◌+◌, ◌/◌, ◌==◌, ◌&&◌, nat_le, min, cond, Bool, true, false, List, [], ◌∷◌, ◌++◌, map, Option, None, Some, refl}
use Rattle.std.proofs.Common.{sym, ◌∙◌, ap, append_assoc, append-nil}
use Rattle.amqp_composites.specs.declared.modes.ReceiverSettleMode.{ReceiverSettleMode}
use Rattle.amqp_composites.specs.declared.modes.ReceiverSettleMode.TheVariants.{First, Second}
use Rattle.amqp_termini.specs.declared.state.DeliveryState.{DeliveryState}
use Rattle.amqp_delivery.specs.declared.entry.Kept.{Kept}
use Rattle.amqp_delivery.specs.declared.run.Run.{Run}
use Rattle.amqp_delivery.specs.declared.orders.Order.{Order}
use Rattle.amqp_delivery.specs.declared.orders.Order.TheVariants.{Flow}
use Rattle.amqp_delivery.specs.declared.info.CreditMode.{CreditMode}
use Rattle.amqp_delivery.specs.declared.info.CreditMode.TheVariants.{Manual, Auto}
use Rattle.amqp_delivery.specs.declared.info.DeliveryInfo.{DeliveryInfo}
use Rattle.amqp_delivery.specs.declared.info.DisposerView.{DisposerView}
use Rattle.amqp_delivery.specs.Book.{Book, Walk, found_in, mode_for, settled_at, settled, processed_one, refill_at, refill, closed, changed_at, goes_on, new_run, joined_at, joined, walked_at, walk_all, disposed, disposed_all, one_if}
use Rattle.book_laws.specs.Groups.{left_at, told_at, unsettled_of, order_of, counted, flow_of, IsGroup}
use Rattle.book_laws.proofs.Runs.{longer, runs_at, runs_from, told_all, rise_all, few_all}

-- ---- refills

refill_at_orders : (due current : Bool) (b : Book) (m found : ℕ) → (refill_at due current b m found).book.orders ≡ b.orders ++ cond (due && current) (Flow b.delivery_count m ∷ []) []
refill_at_orders false current b m found = sym (append-nil b.orders)
refill_at_orders true true b m found = refl
refill_at_orders true false b m found = sym (append-nil b.orders)

refill_orders : (mode : CreditMode) (b : Book) (attachment found : ℕ) → (refill mode b attachment found).book.orders ≡ b.orders ++ flow_of mode (b.attachment == attachment) b.processed b.delivery_count
refill_orders Manual b attachment found = sym (append-nil b.orders)
refill_orders (Auto m) b attachment found = refill_at_orders (nat_le (m / 2) b.processed) (b.attachment == attachment) b m found

-- from the one book to the other these orders were added, and so many deliveries were disposed of; no credit was given
record Goes (b c : Book) (added : List Order) (many : ℕ) : Type 0 where
  orders : c.orders ≡ b.orders ++ added
  attachment : c.attachment ≡ b.attachment
  count : c.delivery_count ≡ b.delivery_count
  processed : c.processed ≡ many

refilled_orders : (mode : CreditMode) (b c : Book) (added : List Order) (processed attachment found : ℕ) → Goes b c added processed
    → (refill mode c attachment found).book.orders ≡ b.orders ++ (added ++ flow_of mode (b.attachment == attachment) processed b.delivery_count)
refilled_orders mode b c added processed attachment found g =
    refill_orders mode c attachment found
    ∙ (ap (λ (os : List Order). os ++ flow_of mode (c.attachment == attachment) c.processed c.delivery_count) g.orders
    ∙ (ap (λ (x : ℕ). (b.orders ++ added) ++ flow_of mode (x == attachment) c.processed c.delivery_count) g.attachment
    ∙ (ap (λ (x : ℕ). (b.orders ++ added) ++ flow_of mode (b.attachment == attachment) x c.delivery_count) g.processed
    ∙ (ap (λ (x : ℕ). (b.orders ++ added) ++ flow_of mode (b.attachment == attachment) processed x) g.count
    ∙ append_assoc b.orders added (flow_of mode (b.attachment == attachment) processed b.delivery_count)))))

-- ---- one delivery

settled_goes : (f : Option Kept) (mode : ReceiverSettleMode) (b : Book) (info : DeliveryInfo) (state : DeliveryState)
    → Goes b (processed_one (settled_at f mode b info state)) (map (order_of state) (runs_from None (told_at f mode info.delivery_id ++ []))) (min (b.processed + 1) 4294967295)
settled_goes None mode b info state = record { orders = sym (append-nil b.orders); attachment = refl; count = refl; processed = refl }
settled_goes (Some k) First b info state = record { orders = refl; attachment = refl; count = refl; processed = refl }
settled_goes (Some k) Second b info state = record { orders = refl; attachment = refl; count = refl; processed = refl }

-- a group of these runs
grouped : (b : Book) (view : DisposerView) (infos : List DeliveryInfo) (state : DeliveryState)
    → IsGroup b view infos state (map (order_of state) (runs_from None (unsettled_of view state b.entries infos)) ++ flow_of view.credit_mode (b.attachment == view.attachment) (counted b.processed infos) b.delivery_count)
grouped b view infos state = record {
  runs = runs_from None (unsettled_of view state b.entries infos);
  orders = refl;
  each = told_all (unsettled_of view state b.entries infos);
  rise = rise_all (unsettled_of view state b.entries infos);
  few = few_all (unsettled_of view state b.entries infos);
}

-- what a call orders, and that it is a group
pub record Grouped (b c : Book) (view : DisposerView) (infos : List DeliveryInfo) (state : DeliveryState) : Type 0 where
  pub group : List Order
  pub is : IsGroup b view infos state group
  pub all : c.orders ≡ b.orders ++ group

pub disposed_group : (b : Book) (view : DisposerView) (info : DeliveryInfo) (state : DeliveryState) → Grouped b (disposed b view info state).book view (info ∷ []) state
disposed_group b view info state = record {
  group = map (order_of state) (runs_from None (unsettled_of view state b.entries (info ∷ []))) ++ flow_of view.credit_mode (b.attachment == view.attachment) (counted b.processed (info ∷ [])) b.delivery_count;
  is = grouped b view (info ∷ []) state;
  all =
      refilled_orders view.credit_mode b (processed_one (settled b view info state)) (map (order_of state) (runs_from None (unsettled_of view state b.entries (info ∷ [])))) (min (b.processed + 1) 4294967295) view.attachment (one_if (found_in b info.delivery_tag))
      (settled_goes (found_in b info.delivery_tag) (mode_for view info) b info state);
}

-- ---- several deliveries

-- the book when the run that is open at the end of a walk has been closed
abbrev ends : DisposerView → DeliveryState → Walk → List DeliveryInfo → Book
ends view state w infos = closed (walk_all view state w infos).run state (walk_all view state w infos).book

-- what walks over these deliveries order, from any run that is open
abbrev AllGo : DisposerView → DeliveryState → List DeliveryInfo → Type 0
AllGo view state infos = (run : Option Run) (b : Book) (found : ℕ)
    → Goes b (ends view state (record { book = b; run = run; found = found }) infos) (map (order_of state) (runs_from run (unsettled_of view state b.entries infos))) (counted b.processed infos)

-- a run that ends has ordered its Disposition
closes : (b c d : Book) (o : Order) (added : List Order) (processed : ℕ) → c.orders ≡ b.orders ++ o ∷ [] → c.attachment ≡ b.attachment → c.delivery_count ≡ b.delivery_count
    → Goes c d added processed → Goes b d (o ∷ added) processed
closes b c d o added processed orders attachment count g = record {
  orders = g.orders ∙ (ap (λ (os : List Order). os ++ added) orders ∙ append_assoc b.orders (o ∷ []) added);
  attachment = g.attachment ∙ attachment;
  count = g.count ∙ count;
  processed = g.processed;
}

same_goes : (b c d : Book) (added : List Order) (processed : ℕ) → c.orders ≡ b.orders → c.attachment ≡ b.attachment → c.delivery_count ≡ b.delivery_count
    → Goes c d added processed → Goes b d added processed
same_goes b c d added processed orders attachment count g = record {
  orders = g.orders ∙ ap (λ (os : List Order). os ++ added) orders;
  attachment = g.attachment ∙ attachment;
  count = g.count ∙ count;
  processed = g.processed;
}

joined_at_goes : (view : DisposerView) (state : DeliveryState) (infos : List DeliveryInfo) → AllGo view state infos → (on : Bool) (r : Run) (c : Book) (mode : ReceiverSettleMode) (number found : ℕ)
    → Goes c (ends view state (joined_at on r c mode number state found) infos)
    (map (order_of state) (runs_at on r (runs_from (Some (longer r number)) (unsettled_of view state c.entries infos)) (runs_from (Some (new_run mode number)) (unsettled_of view state c.entries infos)))) (counted c.processed infos)
joined_at_goes view state infos rest true r c mode number found = rest (Some (longer r number)) c found
joined_at_goes view state infos rest false r c mode number found =
    closes c (closed (Some r) state c) _ (order_of state r) _ _ refl refl refl (rest (Some (new_run mode number)) (closed (Some r) state c) found)

joined_goes : (view : DisposerView) (state : DeliveryState) (infos : List DeliveryInfo) → AllGo view state infos → (run : Option Run) (c : Book) (mode : ReceiverSettleMode) (number found : ℕ)
    → Goes c (ends view state (joined run c mode number state found) infos) (map (order_of state) (runs_from run ((mode, number) ∷ unsettled_of view state c.entries infos))) (counted c.processed infos)
joined_goes view state infos rest None c mode number found = rest (Some (new_run mode number)) c found
joined_goes view state infos rest (Some r) c mode number found = joined_at_goes view state infos rest (goes_on r mode number) r c mode number found

walked_goes : (view : DisposerView) (state : DeliveryState) (infos : List DeliveryInfo) → AllGo view state infos → (run : Option Run) (b : Book) (found : ℕ) (info : DeliveryInfo) (f : Option Kept) (mode : ReceiverSettleMode)
    → Goes b (ends view state (walked_at f mode (record { book = b; run = run; found = found }) info state) infos)
    (map (order_of state) (runs_from run (told_at f mode info.delivery_id ++ unsettled_of view state (left_at f mode b.entries info.delivery_tag state) infos))) (counted (min (b.processed + 1) 4294967295) infos)
walked_goes view state infos rest run b found info None mode =
    same_goes b (processed_one b) _ _ _ refl refl refl (rest run (processed_one b) found)
walked_goes view state infos rest run b found info (Some k) First =
    same_goes b (processed_one (changed_at First k b info.delivery_tag state)) _ _ _ refl refl refl
    (joined_goes view state infos rest run (processed_one (changed_at First k b info.delivery_tag state)) First info.delivery_id (min (found + 1) 4294967295))
walked_goes view state infos rest run b found info (Some k) Second =
    same_goes b (processed_one (changed_at Second k b info.delivery_tag state)) _ _ _ refl refl refl
    (joined_goes view state infos rest run (processed_one (changed_at Second k b info.delivery_tag state)) Second info.delivery_id (min (found + 1) 4294967295))

ended_goes : (view : DisposerView) (state : DeliveryState) (run : Option Run) (b : Book) (found : ℕ)
    → Goes b (closed run state b) (map (order_of state) (runs_from run [])) b.processed
ended_goes view state None b found = record { orders = sym (append-nil b.orders); attachment = refl; count = refl; processed = refl }
ended_goes view state (Some r) b found = record { orders = refl; attachment = refl; count = refl; processed = refl }

all_go : (view : DisposerView) (state : DeliveryState) (infos : List DeliveryInfo) → AllGo view state infos
all_go view state [] = λ run b found. ended_goes view state run b found
all_go view state (info ∷ infos) = λ run b found. walked_goes view state infos (all_go view state infos) run b found info (found_in b info.delivery_tag) (mode_for view info)

pub disposed_all_group : (b : Book) (view : DisposerView) (infos : List DeliveryInfo) (state : DeliveryState) → Grouped b (disposed_all b view infos state).book view infos state
disposed_all_group b view infos state = record {
  group = map (order_of state) (runs_from None (unsettled_of view state b.entries infos)) ++ flow_of view.credit_mode (b.attachment == view.attachment) (counted b.processed infos) b.delivery_count;
  is = grouped b view infos state;
  all =
      refilled_orders view.credit_mode b (ends view state (record { book = b; run = None; found = 0 }) infos) (map (order_of state) (runs_from None (unsettled_of view state b.entries infos))) (counted b.processed infos) view.attachment
      (walk_all view state (record { book = b; run = None; found = 0 }) infos).found (all_go view state infos None b 0);
}
