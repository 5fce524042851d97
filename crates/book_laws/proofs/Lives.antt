-- Orders group as calls do.
use Rattle.std.specs.Prelude.{◌≡◌, ℕ, ◌/◌, ◌==◌, nat_le, Bool, true, false, List, [], ◌∷◌, ◌++◌, Option, None, Some, refl}
use Rattle.std.proofs.Common.{sym, ◌∙◌, ap, append_assoc, append-nil}
use Rattle.amqp_termini.specs.declared.state.DeliveryState.{DeliveryState}
use Rattle.amqp_delivery.specs.declared.entry.Kept.{Kept}
use Rattle.amqp_delivery.specs.declared.orders.Order.{Order}
use Rattle.amqp_delivery.specs.declared.info.CreditMode.{CreditMode}
use Rattle.amqp_delivery.specs.declared.info.CreditMode.TheVariants.{Manual, Auto}
use Rattle.amqp_delivery.specs.declared.calls.BookCall.{BookCall}
use Rattle.amqp_delivery.specs.declared.calls.BookCall.TheVariants.{Register, Accept, Release, TakeOrders}
use Rattle.amqp_delivery.specs.States.{accepted, released}
use Rattle.amqp_delivery.specs.Book.{Book, found_in, settled, processed_one, refill_at, refill, recorded_at, one_if}
use Rattle.amqp_delivery.specs.Step.{reply_of, step}
use Rattle.book_history.specs.History.{Event, Replays}
use Rattle.book_laws.specs.Lives.{Deed, registers, disposes, disposes_all, takes_orders, sets_mode, sets_credit, restarts, completes, drains, attaches, forgets, records, after, after_all, handed, handed_all, Orders, all_of}
use Rattle.book_laws.specs.Laws.{OrdersGroup, HistoriesGroup, deed_of, deeds_of, orders_in, replied}
use Rattle.book_laws.proofs.Walks.{disposed_group, disposed_all_group}

-- what a call orders
record Ordered (b : Book) (d : Deed) : Type 0 where
  group : List Order
  is : Orders b d group
  all : handed b d ++ (after b d).orders ≡ b.orders ++ group

recorded_orders : (f : Option Kept) (b : Book) (tag : List ℕ) (state : DeliveryState) → (recorded_at f b tag state).orders ≡ b.orders
recorded_orders None b tag state = refl
recorded_orders (Some k) b tag state = refl

ordered : (b : Book) (d : Deed) → Ordered b d
ordered b (registers info) = record { group = []; is = refl; all = sym (append-nil b.orders) }
ordered b (disposes view info state) = (let g = disposed_group b view info state in record { group = g.group; is = g.is; all = g.all })
ordered b (disposes_all view infos state) = (let g = disposed_all_group b view infos state in record { group = g.group; is = g.is; all = g.all })
ordered b takes_orders = record { group = []; is = refl; all = refl }
ordered b (sets_mode mode) = record { group = []; is = refl; all = sym (append-nil b.orders) }
ordered b (sets_credit credit) = record { group = []; is = refl; all = sym (append-nil b.orders) }
ordered b restarts = record { group = []; is = refl; all = sym (append-nil b.orders) }
ordered b completes = record { group = []; is = refl; all = sym (append-nil b.orders) }
ordered b (drains amount) = record { group = []; is = refl; all = sym (append-nil b.orders) }
ordered b (attaches delivery_count) = record { group = []; is = refl; all = sym (append-nil b.orders) }
ordered b (forgets tag) = record { group = []; is = refl; all = sym (append-nil b.orders) }
ordered b (records tag state) = record { group = []; is = refl; all = recorded_orders (found_in b tag) b tag state ∙ sym (append-nil b.orders) }

joins : (first later left next had group groups : List Order) → later ++ left ≡ next ++ groups → first ++ next ≡ had ++ group → (first ++ later) ++ left ≡ had ++ (group ++ groups)
joins first later left next had group groups rest one =
    append_assoc first later left
    ∙ (ap (λ (os : List Order). first ++ os) rest
    ∙ (sym (append_assoc first next groups) ∙ (ap (λ (os : List Order). os ++ groups) one ∙ append_assoc had group groups)))

pub orders_group : OrdersGroup
orders_group b [] = ([], tt, sym (append-nil b.orders))
orders_group b (d ∷ ds) =
    let one = ordered b d in
    let rest = orders_group (after b d) ds in
    (one.group ∷ rest.0, (one.is, rest.1), joins (handed b d) (handed_all (after b d) ds) (after_all (after b d) ds).orders (after b d).orders b.orders one.group (all_of rest.0) rest.2 one.all)

-- ---- histories

refill_at_bare : (due current : Bool) (b : Book) (m found : ℕ) → orders_in (reply_of (refill_at due current b m found).reply) ≡ []
refill_at_bare false current b m found = refl
refill_at_bare true true b m found = refl
refill_at_bare true false b m found = refl

refill_bare : (mode : CreditMode) (b : Book) (attachment found : ℕ) → orders_in (reply_of (refill mode b attachment found).reply) ≡ []
refill_bare Manual b attachment found = refl
refill_bare (Auto m) b attachment found = refill_at_bare (nat_le (m / 2) b.processed) (b.attachment == attachment) b m found

step_after : (b : Book) (call : BookCall) → (step b call).book ≡ after b (deed_of call)
step_after b (Register info) = refl
step_after b (Accept view info) = refl
step_after b (Release view info) = refl
step_after b TakeOrders = refl

step_handed : (b : Book) (call : BookCall) → orders_in (step b call).reply ≡ handed b (deed_of call)
step_handed b (Register info) = refl
step_handed b (Accept view info) = refill_bare view.credit_mode (processed_one (settled b view info accepted)) view.attachment (one_if (found_in b info.delivery_tag))
step_handed b (Release view info) = refill_bare view.credit_mode (processed_one (settled b view info released)) view.attachment (one_if (found_in b info.delivery_tag))
step_handed b TakeOrders = refl

record Told (b c : Book) (h : List Event) : Type 0 where
  left : after_all b (deeds_of h) ≡ c
  out : handed_all b (deeds_of h) ≡ replied h

told : (b c : Book) (h : List Event) → Replays b h c → Told b c h
told b c [] is = record { left = is; out = refl }
told b c (e ∷ es) is =
    let same = step_after b e.call in
    let rest = told (step b e.call).book c es is.1 in
    let said : orders_in e.reply ≡ handed b (deed_of e.call) = ap orders_in is.0 ∙ step_handed b e.call in
    record {
      left = ap (λ (x : Book). after_all x (deeds_of es)) (sym same) ∙ rest.left;
      out =
          ap (λ (os : List Order). os ++ handed_all (after b (deed_of e.call)) (deeds_of es)) (sym said)
          ∙ (ap (λ (x : Book). orders_in e.reply ++ handed_all x (deeds_of es)) (sym same) ∙ ap (λ (os : List Order). orders_in e.reply ++ os) rest.out);
    }

pub histories_group : HistoriesGroup
histories_group b c h is =
    let t = told b c h is in
    let all = orders_group b (deeds_of h) in
    (all.0, all.1, ap (λ (os : List Order). os ++ c.orders) (sym t.out) ∙ (ap (λ (x : Book). handed_all b (deeds_of h) ++ x.orders) (sym t.left) ∙ all.2))
