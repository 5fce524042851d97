-- A delivery that is registered once, and disposed of later in mode First, is settled once.
use Rattle.std.specs.Prelude.{◌≡◌, ◌≢◌, ℕ, zero, suc, ◌+◌, ◌≤◌, Bool, true, false, cond, nat_le, ◌&&◌, ◌⊎◌, List, [], ◌∷◌, ◌++◌, length, drop, slice_get, Option, None, Some, refl, ◌==◌, ◌/◌}
use Rattle.std.proofs.Common.{arith, sym, ◌∙◌, ap, subst, append_assoc, append-nil, inl, inr}
use Rattle.std.proofs.lemmas.Bool.Decides.{nat_tests}
use Rattle.std.proofs.lemmas.List.Sums.{sum_by-cons}
use Rattle.std.specs.Str.{bytes_eq}
use Rattle.std.specs.Map.{lookup, set_value}
use Rattle.indexmap.specs.IndexMap.{swap_remove_entry, insert_entry}
use Rattle.amqp_composites.specs.declared.modes.ReceiverSettleMode.{ReceiverSettleMode}
use Rattle.amqp_composites.specs.declared.modes.ReceiverSettleMode.TheVariants.{First, Second}
use Rattle.amqp_termini.specs.declared.state.DeliveryState.{DeliveryState}
use Rattle.amqp_delivery.specs.States.{accepted, released}
use Rattle.amqp_delivery.specs.Book.{Book, settled_at, settled, processed_one, refill_at, refill, found_in, mode_for, entry_for}
use Rattle.amqp_delivery.specs.Step.{step}
use Rattle.amqp_delivery.specs.declared.entry.Kept.{Kept}
use Rattle.amqp_delivery.specs.declared.orders.Order.{Order}
use Rattle.amqp_delivery.specs.declared.orders.Order.TheVariants.{Disposition, Flow}
use Rattle.amqp_delivery.specs.declared.info.CreditMode.{CreditMode}
use Rattle.amqp_delivery.specs.declared.info.CreditMode.TheVariants.{Manual, Auto}
use Rattle.amqp_delivery.specs.declared.info.DeliveryInfo.{DeliveryInfo}
use Rattle.amqp_delivery.specs.declared.info.DisposerView.{DisposerView}
use Rattle.amqp_delivery.specs.declared.calls.BookCall.{BookCall}
use Rattle.amqp_delivery.specs.declared.calls.BookCall.TheVariants.{Register, Accept, Release, TakeOrders}
use Rattle.book_history.specs.History.{Event}
use Rattle.book_history.specs.Weights.{weigh, is_tag}
use Rattle.book_history.specs.Once.{made_by, made_orders, settles_number, count_number, IsApartFrom, IsElse, Disposes, AllDispose, RegistersOnce, IsSettledOnce}
use Rattle.book_history.proofs.Weights.{same_tag, own_tag, removed_weight, missing_weight, found_one}

count-append : (n : ℕ) (os ps : List Order) → count_number n (os ++ ps) ≡ count_number n os + count_number n ps
count-append n [] ps = omega arith
count-append n (o ∷ os) ps = let h = count-append n os ps in omega (arith, h)

drop_own : (xs ys : List Order) → drop (length xs) (xs ++ ys) ≡ ys
drop_own [] ys = refl
drop_own (x ∷ xs) ys = drop_own xs ys

-- orders were added, of which so many settle this number
record Adds (n : ℕ) (os ps : List Order) (k : ℕ) : Type 0 where
  added : List Order
  all : ps ≡ os ++ added
  count : count_number n added ≡ k

adds_none : (n : ℕ) (os : List Order) → Adds n os os 0
adds_none n os = record { added = []; all = sym (append-nil os); count = refl }

adds_one : (n : ℕ) (os : List Order) (o : Order) (k : ℕ) → settles_number n o ≡ k → Adds n os (os ++ o ∷ []) k
adds_one n os o k is = record { added = o ∷ []; all = refl; count = omega (arith, is) }

adds_both : (n : ℕ) (os ps qs : List Order) (k l : ℕ) → Adds n os ps k → Adds n ps qs l → Adds n os qs (k + l)
adds_both n os ps qs k l a b = record {
  added = a.added ++ b.added;
  all = b.all ∙ (ap (λ (xs : List Order). xs ++ b.added) a.all ∙ append_assoc os a.added b.added);
  count = (let h = count-append n a.added b.added in omega (arith, h, a.count, b.count));
}

adds_made : (n : ℕ) (os ps : List Order) (k : ℕ) → Adds n os ps k → count_number n (drop (length os) ps) ≡ k
adds_made n os ps k a = ap (λ (xs : List Order). count_number n (drop (length os) xs)) a.all ∙ (ap (count_number n) (drop_own os a.added) ∙ a.count)

-- ---- refills add no Disposition and leave the entries

record Refilled (n : ℕ) (b c : Book) : Type 0 where
  orders : Adds n b.orders c.orders 0
  entries : c.entries ≡ b.entries

refill_at_adds : (n : ℕ) (due current : Bool) (b : Book) (m found : ℕ) → Refilled n b (refill_at due current b m found).book
refill_at_adds n false current b m found = record { orders = adds_none n b.orders; entries = refl }
refill_at_adds n true false b m found = record { orders = adds_none n b.orders; entries = refl }
refill_at_adds n true true b m found = record { orders = adds_one n b.orders (Flow b.delivery_count m) 0 refl; entries = refl }

refill_adds : (n : ℕ) (mode : CreditMode) (b : Book) (attachment found : ℕ) → Refilled n b (refill mode b attachment found).book
refill_adds n Manual b attachment found = record { orders = adds_none n b.orders; entries = refl }
refill_adds n (Auto m) b attachment found = refill_at_adds n (nat_le (m / 2) b.processed) (b.attachment == attachment) b m found

-- ---- weights of one tag

other_tag : (t k : List ℕ) → k ≢ t → (b : Bool) → bytes_eq t k ≡ b → ◌≡◌ {A = ℕ} (cond b 1 0) 0
other_tag t k apart true is = absurd (apart (same_tag t k is))
other_tag t k apart false is = refl

is_other : (t k : List ℕ) → k ≢ t → is_tag t k ≡ 0
is_other t k apart = other_tag t k apart (bytes_eq t k) refl

is_own : (t : List ℕ) → is_tag t t ≡ 1
is_own t = ap (λ (c : Bool). cond c 1 0) (own_tag t)

set_at : (w : List ℕ → ℕ) (t : List ℕ → Bool) (e : List ℕ × Kept) (es : List (List ℕ × Kept)) (k : Kept) → weigh w (set_value t es k) ≡ weigh w es → (b : Bool) → weigh w (cond b ((e.0, k) ∷ es) (e ∷ set_value t es k)) ≡ w e.0 + weigh w es
set_at w t e es k rest true = sum_by-cons (λ (p : List ℕ × Kept). w p.0) (e.0, k) es
set_at w t e es k rest false = sum_by-cons (λ (p : List ℕ × Kept). w p.0) e (set_value t es k) ∙ ap (λ (x : ℕ). w e.0 + x) rest

set_weight : (w : List ℕ → ℕ) (t : List ℕ → Bool) (es : List (List ℕ × Kept)) (k : Kept) → weigh w (set_value t es k) ≡ weigh w es
set_weight w t [] k = refl
set_weight w t (e ∷ es) k = set_at w t e es k (set_weight w t es k) (t e.0) ∙ sym (sum_by-cons (λ (p : List ℕ × Kept). w p.0) e es)

-- a registration leaves each other tag's weight, and gives its own tag one where it had none
insert_at : (t u : List ℕ) (e : List ℕ × Kept) (es : List (List ℕ × Kept)) (k : Kept) → u ≢ t → weigh (is_tag t) (insert_entry bytes_eq es u k) ≡ weigh (is_tag t) es → (b : Bool) → weigh (is_tag t) (cond b ((e.0, k) ∷ es) (e ∷ insert_entry bytes_eq es u k)) ≡ is_tag t e.0 + weigh (is_tag t) es
insert_at t u e es k apart rest true = sum_by-cons (λ (p : List ℕ × Kept). is_tag t p.0) (e.0, k) es
insert_at t u e es k apart rest false = sum_by-cons (λ (p : List ℕ × Kept). is_tag t p.0) e (insert_entry bytes_eq es u k) ∙ ap (λ (x : ℕ). is_tag t e.0 + x) rest

insert_other : (t u : List ℕ) (es : List (List ℕ × Kept)) (k : Kept) → u ≢ t → weigh (is_tag t) (insert_entry bytes_eq es u k) ≡ weigh (is_tag t) es
insert_other t u [] k apart = sum_by-cons (λ (p : List ℕ × Kept). is_tag t p.0) (u, k) [] ∙ (let z = is_other t u apart in omega (arith, z))
insert_other t u (e ∷ es) k apart = insert_at t u e es k apart (insert_other t u es k apart) (bytes_eq u e.0) ∙ sym (sum_by-cons (λ (p : List ℕ × Kept). is_tag t p.0) e es)

insert_new_at : (t : List ℕ) (e : List ℕ × Kept) (es : List (List ℕ × Kept)) (k : Kept) → weigh (is_tag t) (insert_entry bytes_eq es t k) ≡ 1 → (b : Bool) → bytes_eq t e.0 ≡ b → ◌≡◌ {A = ℕ} (cond b 1 0) 0 → weigh (is_tag t) (cond b ((e.0, k) ∷ es) (e ∷ insert_entry bytes_eq es t k)) ≡ 1
insert_new_at t e es k rest true is none = absurd (omega (arith, none))
insert_new_at t e es k rest false is none = (let c = sum_by-cons (λ (p : List ℕ × Kept). is_tag t p.0) e (insert_entry bytes_eq es t k) in let o : is_tag t e.0 ≡ 0 = ap (λ (b : Bool). cond b 1 0) is in omega (arith, c, o, rest))

insert_new : (t : List ℕ) (es : List (List ℕ × Kept)) (k : Kept) → weigh (is_tag t) es ≡ 0 → weigh (is_tag t) (insert_entry bytes_eq es t k) ≡ 1
insert_new t [] k none = (let c = sum_by-cons (λ (p : List ℕ × Kept). is_tag t p.0) (t, k) [] in let o = is_own t in omega (arith, c, o))
insert_new t (e ∷ es) k none =
    let c = sum_by-cons (λ (p : List ℕ × Kept). is_tag t p.0) e es in
    insert_new_at t e es k (insert_new t es k (omega (arith, c, none))) (bytes_eq t e.0) refl (omega (arith, c, none))

-- ---- disposals

-- after a call: this tag's weight, and how many orders settle this number
record After (n : ℕ) (t : List ℕ) (b c : Book) (left made : ℕ) : Type 0 where
  weight : weigh (is_tag t) c.entries ≡ left
  orders : Adds n b.orders c.orders made

other_number : (n m : ℕ) → m ≢ n → ◌≡◌ {A = ℕ} (cond (nat_le m n && nat_le n m) 1 0) 0
other_number n m apart = grind (arith, nat_tests, apart)

own_number : (n : ℕ) → ◌≡◌ {A = ℕ} (cond (nat_le n n && nat_le n n) 1 0) 1
own_number n = grind (arith, nat_tests)

settles_else : (n m : ℕ) (state : DeliveryState) (s : Bool) → m ≢ n → settles_number n (Disposition m m s state) ≡ 0
settles_else n m state true apart = other_number n m apart
settles_else n m state false apart = refl

-- a disposal of another delivery
settled_else : (f : Option Kept) (mode : ReceiverSettleMode) (b : Book) (info other : DeliveryInfo) (state : DeliveryState) → found_in b other.delivery_tag ≡ f → IsApartFrom info other → After info.delivery_id info.delivery_tag b (settled_at f mode b other state) (weigh (is_tag info.delivery_tag) b.entries) 0
settled_else None mode b info other state is differ = record { weight = refl; orders = adds_none info.delivery_id b.orders }
settled_else (Some k) First b info other state is differ =
    let r = removed_weight (is_tag info.delivery_tag) other.delivery_tag b.entries k is in
    let z = is_other info.delivery_tag other.delivery_tag differ.0 in
    record {
      weight = omega (arith, r, z);
      orders = adds_one info.delivery_id b.orders (Disposition other.delivery_id other.delivery_id true state) 0 (settles_else info.delivery_id other.delivery_id state true differ.1);
    }
settled_else (Some k) Second b info other state is differ =
    record {
      weight = set_weight (is_tag info.delivery_tag) (bytes_eq other.delivery_tag) b.entries _;
      orders = adds_one info.delivery_id b.orders (Disposition other.delivery_id other.delivery_id false state) 0 refl;
    }

-- a disposal of this delivery in mode First
settled_own : (f : Option Kept) (mode : ReceiverSettleMode) (b : Book) (info : DeliveryInfo) (state : DeliveryState) → found_in b info.delivery_tag ≡ f → mode ≡ First → weigh (is_tag info.delivery_tag) b.entries ≤ 1 → After info.delivery_id info.delivery_tag b (settled_at f mode b info state) 0 (weigh (is_tag info.delivery_tag) b.entries)
settled_own None mode b info state is first few =
    let z = missing_weight info.delivery_tag b.entries is in
    record { weight = z; orders = subst (Adds info.delivery_id b.orders b.orders) (sym z) (adds_none info.delivery_id b.orders) }
settled_own (Some k) First b info state is first few =
    let r = removed_weight (is_tag info.delivery_tag) info.delivery_tag b.entries k is in
    let one = found_one (is_tag info.delivery_tag) info.delivery_tag b.entries k is few in
    let own = is_own info.delivery_tag in
    record {
      weight = omega (arith, r, one, own);
      orders = subst (Adds info.delivery_id b.orders (b.orders ++ Disposition info.delivery_id info.delivery_id true state ∷ [])) (sym one) (adds_one info.delivery_id b.orders (Disposition info.delivery_id info.delivery_id true state) 1 (own_number info.delivery_id));
    }
settled_own (Some k) Second b info state is first few = absurd cc

refilled_after : (n : ℕ) (t : List ℕ) (b c d : Book) (left made : ℕ) → After n t b c left made → Refilled n c d → After n t b d left made
refilled_after n t b c d left made a r = record {
  weight = ap (weigh (is_tag t)) r.entries ∙ a.weight;
  orders = (let k : made + 0 ≡ made = omega arith in subst (Adds n b.orders d.orders) k (adds_both n b.orders c.orders d.orders made 0 a.orders r.orders));
}

disposed_else : (b : Book) (view : DisposerView) (info other : DeliveryInfo) (state : DeliveryState) (found : ℕ) → IsApartFrom info other → After info.delivery_id info.delivery_tag b (refill view.credit_mode (processed_one (settled b view other state)) view.attachment found).book (weigh (is_tag info.delivery_tag) b.entries) 0
disposed_else b view info other state found differ =
    let s = settled_else (found_in b other.delivery_tag) (mode_for view other) b info other state refl differ in
    let p : After info.delivery_id info.delivery_tag b (processed_one (settled b view other state)) (weigh (is_tag info.delivery_tag) b.entries) 0 = record { weight = s.weight; orders = s.orders } in
    refilled_after info.delivery_id info.delivery_tag b (processed_one (settled b view other state)) _ (weigh (is_tag info.delivery_tag) b.entries) 0 p
    (refill_adds info.delivery_id view.credit_mode (processed_one (settled b view other state)) view.attachment found)

disposed_own : (b : Book) (view : DisposerView) (info other : DeliveryInfo) (state : DeliveryState) (found : ℕ) → other ≡ info → mode_for view info ≡ First → weigh (is_tag info.delivery_tag) b.entries ≤ 1 → After info.delivery_id info.delivery_tag b (refill view.credit_mode (processed_one (settled b view other state)) view.attachment found).book 0 (weigh (is_tag info.delivery_tag) b.entries)
disposed_own b view info other state found same first few =
    subst (λ (o : DeliveryInfo). After info.delivery_id info.delivery_tag b (refill view.credit_mode (processed_one (settled b view o state)) view.attachment found).book 0 (weigh (is_tag info.delivery_tag) b.entries)) (sym same)
    (let s = settled_own (found_in b info.delivery_tag) (mode_for view info) b info state refl first few in
    let p : After info.delivery_id info.delivery_tag b (processed_one (settled b view info state)) 0 (weigh (is_tag info.delivery_tag) b.entries) = record { weight = s.weight; orders = s.orders } in
    refilled_after info.delivery_id info.delivery_tag b (processed_one (settled b view info state)) _ 0 (weigh (is_tag info.delivery_tag) b.entries) p
    (refill_adds info.delivery_id view.credit_mode (processed_one (settled b view info state)) view.attachment found))

-- ---- steps

-- what a step leaves and orders
record Stepped (n : ℕ) (t : List ℕ) (b : Book) (call : BookCall) (left made : ℕ) : Type 0 where
  weight : weigh (is_tag t) (step b call).book.entries ≡ left
  orders : count_number n (made_by b call) ≡ made

drop_all : (os : List Order) → drop (length os) os ≡ []
drop_all [] = refl
drop_all (o ∷ os) = drop_all os

drop_none : (n : ℕ) (os : List Order) → os ≡ [] → drop n os ≡ []
drop_none zero [] none = refl
drop_none (suc n) [] none = refl
drop_none n (o ∷ os) none = absurd cc

step_else : (b : Book) (info : DeliveryInfo) (call : BookCall) → IsElse info call → Stepped info.delivery_id info.delivery_tag b call (weigh (is_tag info.delivery_tag) b.entries) 0
step_else b info (Register other) differ = record {
  weight = insert_other info.delivery_tag other.delivery_tag b.entries (entry_for b other) differ.0;
  orders = ap (count_number info.delivery_id) (drop_all b.orders);
}
step_else b info (Accept view other) differ =
    let a = disposed_else b view info other accepted _ differ in
    record { weight = a.weight; orders = adds_made info.delivery_id b.orders _ 0 a.orders }
step_else b info (Release view other) differ =
    let a = disposed_else b view info other released _ differ in
    record { weight = a.weight; orders = adds_made info.delivery_id b.orders _ 0 a.orders }
step_else b info TakeOrders differ = record { weight = refl; orders = ap (count_number info.delivery_id) (drop_none (length b.orders) [] refl) }

step_own : (b : Book) (info : DeliveryInfo) (call : BookCall) → Disposes info call → weigh (is_tag info.delivery_tag) b.entries ≤ 1 → Stepped info.delivery_id info.delivery_tag b call 0 (weigh (is_tag info.delivery_tag) b.entries)
step_own b info (Register other) disposes few = absurd disposes
step_own b info (Accept view other) disposes few =
    let a = disposed_own b view info other accepted _ disposes.0 disposes.1 few in
    record { weight = a.weight; orders = adds_made info.delivery_id b.orders _ _ a.orders }
step_own b info (Release view other) disposes few =
    let a = disposed_own b view info other released _ disposes.0 disposes.1 few in
    record { weight = a.weight; orders = adds_made info.delivery_id b.orders _ _ a.orders }
step_own b info TakeOrders disposes few = absurd disposes

-- ---- histories

none_step : (n : ℕ) (b : Book) (call : BookCall) (os : List Order) → count_number n (made_by b call) ≡ 0 → count_number n os ≡ 0 → count_number n (made_by b call ++ os) ≡ 0
none_step n b call os one rest = let h = count-append n (made_by b call) os in omega (arith, h, one, rest)

at_most : {n : ℕ} → n ≡ 0 → n ≤ 1
at_most none = omega (arith, none)

-- where the tag is not there, none is settled
run_none : (b : Book) (info : DeliveryInfo) (h : List Event) → AllDispose info h → weigh (is_tag info.delivery_tag) b.entries ≡ 0 → count_number info.delivery_id (made_orders b h) ≡ 0
run_none b info [] all none = refl
run_none b info (e ∷ es) all none =
    elim all.0 [
      | inl differ ↦
          (let s = step_else b info e.call differ in
          none_step info.delivery_id b e.call (made_orders (step b e.call).book es) s.orders (run_none (step b e.call).book info es all.1 (s.weight ∙ none)))
      | inr disposes ↦
          (let s = step_own b info e.call disposes (at_most none) in
          none_step info.delivery_id b e.call (made_orders (step b e.call).book es) (s.orders ∙ none) (run_none (step b e.call).book info es all.1 s.weight))
    ]

-- where a disposal comes, as many are settled as there are
run_some : (b : Book) (info : DeliveryInfo) (h : List Event) (i : ℕ) (f : Event) → slice_get h i ≡ Some f → Disposes info f.call → AllDispose info h → weigh (is_tag info.delivery_tag) b.entries ≤ 1 → count_number info.delivery_id (made_orders b h) ≡ weigh (is_tag info.delivery_tag) b.entries
run_some b info [] i f at disposes all few = absurd cc
run_some b info (e ∷ es) zero f at disposes all few =
    let same : e ≡ f = cc in
    let s = step_own b info e.call (subst (λ (x : Event). Disposes info x.call) (sym same) disposes) few in
    let h = count-append info.delivery_id (made_by b e.call) (made_orders (step b e.call).book es) in
    let z = run_none (step b e.call).book info es all.1 s.weight in
    omega (arith, h, z, s.orders)
run_some b info (e ∷ es) (suc j) f at disposes all few =
    elim all.0 [
      | inl differ ↦
          (let s = step_else b info e.call differ in
          let h = count-append info.delivery_id (made_by b e.call) (made_orders (step b e.call).book es) in
          let r = run_some (step b e.call).book info es j f at disposes all.1 (let w = s.weight in omega (arith, w, few)) in
          omega (arith, h, r, s.orders, s.weight))
      | inr own ↦
          (let s = step_own b info e.call own few in
          let h = count-append info.delivery_id (made_by b e.call) (made_orders (step b e.call).book es) in
          let z = run_none (step b e.call).book info es all.1 s.weight in
          omega (arith, h, z, s.orders))
    ]

registered_one : (b : Book) (info : DeliveryInfo) (entry : Event) (later : List Event) (i : ℕ) (f : Event) → entry.call ≡ Register info → slice_get later i ≡ Some f → Disposes info f.call → AllDispose info later → weigh (is_tag info.delivery_tag) b.entries ≡ 0 → count_number info.delivery_id (made_orders b (entry ∷ later)) ≡ 1
registered_one b info entry later i f is at disposes all none =
    subst (λ (c : BookCall). count_number info.delivery_id (made_by b c ++ made_orders (step b c).book later) ≡ 1) (sym is)
    (let z : count_number info.delivery_id (made_by b (Register info)) ≡ 0 = ap (count_number info.delivery_id) (drop_all b.orders) in
    let h = count-append info.delivery_id (made_by b (Register info)) (made_orders (step b (Register info)).book later) in
    let w = insert_new info.delivery_tag b.entries (entry_for b info) none in
    let r = run_some (step b (Register info)).book info later i f at disposes all (omega (arith, w)) in
    omega (arith, h, z, w, r))

once_from : (b : Book) (info : DeliveryInfo) (before : List Event) (entry : Event) (later : List Event) (i : ℕ) (f : Event) → AllDispose info before → entry.call ≡ Register info → slice_get later i ≡ Some f → Disposes info f.call → AllDispose info later → weigh (is_tag info.delivery_tag) b.entries ≡ 0 → count_number info.delivery_id (made_orders b (before ++ entry ∷ later)) ≡ 1
once_from b info [] entry later i f first is at disposes all none = registered_one b info entry later i f is at disposes all none
once_from b info (e ∷ es) entry later i f first is at disposes all none =
    elim first.0 [
      | inl differ ↦
          (let s = step_else b info e.call differ in
          let h = count-append info.delivery_id (made_by b e.call) (made_orders (step b e.call).book (es ++ entry ∷ later)) in
          let r = once_from (step b e.call).book info es entry later i f first.1 is at disposes all (s.weight ∙ none) in
          omega (arith, h, r, s.orders))
      | inr own ↦
          (let s = step_own b info e.call own (at_most none) in
          let h = count-append info.delivery_id (made_by b e.call) (made_orders (step b e.call).book (es ++ entry ∷ later)) in
          let r = once_from (step b e.call).book info es entry later i f first.1 is at disposes all s.weight in
          omega (arith, h, r, s.orders, none))
    ]

pub settled_once : IsSettledOnce
settled_once b info before entry later none registers =
    once_from b info before entry later registers.place registers.disposal registers.before_dispose registers.registers registers.at registers.disposes registers.later_dispose (missing_weight info.delivery_tag b.entries none)
