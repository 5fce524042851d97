-- The deliveries that are registered, by their tags.
use Rattle.std.specs.Prelude.{◌≡◌, ℕ, zero, suc, ◌+◌, ◌<◌, ◌≤◌, Bool, true, false, cond, List, [], ◌∷◌, ◌++◌, length, Option, None, Some, refl}
use Rattle.std.proofs.Common.{arith, sym, ◌∙◌, ap, subst, length-append}
use Rattle.std.proofs.lemmas.List.Sums.{sum_by-cons}
use Rattle.std.proofs.lemmas.Nat.{from_be_bytes-to_be_bytes_4}
use Rattle.std.specs.Int.{to_be_bytes, from_be_bytes, w32}
use Rattle.std.specs.Str.{bytes_eq}
use Rattle.std.specs.Map.{lookup}
use Rattle.indexmap.specs.IndexMap.{insert_entry}
use Rattle.amqp_composites.specs.declared.modes.ReceiverSettleMode.TheVariants.{First}
use Rattle.amqp_delivery.specs.Book.{Book, registered, entry_for}
use Rattle.amqp_delivery.specs.declared.entry.Kept.{Kept}
use Rattle.amqp_delivery.specs.declared.info.DeliveryInfo.{DeliveryInfo}
use Rattle.amqp_delivery.specs.declared.info.DisposerView.{DisposerView}
use Rattle.book_history.specs.Weights.{weigh, is_tag}
use Rattle.book_history.proofs.Weights.{same_tag, own_tag, removed_weight}
use Rattle.amqp_disposers.specs.Deliveries.{delivery_of, deliveries_below, registered_all}
use Rattle.amqp_disposers.specs.Work.{accepted_total}
use Rattle.amqp_disposers.proofs.Settling.{first_accept, tag_accept}

-- the deliveries weighed by their tags
abbrev pub tags_weight : (List ℕ → ℕ) → List DeliveryInfo → ℕ
tags_weight w [] = 0
tags_weight w (i ∷ is) = w i.delivery_tag + tags_weight w is

tags_push : (w : List ℕ → ℕ) (is : List DeliveryInfo) (i : DeliveryInfo) → tags_weight w (is ++ i ∷ []) ≡ tags_weight w is + w i.delivery_tag
tags_push w [] i = omega arith
tags_push w (x ∷ is) i = let h = tags_push w is i in omega arith

pub tags_length : (is : List DeliveryInfo) → tags_weight (λ t. 1) is ≡ length is
tags_length [] = refl
tags_length (i ∷ is) = let h = tags_length is in omega arith

pub tags_accepted : (t : List ℕ) (view : DisposerView) (is : List DeliveryInfo) → accepted_total (tag_accept t) view is ≡ tags_weight (is_tag t) is
tags_accepted t view [] = refl
tags_accepted t view (i ∷ is) = let h = tags_accepted t view is in omega arith

pub count_below : (n : ℕ) → length (deliveries_below n) ≡ n
count_below zero = refl
count_below (suc n) = let h = count_below n in omega (arith, h, length-append (deliveries_below n) (delivery_of n ∷ []))

-- ---- each number has a tag of its own

abbrev pub tag_of : ℕ → List ℕ
tag_of n = to_be_bytes w32 n

same_number : (n m : ℕ) → n < 4294967296 → m < 4294967296 → tag_of n ≡ tag_of m → n ≡ m
same_number n m nw mw is = sym (from_be_bytes-to_be_bytes_4 n nw) ∙ (ap (from_be_bytes w32) is ∙ from_be_bytes-to_be_bytes_4 m mw)

other_at : (n m : ℕ) → n < m → m < 4294967296 → (b : Bool) → bytes_eq (tag_of m) (tag_of n) ≡ b → ◌≡◌ {A = ℕ} (cond b 1 0) 0
other_at n m lt mw true is = absurd (let e = same_number n m (omega arith) mw (same_tag (tag_of m) (tag_of n) is) in omega arith)
other_at n m lt mw false is = refl

none_above : (m n : ℕ) → n ≤ m → m < 4294967296 → tags_weight (is_tag (tag_of m)) (deliveries_below n) ≡ 0
none_above m zero le mw = refl
none_above m (suc n) le mw =
    let h = none_above m n (omega arith) mw in
    let p = tags_push (is_tag (tag_of m)) (deliveries_below n) (delivery_of n) in
    let o : is_tag (tag_of m) (tag_of n) ≡ 0 = other_at n m (omega arith) mw (bytes_eq (tag_of m) (tag_of n)) refl in
    omega arith

one_at : (t : List ℕ) (n x : ℕ) (b : Bool) → bytes_eq t (tag_of n) ≡ b → (t ≡ tag_of n → x ≡ 0) → x ≤ 1 → x + cond b 1 0 ≤ 1
one_at t n x true is none le = let z = none (sym (same_tag t (tag_of n) is)) in omega arith
one_at t n x false is none le = omega arith

pub one_each : (t : List ℕ) (n : ℕ) → n ≤ 4294967296 → tags_weight (is_tag t) (deliveries_below n) ≤ 1
one_each t zero le = omega arith
one_each t (suc n) le =
    let h = one_each t n (omega arith) in
    let p = tags_push (is_tag t) (deliveries_below n) (delivery_of n) in
    let o : tags_weight (is_tag t) (deliveries_below n) + is_tag t (tag_of n) ≤ 1 =
    one_at t n (tags_weight (is_tag t) (deliveries_below n)) (bytes_eq t (tag_of n)) refl (λ e. subst (λ (u : List ℕ). tags_weight (is_tag u) (deliveries_below n) ≡ 0) (sym e) (none_above n n (omega arith) (omega arith))) h in
    omega arith

-- ---- registrations

goes_at : (w : List ℕ → ℕ) (t : List ℕ) (e : List ℕ × Kept) (es : List (List ℕ × Kept)) (k : Kept) → weigh w (insert_entry bytes_eq es t k) ≡ weigh w es + w t → (b : Bool) → cond b (Some e.1) (lookup (bytes_eq t) es) ≡ None → weigh w (cond b ((e.0, k) ∷ es) (e ∷ insert_entry bytes_eq es t k)) ≡ (w e.0 + weigh w es) + w t
goes_at w t e es k rest true none = absurd cc
goes_at w t e es k rest false none = let c = sum_by-cons (λ (p : List ℕ × Kept). w p.0) e (insert_entry bytes_eq es t k) in omega (arith, c, rest)

none_after : (t : List ℕ) (e : List ℕ × Kept) (es : List (List ℕ × Kept)) (b : Bool) → cond b (Some e.1) (lookup (bytes_eq t) es) ≡ None → lookup (bytes_eq t) es ≡ None
none_after t e es true none = absurd cc
none_after t e es false none = none

-- a tag that is not there adds its weight
goes : (w : List ℕ → ℕ) (t : List ℕ) (es : List (List ℕ × Kept)) (k : Kept) → lookup (bytes_eq t) es ≡ None → weigh w (insert_entry bytes_eq es t k) ≡ weigh w es + w t
goes w t [] k none = let c = sum_by-cons (λ (p : List ℕ × Kept). w p.0) (t, k) [] in omega (arith, c)
goes w t (e ∷ es) k none =
    let c = sum_by-cons (λ (p : List ℕ × Kept). w p.0) e es in
    let g = goes_at w t e es k (goes w t es k (none_after t e es (bytes_eq t e.0) none)) (bytes_eq t e.0) none in
    omega (arith, c, g)

own_one : (t : List ℕ) → is_tag t t ≡ 1
own_one t = ap (λ (c : Bool). cond c 1 0) (own_tag t)

absent_at : (t : List ℕ) (es : List (List ℕ × Kept)) → weigh (is_tag t) es ≡ 0 → (f : Option Kept) → lookup (bytes_eq t) es ≡ f → lookup (bytes_eq t) es ≡ None
absent_at t es none None is = is
absent_at t es none (Some k) is = absurd (let r = removed_weight (is_tag t) t es k is in let o = own_one t in omega arith)

pub record Registered (b : Book) (is : List DeliveryInfo) (c : Book) : Type 0 where
  pub weight : (w : List ℕ → ℕ) → weigh w c.entries ≡ weigh w b.entries + tags_weight w is
  pub orders : c.orders ≡ b.orders
  pub mode : c.mode ≡ b.mode

pub registers : (b : Book) (is : List DeliveryInfo) → ((t : List ℕ) → weigh (is_tag t) b.entries + tags_weight (is_tag t) is ≤ 1) → Registered b is (registered_all b is)
registers b [] few = record { weight = λ w. omega arith; orders = refl; mode = refl }
registers b (i ∷ is) few =
    let o = own_one i.delivery_tag in
    let f = few i.delivery_tag in
    let none = absent_at i.delivery_tag b.entries (omega arith) (lookup (bytes_eq i.delivery_tag) b.entries) refl in
    let g : (w : List ℕ → ℕ) → weigh w (registered b i).entries ≡ weigh w b.entries + w i.delivery_tag = λ w. goes w i.delivery_tag b.entries (entry_for b i) none in
    let r = registers (registered b i) is (λ t. (let x = g (is_tag t) in let y = few t in omega arith)) in
    record {
      weight = λ w. (let x = r.weight w in let y = g w in omega arith);
      orders = r.orders;
      mode = r.mode;
    }

-- ---- acceptances of these deliveries are of mode First

first_push : (w : ℕ) (view : DisposerView) (is : List DeliveryInfo) (i : DeliveryInfo) → accepted_total first_accept view (is ++ i ∷ []) ≡ accepted_total first_accept view is + accepted_total first_accept view (i ∷ [])
first_push w view [] i = omega arith
first_push w view (x ∷ is) i = let h = first_push w view is i in omega arith

pub all_first_below : (view : DisposerView) → view.mode ≡ First → (n : ℕ) → accepted_total first_accept view (deliveries_below n) ≡ n
all_first_below view mode zero = refl
all_first_below view mode (suc n) =
    let h = all_first_below view mode n in
    let p = first_push 0 view (deliveries_below n) (delivery_of n) in
    let one : accepted_total first_accept view (delivery_of n ∷ []) ≡ 1 = rw mode refl in
    omega arith
