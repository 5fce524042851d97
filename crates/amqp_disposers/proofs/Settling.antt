-- Acceptances in mode First: each settles one delivery, and leaves one less.
use Rattle.std.specs.Prelude.{◌≡◌, ℕ, zero, suc, ◌+◌, ◌≤◌, Bool, true, false, cond, nat_le, ◌==◌, ◌/◌, List, [], ◌∷◌, length, Option, None, Some, refl}
use Rattle.std.proofs.Common.{arith, sym, ◌∙◌, ap, subst}
use Rattle.std.specs.Str.{bytes_eq}
use Rattle.indexmap.specs.IndexMap.{swap_remove_entry}
use Rattle.amqp_composites.specs.declared.modes.ReceiverSettleMode.{ReceiverSettleMode}
use Rattle.amqp_composites.specs.declared.modes.ReceiverSettleMode.TheVariants.{First, Second}
use Rattle.amqp_termini.specs.declared.state.DeliveryState.{DeliveryState}
use Rattle.amqp_delivery.specs.States.{accepted}
use Rattle.amqp_delivery.specs.Book.{Book, settled_at, settled, processed_one, refill_at, refill, found_in, mode_for, is_first, one_if}
use Rattle.amqp_delivery.specs.Step.{step, reply_of}
use Rattle.amqp_delivery.specs.declared.entry.Kept.{Kept}
use Rattle.amqp_delivery.specs.declared.orders.Order.TheVariants.{Disposition, Flow}
use Rattle.amqp_delivery.specs.declared.info.CreditMode.{CreditMode}
use Rattle.amqp_delivery.specs.declared.info.CreditMode.TheVariants.{Manual, Auto}
use Rattle.amqp_delivery.specs.declared.info.DeliveryInfo.{DeliveryInfo}
use Rattle.amqp_delivery.specs.declared.calls.BookCall.{BookCall}
use Rattle.amqp_delivery.specs.declared.calls.BookCall.TheVariants.{Register, Accept, Release, TakeOrders}
use Rattle.book_history.specs.History.{Event, Replays}
use Rattle.book_history.specs.Counts.{accept_count, settled_count, handed_in, handed_count}
use Rattle.book_history.specs.Weights.{weigh, is_tag, IsApart}
use Rattle.book_history.proofs.Weights.{settled_count-append, same_tag, own_tag, removed_weight, missing_weight, ones_length}
use Rattle.amqp_disposers.specs.Work.{total}

-- 1 for an acceptance in mode First
abbrev pub first_accept : BookCall → ℕ
first_accept (Register info) = 0
first_accept (Accept view info) = cond (is_first (mode_for view info)) 1 0
first_accept (Release view info) = 0
first_accept TakeOrders = 0

-- 1 for an acceptance of this tag
abbrev pub tag_accept : List ℕ → BookCall → ℕ
tag_accept t (Register info) = 0
tag_accept t (Accept view info) = is_tag t info.delivery_tag
tag_accept t (Release view info) = 0
tag_accept t TakeOrders = 0

abbrev pub IsFirstAccept : BookCall → Type 0
IsFirstAccept (Register info) = ⊥
IsFirstAccept (Accept view info) = mode_for view info ≡ First
IsFirstAccept (Release view info) = ⊥
IsFirstAccept TakeOrders = ⊥

abbrev pub AllFirst : List Event → Type 0
AllFirst [] = Unit {0}
AllFirst (e ∷ es) = IsFirstAccept e.call × AllFirst es

-- ---- a history of as many such acceptances as it has calls

mode_most : (m : ReceiverSettleMode) → cond (is_first m) 1 0 ≤ 1
mode_most First = omega arith
mode_most Second = omega arith

mode_first : (m : ReceiverSettleMode) → 1 ≤ cond (is_first m) 1 0 → m ≡ First
mode_first First le = refl
mode_first Second le = absurd (omega arith)

at_most : (call : BookCall) → first_accept call ≤ 1
at_most (Register info) = omega arith
at_most (Accept view info) = mode_most (mode_for view info)
at_most (Release view info) = omega arith
at_most TakeOrders = omega arith

at_least : (call : BookCall) → 1 ≤ first_accept call → IsFirstAccept call
at_least (Register info) le = absurd (omega arith)
at_least (Accept view info) le = mode_first (mode_for view info) le
at_least (Release view info) le = absurd (omega arith)
at_least TakeOrders le = absurd (omega arith)

total_most : (h : List Event) → total first_accept h ≤ length h
total_most [] = omega arith
total_most (e ∷ es) = let a = total_most es in let b = at_most e.call in omega arith

pub all_first : (h : List Event) → length h ≤ total first_accept h → AllFirst h
all_first [] le = tt
all_first (e ∷ es) le =
    let a = total_most es in let b = at_most e.call in
    (at_least e.call (omega arith), all_first es (omega arith))

pub accepts_all : (h : List Event) → AllFirst h → accept_count h ≡ length h
accepts_all [] all = refl
accepts_all (e ∷ es) all = one e.call e es all.0 (accepts_all es all.1) refl
  where
    one : (call : BookCall) (e : Event) (es : List Event) → IsFirstAccept call → accept_count es ≡ length es → e.call ≡ call → accept_count (e ∷ es) ≡ suc (length es)
    one (Register info) e es first rest is = absurd first
    one (Accept view info) e es first rest is = rw is (omega (arith, rest))
    one (Release view info) e es first rest is = absurd first
    one TakeOrders e es first rest is = absurd first

-- ---- what a refill leaves

refill_at_entries : (due current : Bool) (b : Book) (m found : ℕ) → (refill_at due current b m found).book.entries ≡ b.entries
refill_at_entries false current b m found = refl
refill_at_entries true false b m found = refl
refill_at_entries true true b m found = refl

refill_entries : (mode : CreditMode) (b : Book) (attachment found : ℕ) → (refill mode b attachment found).book.entries ≡ b.entries
refill_entries Manual b attachment found = refl
refill_entries (Auto m) b attachment found = refill_at_entries (nat_le (m / 2) b.processed) (b.attachment == attachment) b m found

refill_at_count : (due current : Bool) (b : Book) (m found : ℕ) → settled_count (refill_at due current b m found).book.orders ≡ settled_count b.orders
refill_at_count false current b m found = refl
refill_at_count true false b m found = refl
refill_at_count true true b m found = let h = settled_count-append b.orders (Flow b.delivery_count m ∷ []) in omega arith

refill_count : (mode : CreditMode) (b : Book) (attachment found : ℕ) → settled_count (refill mode b attachment found).book.orders ≡ settled_count b.orders
refill_count Manual b attachment found = refl
refill_count (Auto m) b attachment found = refill_at_count (nat_le (m / 2) b.processed) (b.attachment == attachment) b m found

refill_at_hands : (due current : Bool) (b : Book) (m found : ℕ) → handed_in (reply_of (refill_at due current b m found).reply) ≡ 0
refill_at_hands false current b m found = refl
refill_at_hands true false b m found = refl
refill_at_hands true true b m found = refl

refill_hands : (mode : CreditMode) (b : Book) (attachment found : ℕ) → handed_in (reply_of (refill mode b attachment found).reply) ≡ 0
refill_hands Manual b attachment found = refl
refill_hands (Auto m) b attachment found = refill_at_hands (nat_le (m / 2) b.processed) (b.attachment == attachment) b m found

-- ---- one acceptance

-- settled Dispositions and unsettled deliveries together
abbrev pub account : Book → ℕ
account b = settled_count b.orders + length b.entries

settled_account : (f : Option Kept) (mode : ReceiverSettleMode) (b : Book) (info : DeliveryInfo) (state : DeliveryState) → found_in b info.delivery_tag ≡ f → mode ≡ First → account (settled_at f mode b info state) ≡ account b
settled_account None mode b info state is first = refl
settled_account (Some k) First b info state is first =
    let h = settled_count-append b.orders (Disposition info.delivery_id info.delivery_id true state ∷ []) in
    let r = removed_weight (λ t. 1) info.delivery_tag b.entries k is in
    let p = ones_length b.entries in
    let q = ones_length (swap_remove_entry (bytes_eq info.delivery_tag) b.entries) in
    omega arith
settled_account (Some k) Second b info state is first = absurd cc

-- the deliveries of each tag are no more, and none is left of the accepted tag
record Lessens (tag : List ℕ) (es es' : List (List ℕ × Kept)) : Type 0 where
  less : (t : List ℕ) → weigh (is_tag t) es' ≤ weigh (is_tag t) es
  gone : IsApart es → weigh (is_tag tag) es' ≡ 0

settled_lessens : (f : Option Kept) (mode : ReceiverSettleMode) (b : Book) (info : DeliveryInfo) (state : DeliveryState) → found_in b info.delivery_tag ≡ f → mode ≡ First → Lessens info.delivery_tag b.entries (settled_at f mode b info state).entries
settled_lessens None mode b info state is first = record { less = λ t. omega arith; gone = λ apart. missing_weight info.delivery_tag b.entries is }
settled_lessens (Some k) First b info state is first = record {
  less = λ t. (let r = removed_weight (is_tag t) info.delivery_tag b.entries k is in omega arith);
  gone = λ apart.
      let r = removed_weight (is_tag info.delivery_tag) info.delivery_tag b.entries k is in
      let a = apart info.delivery_tag in
      let o : is_tag info.delivery_tag info.delivery_tag ≡ 1 = ap (λ (c : Bool). cond c 1 0) (own_tag info.delivery_tag) in
      omega arith;
}
settled_lessens (Some k) Second b info state is first = absurd cc

-- what an acceptance leaves
record Accepts (call : BookCall) (b : Book) : Type 0 where
  keeps : account (step b call).book ≡ account b
  hands : handed_in (step b call).reply ≡ 0
  less : (t : List ℕ) → weigh (is_tag t) (step b call).book.entries ≤ weigh (is_tag t) b.entries
  gone : (t : List ℕ) → IsApart b.entries → 1 ≤ tag_accept t call → weigh (is_tag t) (step b call).book.entries ≡ 0

tag_at : (t k : List ℕ) (b : Bool) → bytes_eq t k ≡ b → 1 ≤ cond b 1 0 → k ≡ t
tag_at t k true is le = same_tag t k is
tag_at t k false is le = absurd (omega arith)

accepts : (b : Book) (call : BookCall) → IsFirstAccept call → Accepts call b
accepts b (Register info) first = absurd first
accepts b (Release view info) first = absurd first
accepts b TakeOrders first = absurd first
accepts b (Accept view info) first =
    let s = settled b view info accepted in
    let n = one_if (found_in b info.delivery_tag) in
    let es = refill_entries view.credit_mode (processed_one s) view.attachment n in
    let os = refill_count view.credit_mode (processed_one s) view.attachment n in
    let a = settled_account (found_in b info.delivery_tag) (mode_for view info) b info accepted refl first in
    let l = settled_lessens (found_in b info.delivery_tag) (mode_for view info) b info accepted refl first in
    record {
      keeps = (let e = ap (λ (xs : List (List ℕ × Kept)). length xs) es in omega arith);
      hands = refill_hands view.credit_mode (processed_one s) view.attachment n;
      less = λ t. subst (λ (xs : List (List ℕ × Kept)). weigh (is_tag t) xs ≤ weigh (is_tag t) b.entries) (sym es) (l.less t);
      gone = λ t apart le.
          let same = tag_at t info.delivery_tag (bytes_eq t info.delivery_tag) refl le in
          subst (λ (xs : List (List ℕ × Kept)). weigh (is_tag t) xs ≡ 0) (sym es)
          (subst (λ (u : List ℕ). weigh (is_tag u) s.entries ≡ 0) same (l.gone apart));
    }

-- ---- a whole history of acceptances

pub record Settles (b : Book) (h : List Event) (c : Book) : Type 0 where
  pub keeps : account c ≡ account b
  pub hands : handed_count h ≡ 0
  pub less : (t : List ℕ) → weigh (is_tag t) c.entries ≤ weigh (is_tag t) b.entries
  pub gone : (t : List ℕ) → IsApart b.entries → 1 ≤ total (tag_accept t) h → weigh (is_tag t) c.entries ≡ 0

gone_by : (n m x y : ℕ) → 1 ≤ n + m → (1 ≤ n → y ≡ 0) → x ≤ y → (1 ≤ m → x ≡ 0) → x ≡ 0
gone_by zero m x y le first less rest = rest (omega arith)
gone_by (suc n) m x y le first less rest = let z = first (omega arith) in omega arith

pub settles : (b : Book) (h : List Event) (c : Book) → Replays b h c → AllFirst h → Settles b h c
settles b [] c replays all = record {
  keeps = ap account (sym replays);
  hands = refl;
  less = λ t. (let e = ap (λ (x : Book). weigh (is_tag t) x.entries) replays in omega arith);
  gone = λ t apart le. absurd (omega arith);
}
settles b (e ∷ es) c replays all =
    let a = accepts b e.call all.0 in
    let s = settles (step b e.call).book es c replays.1 all.1 in
    record {
      keeps = s.keeps ∙ a.keeps;
      hands = (let r = ap handed_in replays.0 in let x = a.hands in let y = s.hands in omega arith);
      less = λ t. (let x = a.less t in let y = s.less t in omega arith);
      gone = λ t apart le. gone_by (tag_accept t e.call) (total (tag_accept t) es) (weigh (is_tag t) c.entries) (weigh (is_tag t) (step b e.call).book.entries) le
          (a.gone t apart) (s.less t)
          (s.gone t (λ u. (let x = a.less u in let y = apart u in omega arith)));
    }
