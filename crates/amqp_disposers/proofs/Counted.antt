-- What a run counts.
use Rattle.std.specs.Prelude.{◌≡◌, ℕ, zero, suc, ◌*◌, ◌<◌, ◌≤◌, min, Bool, cond, List, [], ◌∷◌, length, refl}
use Rattle.std.proofs.Common.{arith, ◌∙◌, ap, suc-mul}
use Rattle.std.proofs.Math.Nat.{mul_comm, min-eq_left}
use Rattle.std.proofs.lemmas.List.Sums.{sum_by-cons}
use Rattle.amqp_delivery.specs.Book.{Book, view_of}
use Rattle.amqp_delivery.specs.declared.entry.Kept.{Kept}
use Rattle.book_history.specs.History.{Event}
use Rattle.book_history.specs.Counts.{accept_count, settled_in, settled_count}
use Rattle.book_history.specs.Weights.{weigh, is_tag, IsApart}
use Rattle.book_history.proofs.Weights.{own_tag, ones_length}
use Rattle.amqp_disposers.specs.Deliveries.{deliveries_below, registered_all, first_book}
use Rattle.amqp_disposers.specs.Work.{Ran, total, accepted_total}
use Rattle.amqp_disposers.specs.Counts.{IsCounted}
use Rattle.amqp_disposers.proofs.Settling.{first_accept, tag_accept, AllFirst, all_first, accepts_all, Settles, settles}
use Rattle.amqp_disposers.proofs.Tags.{tags_weight, tags_length, tags_accepted, count_below, one_each, Registered, registers, all_first_below}

none_left : (es : List (List ℕ × Kept)) → ((t : List ℕ) → weigh (is_tag t) es ≡ 0) → length es ≡ 0
none_left [] none = refl
none_left (e ∷ es) none =
    let c = sum_by-cons (λ (p : List ℕ × Kept). is_tag e.0 p.0) e es in
    let o : is_tag e.0 e.0 ≡ 1 = ap (λ (c : Bool). cond c 1 0) (own_tag e.0) in
    let z = none e.0 in absurd (omega arith)

some_times : (a b c : ℕ) → 0 < a → a * suc b ≤ c → 1 ≤ c
some_times zero b c some le = absurd (omega arith)
some_times (suc a) b c some le = omega (arith, suc-mul a (suc b))

-- a delivery of the tag is gone, or there was none
left_at : (workers n x y z : ℕ) → 0 < workers → x ≤ y → y ≡ n → (1 ≤ z → x ≡ 0) → workers * n ≤ z → x ≡ 0
left_at workers zero x y z some less is gone covers = omega arith
left_at workers (suc n) x y z some less is gone covers = gone (some_times workers n z some covers)

le_of : {a b c : ℕ} → a ≤ c → a ≡ b → b ≤ c
le_of le is = omega arith

module _ (count workers : ℕ) (h : List Event) (c : Book) (few : count < 4294967296) (some : 0 < workers) (ran : Ran (registered_all first_book (deliveries_below count)) (deliveries_below count) workers h c) where
  abbrev pub b : Book
  b = registered_all first_book (deliveries_below count)

  reg : Registered first_book (deliveries_below count) b
  reg = registers first_book (deliveries_below count) (λ t. (let o = one_each t count (omega arith) in omega arith))

  first : AllFirst h
  first =
      let n = all_first_below (view_of b 0) reg.mode count in
      let k = ran.covers first_accept in
      let e : workers * accepted_total first_accept (view_of b 0) (deliveries_below count) ≡ workers * count = ap (λ (m : ℕ). workers * m) n in
      let f : workers * length (deliveries_below count) ≡ workers * count = ap (λ (m : ℕ). workers * m) (count_below count) in
      all_first h (omega (arith, ran.calls, k, e, f))

  done : Settles b h c
  done = settles b h c ran.replays first

  apart : IsApart b.entries
  apart t = let w = reg.weight (is_tag t) in let o = one_each t count (omega arith) in omega arith

  none : (t : List ℕ) → weigh (is_tag t) c.entries ≡ 0
  none t =
      let w : weigh (is_tag t) b.entries ≡ tags_weight (is_tag t) (deliveries_below count) = (let r = reg.weight (is_tag t) in omega arith) in
      let k = ran.covers (tag_accept t) in
      let e : workers * accepted_total (tag_accept t) (view_of b 0) (deliveries_below count) ≡ workers * tags_weight (is_tag t) (deliveries_below count) = ap (λ (m : ℕ). workers * m) (tags_accepted t (view_of b 0) (deliveries_below count)) in
      left_at workers (tags_weight (is_tag t) (deliveries_below count)) (weigh (is_tag t) c.entries) (weigh (is_tag t) b.entries) (total (tag_accept t) h) some (done.less t) w (done.gone t apart) (le_of k e)

  all_settled : settled_in h c ≡ count
  all_settled =
      let k = done.keeps in
      let z = none_left c.entries none in
      let l : length b.entries ≡ count = (let r = reg.weight (λ t. 1) in let x = ones_length b.entries in let y = tags_length (deliveries_below count) in let z = count_below count in omega arith) in
      let o : settled_count b.orders ≡ 0 = ap settled_count reg.orders in
      let n = done.hands in
      omega arith

  all_called : accept_count h ≡ count * workers
  all_called =
      accepts_all h first ∙ (ran.calls ∙ (ap (λ (m : ℕ). workers * m) (count_below count) ∙ mul_comm workers count))

  pub is_counted : (calls settled : ℕ) → calls ≡ accept_count h → settled ≡ min (settled_in h c) 18446744073709551615 → IsCounted count workers calls settled
  is_counted calls settled accepts orders =
      let small : settled_in h c ≤ 18446744073709551615 = (let s = all_settled in omega arith) in
      let is : settled ≡ settled_in h c = orders ∙ min-eq_left small in
      record {
        history = h;
        left = c;
        replays = ran.replays;
        accepts = accepts;
        orders = is;
        each_call = accepts ∙ all_called;
        each_once = is ∙ all_settled;
      }
