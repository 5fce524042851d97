-- No session writes more Transfers than the window of the other allows.
use Rattle.std.specs.Prelude.{◌≡◌, ◌⊎◌, ℕ, suc, ◌+◌, ◌-◌, ◌<◌, ◌≤◌, true, false, List, [], ◌∷◌, ◌++◌, length, All, Option, Some, unwrap_or, refl}
use Rattle.std.proofs.Common.{inl, inr, sym, ◌∙◌, ap, subst, arith}
use Rattle.std.proofs.lemmas.Bool.{cases_lt}
use Rattle.amqp_frames.specs.declared.body.FrameBody.{FrameBody}
use Rattle.amqp_parts.specs.declared.part.Part.{Part}
use Rattle.amqp_session.specs.declared.session.SessionState.{SessionState}
use Rattle.amqp_session.specs.State.{Framed}
use Rattle.amqp_session.specs.Windows.{minus, stamped, after as following}
use Rattle.session_laws.specs.Holding.{after_all, transfers}
use Rattle.window_laws.specs.Starting.{session_of, reads, writes, window, first_number}
use Rattle.window_laws.specs.Announcing.{Announces}
use Rattle.window_laws.specs.Counting.{number_at, count, InOrder, NamesNext, Numbers, ReportsWithin}
use Rattle.window_laws.specs.Keeping.{KeepsTheWindow, KeepsWhatItHears, IsNotBegin, WaitsForTheBegin}
use Rattle.window_laws.proofs.Walks.{View, is_mapped, Walks, counted, lives}
use Rattle.window_laws.proofs.Orders.{counted_all, order_first, order_both, Each, each_all, all_each}
use Rattle.window_laws.proofs.Announces.{announces_its_window}
use Rattle.window_laws.proofs.Counts.{plain_push, flow_push, transfer_push, next_number, first_is, numbers_its_transfers, reports_no_more}

-- ---- numbers

pub ahead : (first r w : ℕ) → r ≤ w → w - r < 4294967296 → minus (number_at first w) (number_at first r) ≡ w - r
ahead first r w le h = omega arith

-- a report of more than was written leaves no room
beyond : (first r w : ℕ) → w < r → r < 4294967296 → minus (number_at first w) (number_at first r) ≡ 4294967296 - (r - w)
beyond first r w l h = omega arith

pub ahead_room : (size most r w : ℕ) → r ≤ most → r ≤ w → w ≤ most + size → (size - (w - r)) + w ≤ most + size
ahead_room size most r w le h room = omega arith

beyond_room : (size most r w : ℕ) → most + size < 4294967296 → r ≤ most → w < r → w ≤ most + size → (size - (4294967296 - (r - w))) + w ≤ most + size
beyond_room size most r w few le h room = omega arith

-- whatever was reported, there is no more room than what is read at last and the window give
allowed : (first size most r w : ℕ) → most + size < 4294967296 → r ≤ most → w ≤ most + size → (size - minus (number_at first w) (number_at first r)) + w ≤ most + size
allowed first size most r w few le room = by (cases_lt w r)
  where
    by : (w < r) ⊎ (r ≤ w) → (size - minus (number_at first w) (number_at first r)) + w ≤ most + size
    by (inl h) = subst (λ (d : ℕ). (size - d) + w ≤ most + size) (sym (beyond first r w h (omega arith))) (beyond_room size most r w few le h room)
    by (inr h) = subst (λ (d : ℕ). (size - d) + w ≤ most + size) (sym (ahead first r w h (omega arith))) (ahead_room size most r w le h room)

-- ---- the end that writes Transfers

record Open (first size most n : ℕ) (v : View) : Type 0 where
  starts_at : v.windows.first_outgoing_id ≡ first
  next : v.windows.next_outgoing_id ≡ number_at first (counted 0 v.output)
  room : v.windows.allowance + counted 0 v.output ≤ most + size

-- what it hears: of a window of that size, and of Transfers that are no more than so many
abbrev Grants : ℕ → ℕ → ℕ → ℕ → FrameBody → Type 0
Grants first size most n x = Announces size x × ReportsWithin first most x

pub less_room : (a c m : ℕ) → a + c ≤ m → c ≤ m
less_room a c m h = omega arith

pub one_left : (a c m : ℕ) → 0 < a → a + c ≤ m → (a - 1) + (c + 1) ≤ m
one_left a c m p h = omega arith

flow_room : (first size most w n said from : ℕ) (o : Option ℕ) → most + size < 4294967296 → n ≡ number_at first w → said ≡ size → (r : ℕ) → r ≤ most → o ≡ Some (number_at first r) → w ≤ most + size → (said - minus n (unwrap_or o from)) + w ≤ most + size
flow_room first size most w n said from o few e f r le k h =
    subst (λ (m : ℕ). (said - minus m (unwrap_or o from)) + w ≤ most + size) (sym e)
    (subst (λ (m : ℕ). (m - minus (number_at first w) (unwrap_or o from)) + w ≤ most + size) (sym f)
    (subst (λ (p : Option ℕ). (size - minus (number_at first w) (unwrap_or p from)) + w ≤ most + size) (sym k) (allowed first size most r w few le h)))

begin_room : (first size most w n said from : ℕ) → first < 4294967296 → most + size < 4294967296 → n ≡ number_at first w → said ≡ size → from ≡ first → w ≤ most + size → (said - minus n from) + w ≤ most + size
begin_room first size most w n said from short few e f g h =
    subst (λ (m : ℕ). (said - minus m from) + w ≤ most + size) (sym e)
    (subst (λ (m : ℕ). (m - minus (number_at first w) from) + w ≤ most + size) (sym f)
    (subst (λ (m : ℕ). (size - minus (number_at first w) m) + w ≤ most + size) (sym (g ∙ first_is first short)) (allowed first size most 0 w few (omega arith) h)))

keeps : (first size most : ℕ) → first < 4294967296 → most + size < 4294967296 → Walks (Grants first size most) (Open first size most) (Open first size most)
keeps first size most short few = record {
  starts = λ n v h. h;
  drops = λ n v p e h. record { starts_at = h.starts_at; next = h.next; room = h.room };
  takes = λ n v e h. record { starts_at = h.starts_at; next = h.next; room = h.room };
  ends = λ n v p e h. record { starts_at = h.starts_at; next = h.next; room = h.room };
  says = λ n v x q h. (let e = sym (plain_push x v.output q) in record {
    starts_at = h.starts_at;
    next = h.next ∙ ap (λ (m : ℕ). number_at first m) e;
    room = subst (λ (m : ℕ). v.windows.allowance + m ≤ most + size) e h.room;
  });
  flows = λ n v channel x e h. record {
    starts_at = h.starts_at;
    next = h.next ∙ ap (λ (m : ℕ). number_at first m) (sym (flow_push v.output channel (stamped v.windows x)));
    room = subst (λ (m : ℕ). v.windows.allowance + m ≤ most + size) (sym (flow_push v.output channel (stamped v.windows x))) h.room;
  };
  leaves = λ n v channel c x payload p h. record {
    starts_at = h.starts_at;
    next = ap following h.next ∙ next_number first (counted 0 v.output) ∙ ap (λ (m : ℕ). number_at first m) (sym (transfer_push v.output channel x payload));
    room = subst (λ (m : ℕ). (v.windows.allowance - 1) + m ≤ most + size) (sym (transfer_push v.output channel x payload)) (one_left v.windows.allowance (counted 0 v.output) (most + size) p h.room);
  };
  begun = λ n v x k h. record {
    starts_at = h.starts_at;
    next = h.next;
    room = begin_room first size most (counted 0 v.output) v.windows.next_outgoing_id x.incoming_window v.windows.first_outgoing_id short few h.next k.0 h.starts_at (less_room v.windows.allowance (counted 0 v.output) (most + size) h.room);
  };
  flowed = λ n v x k e h. record {
    starts_at = h.starts_at;
    next = h.next;
    room = flow_room first size most (counted 0 v.output) v.windows.next_outgoing_id x.incoming_window v.windows.first_outgoing_id x.next_incoming_id few h.next k.0 k.1.0 k.1.1.0 k.1.1.1 (less_room v.windows.allowance (counted 0 v.output) (most + size) h.room);
  };
}

zero_within : (m : ℕ) → 0 ≤ m
zero_within m = omega arith

pub keeps_what_it_hears : KeepsWhatItHears
keeps_what_it_hears t ns size most short few announced reported =
    let first = first_number t in
    let known : InOrder (Grants first size most) 0 (reads t ns) =
    order_both (Each (Announces size)) (Each (ReportsWithin first most)) (Grants first size most) 0 (reads t ns) (λ m x h k. (h, k))
    (all_each (Announces size) 0 (reads t ns) announced) (all_each (ReportsWithin first most) 0 (reads t ns) reported) in
    let e = first_is first short in
    let h = lives (Grants first size most) (Open first size most) (keeps first size most short few) t ns (λ channel remote. record { starts_at = refl; next = e; room = zero_within (most + size) }) known in
    subst (λ (n : ℕ). n ≤ most + size) (counted_all (writes t ns)) (less_room (after_all (session_of t) ns).windows.allowance (counted 0 (writes t ns)) (most + size) h.room)

-- what holds of each frame that was written holds of those that are read
front_all : (P : FrameBody → Type 0) (xs later ys : List Framed) → xs ++ later ≡ ys → All (λ (x : Framed). P x.body) ys → All (λ (x : Framed). P x.body) xs
front_all P xs later ys e h = each_all P 0 xs (order_first (Each P) 0 xs later (subst (λ (zs : List Framed). InOrder (Each P) 0 zs) (sym e) (all_each P 0 ys h)))

pub keeps_the_window : KeepsTheWindow
keeps_the_window t ns u js p short few =
    let first = first_number t in
    let most = count (reads u js) in
    let numbers : Numbers first (reads u js) = order_first (NamesNext first) 0 (reads u js) p.unread (subst (λ (xs : List Framed). Numbers first xs) (sym p.hears) (numbers_its_transfers t ns short)) in
    keeps_what_it_hears t ns (window u) most short few
    (front_all (Announces (window u)) (reads t ns) p.unanswered (writes u js) p.answers (announces_its_window u js).announced)
    (front_all (ReportsWithin first most) (reads t ns) p.unanswered (writes u js) p.answers (reports_no_more u js first numbers))

-- ---- before a Begin

record Shut (n : ℕ) (v : View) : Type 0 where
  unmapped : is_mapped v.phase ≡ false
  spent : v.windows.allowance ≡ 0
  none : counted 0 v.output ≡ 0

mapped_not : (p : SessionState) → is_mapped p ≡ true → is_mapped p ≡ false → ⊥
mapped_not p e h = cc

spent_not : (a : ℕ) → 0 < a → a ≡ 0 → ⊥
spent_not a p h = omega arith

shuts : Walks (Each IsNotBegin) Shut Shut
shuts = record {
  starts = λ n v h. h;
  drops = λ n v p e h. record { unmapped = e; spent = h.spent; none = h.none };
  takes = λ n v e h. absurd (mapped_not v.phase e h.unmapped);
  ends = λ n v p e h. record { unmapped = e; spent = h.spent; none = h.none };
  says = λ n v x q h. record { unmapped = h.unmapped; spent = h.spent; none = plain_push x v.output q ∙ h.none };
  flows = λ n v channel x e h. absurd (mapped_not v.phase e h.unmapped);
  leaves = λ n v channel c x payload p h. absurd (spent_not v.windows.allowance p h.spent);
  begun = λ n v x k h. absurd k;
  flowed = λ n v x k e h. absurd (mapped_not v.phase e h.unmapped);
}

none_of : (xs : List Part) → length xs ≡ 0 → xs ≡ []
none_of [] h = refl
none_of (x ∷ xs) h = absurd (some (length xs) h)
  where
    some : (n : ℕ) → suc n ≡ 0 → ⊥
    some n e = omega arith

pub waits_for_the_begin : WaitsForTheBegin
waits_for_the_begin t ns h =
    let l = lives (Each IsNotBegin) Shut shuts t ns (λ channel remote. record { unmapped = refl; spent = refl; none = refl }) (all_each IsNotBegin 0 (reads t ns) h) in
    none_of (transfers (writes t ns)) (sym (counted_all (writes t ns)) ∙ l.none)
