-- What workers do that take their turns by tickets, and what their history has.
use Rattle.std.specs.Prelude.{◌≡◌, ◌≢◌, ℕ, zero, suc, Bool, true, false, cond, ◌+◌, ◌<◌, ◌≤◌, ◌==◌, if◌then◌else◌, List, [], ◌∷◌, ◌++◌, map, length, slice_get, slice_index_or, Some, Result, Ok, refl}
use Rattle.std.proofs.Common.{arith, sym, ◌∙◌, ap, subst, inl, inr, eq-eqb, append-nil, append_assoc, lt_of_not-le}
use Rattle.std.proofs.lemmas.Bool.Decides.{nat_tests}
use Rattle.std.proofs.lemmas.Option.{slice_get_within}
use Rattle.std.specs.declared.alloc.AllocError.{AllocError}
use Rattle.amqp_delivery.specs.declared.calls.BookCall.{BookCall}
use Rattle.amqp_delivery.specs.declared.calls.BookCall.TheVariants.{Accept}
use Rattle.amqp_delivery.specs.declared.info.DeliveryInfo.{DeliveryInfo}
use Rattle.amqp_delivery.specs.declared.info.DisposerView.{DisposerView}
use Rattle.amqp_delivery.specs.Book.{Book, view_of}
use Rattle.atomic_table.specs.Seated.{TableId}
use Rattle.book_history.specs.History.{Event, Replays}
use Rattle.book_history.specs.Receipts.{IsOf, Stand}
use Rattle.book_history.specs.declared.entry.Receipt.{Receipt}
use Rattle.amqp_threads.specs.Seats as desk
use Rattle.book_lock.specs.Begins.{of_seat, IsAmong}
use Rattle.book_lock.specs.Seats.{Seat, Adds, Keeps, AllAt, AllHere, AllOwn, entries, new_seat, numbers_of}
use Rattle.amqp_disposers.specs.Work.{AllServe, Ran, total, calls_in, seats_in}
use Rattle.amqp_disposers.specs.Tickets.{plain, AcceptsOnce, TicketServes, TicketServesAt, EachTicketServes, AllTicketsServe}
use Rattle.amqp_disposers.proofs.Covering.{own, weight, seats_weight, hits, grows, Numbered, Covers, covers, seats_le}

-- ---- one call

calls_last : (rs : List Receipt) (r : Receipt) → calls_in (rs ++ r ∷ []) ≡ calls_in rs ++ r.entry.call ∷ []
calls_last [] r = refl
calls_last (x ∷ rs) r = ap (λ (cs : List BookCall). x.entry.call ∷ cs) (calls_last rs r)

seats_last : (rs : List Receipt) (r : Receipt) → seats_in (rs ++ r ∷ []) ≡ seats_in rs ++ r.entry.seat ∷ []
seats_last [] r = refl
seats_last (x ∷ rs) r = ap (λ (ns : List ℕ). x.entry.seat ∷ ns) (seats_last rs r)

pub keeps_same : (old : Seat) → Keeps old old
keeps_same old = record { number = refl; view = refl; table = refl; receipts = refl; front = ([], sym (append-nil old.front)) }

pub keeps_on : (old now new : Seat) → Keeps old now → Keeps now new → Keeps old new
keeps_on old now new k m = record {
  number = m.number ∙ k.number;
  view = m.view ∙ k.view;
  table = m.table ∙ k.table;
  receipts = m.receipts ∙ k.receipts;
  front = (k.front.0 ++ m.front.0, m.front.1 ∙ (ap (λ (es : List Event). es ++ m.front.0) k.front.1 ∙ append_assoc old.front k.front.0 m.front.0));
}

-- a seat that is as it was when it began, but for what it has seen, accepts a delivery
pub accepts_once : (old now new : Seat) (info : DeliveryInfo) (r : Receipt) → Keeps old now → Adds now new r → IsOf now.number (Accept now.view info) r → AcceptsOnce old info new
accepts_once old now new info r k a is = (
  a.number ∙ k.number,
  a.view ∙ k.view,
  a.table ∙ k.table,
  ap calls_in a.receipts ∙ (calls_last now.receipts r ∙ (ap (λ (rs : List Receipt). calls_in rs ++ r.entry.call ∷ []) k.receipts
      ∙ ap (λ (c : BookCall). calls_in old.receipts ++ c ∷ []) (is.1 ∙ ap (λ (v : DisposerView). Accept v info) k.view))),
  ap seats_in a.receipts ∙ (seats_last now.receipts r ∙ (ap (λ (rs : List Receipt). seats_in rs ++ r.entry.seat ∷ []) k.receipts
      ∙ ap (λ (n : ℕ). seats_in old.receipts ++ n ∷ []) (is.0 ∙ k.number))),
)

-- ---- what workers give back

abbrev pub oks : List Seat → List (Result Seat AllocError)
oks ts = map Ok ts

head_serves : (s t : Seat) (ss : List Seat) (infos : List DeliveryInfo) → TicketServesAt (s ∷ ss) infos 0 (Ok t) → TicketServes s infos t
head_serves s t ss infos at = subst (λ (x : Seat). TicketServes x infos t) (sym (at.seat_is s)) at.serves

each_served : (ss : List Seat) (infos : List DeliveryInfo) (ts : List Seat) → length (oks ts) ≡ length ss → ((i : ℕ) (d : Result Seat AllocError) → i < length ss → TicketServesAt ss infos i (slice_index_or (oks ts) i d)) → AllTicketsServe ss infos ts
each_served [] infos [] count each = tt
each_served [] infos (t ∷ ts) count each = absurd (omega arith)
each_served (s ∷ ss) infos [] count each = absurd (omega arith)
each_served (s ∷ ss) infos (t ∷ ts) count each = (
  head_serves s t ss infos (each 0 (Ok t) (omega arith)),
  each_served ss infos ts (omega arith) (λ i d lt. (let at = each (suc i) d (omega arith) in record { seat = at.seat; seat_is = at.seat_is; serves = at.serves })),
)

pub all_tickets_served : (ss : List Seat) (infos : List DeliveryInfo) (rs : List (Result Seat AllocError)) (ts : List Seat) → EachTicketServes ss infos rs → rs ≡ map Ok ts → AllTicketsServe ss infos ts
all_tickets_served ss infos rs ts each is = by (subst (λ (xs : List (Result Seat AllocError)). EachTicketServes ss infos xs) is each)
  where
    by : EachTicketServes ss infos (oks ts) → AllTicketsServe ss infos ts
    by e = each_served ss infos ts e.count e.each

-- ---- as seats of a desk with one lock

abbrev pub plains : List Seat → List desk.Seat
plains ss = map plain ss

all_plain : (ss : List Seat) (infos : List DeliveryInfo) (ts : List Seat) → AllTicketsServe ss infos ts → AllServe (plains ss) infos (plains ts)
all_plain [] infos [] all = tt
all_plain [] infos (t ∷ ts) all = absurd all
all_plain (s ∷ ss) infos [] all = absurd all
all_plain (s ∷ ss) infos (t ∷ ts) all = (all.0.serves, all_plain ss infos ts all.1)

plain_get : (ss : List Seat) (k : ℕ) (s : Seat) → slice_get ss k ≡ Some s → slice_get (plains ss) k ≡ Some (plain s)
plain_get [] k s at = absurd cc
plain_get (x ∷ ss) zero s at = let e : x ≡ s = cc in ap (λ (y : Seat). Some (plain y)) e
plain_get (x ∷ ss) (suc k) s at = plain_get ss k s at

plain_length : (ss : List Seat) → length (plains ss) ≡ length ss
plain_length [] = refl
plain_length (s ∷ ss) = let r = plain_length ss in omega arith

-- the receipts of each stand in the history
plain_stand : (h : List Event) (ts : List Seat) → AllOwn h ts → (k : ℕ) (s : desk.Seat) → slice_get (plains ts) k ≡ Some s → Stand 0 h s.receipts
plain_stand h [] all k s at = absurd cc
plain_stand h (t ∷ ts) all zero s at = let e : plain t ≡ s = cc in subst (λ (x : desk.Seat). Stand 0 h x.receipts) e all.0.stand
plain_stand h (t ∷ ts) all (suc k) s at = plain_stand h ts all.1 k s at

-- ---- the history has the calls of the seats and no others

abbrev pub each_one : BookCall → ℕ
each_one c = 1

own_length_at : (b : Bool) (e : Event) (n : ℕ) (es : List Event) → weight each_one n es ≡ length (of_seat n es) → (if b then 1 else 0) + weight each_one n es ≡ length (cond b (e ∷ of_seat n es) (of_seat n es))
own_length_at true e n es is = omega arith
own_length_at false e n es is = omega arith

-- the weight of a seat's calls, each counting one, is how many entries it has
weight_length : (n : ℕ) (h : List Event) → weight each_one n h ≡ length (of_seat n h)
weight_length n [] = refl
weight_length n (e ∷ es) = own_length_at (e.seat == n) e n es (weight_length n es)

entries_length : (rs : List Receipt) → length (entries rs) ≡ length rs
entries_length [] = refl
entries_length (r ∷ rs) = let i = entries_length rs in omega arith

-- the seats' calls together
calls_weight : (h : List Event) (ts : List Seat) → AllOwn h ts → seats_weight each_one (plains ts) h ≡ desk.calls_of (plains ts)
calls_weight h [] all = refl
calls_weight h (t ∷ ts) all =
    let a = calls_weight h ts all.1 in let b = weight_length t.number h in let c = ap (λ (es : List Event). length es) all.0.own in let d = entries_length t.receipts in omega arith

own_hits : (k : ℕ) (e : Event) → e.seat ≡ k → own each_one k e ≡ 1
own_hits k e is = grind (arith, nat_tests)

some_hit_at : (n : ℕ) (s : desk.Seat) (ss : List desk.Seat) (e : Event) → s.number ≡ n → n ≤ e.seat → (n + 1 ≤ e.seat → 1 ≤ hits each_one ss e) → (b : Bool) → (e.seat == n) ≡ b → 1 ≤ own each_one s.number e + hits each_one ss e
some_hit_at n s ss e at low rest true is =
    let same : e.seat ≡ n = grind (arith, nat_tests) in let a = own_hits s.number e (same ∙ sym at) in omega arith
some_hit_at n s ss e at low rest false is =
    let other : e.seat ≢ n = (λ q. absurd (let t : true ≡ false = sym (eq-eqb e.seat n q) ∙ is in cc)) in let r = rest (omega arith) in omega arith

-- an entry of one of these numbers counts for a seat
some_hit : (n : ℕ) (ss : List desk.Seat) (e : Event) → Numbered n ss → n ≤ e.seat → e.seat < n + length ss → 1 ≤ hits each_one ss e
some_hit n [] e of low high = absurd (omega arith)
some_hit n (s ∷ ss) e of low high = some_hit_at n s ss e of.0 low (λ more. some_hit (n + 1) ss e of.1 more (omega arith)) (e.seat == n) refl

-- no entry is of another number
strangers_head : (count : ℕ) (e : Event) (h : List Event) → ((n : ℕ) → count ≤ n → of_seat n (e ∷ h) ≡ []) → e.seat < count
strangers_head count e h none = by (e.seat) (λ le. let here = none e.seat le in let is = ap (λ (c : Bool). cond c (e ∷ of_seat e.seat h) (of_seat e.seat h)) (eq-eqb e.seat e.seat refl) in absurd (let x : e ∷ of_seat e.seat h ≡ [] = sym is ∙ here in cc))
  where
    by : (m : ℕ) → (count ≤ m → ⊥) → m < count
    by m small = lt_of_not-le small

strangers_tail_at : (b : Bool) (e : Event) (n : ℕ) (h : List Event) → cond b (e ∷ of_seat n h) (of_seat n h) ≡ [] → of_seat n h ≡ []
strangers_tail_at true e n h is = absurd cc
strangers_tail_at false e n h is = is

strangers_tail : (count : ℕ) (e : Event) (h : List Event) → ((n : ℕ) → count ≤ n → of_seat n (e ∷ h) ≡ []) → (n : ℕ) → count ≤ n → of_seat n h ≡ []
strangers_tail count e h none n far = strangers_tail_at (e.seat == n) e n h (none n far)

-- so the history is no longer than the seats' calls together
no_longer : (ts : List desk.Seat) (h : List Event) → Numbered 0 ts → ((n : ℕ) → length ts ≤ n → of_seat n h ≡ []) → length h ≤ seats_weight each_one ts h
no_longer ts [] of none = omega arith
no_longer ts (e ∷ es) of none =
    let a = no_longer ts es of (strangers_tail (length ts) e es none) in
    let b = some_hit 0 ts e of (omega arith) (let s = strangers_head (length ts) e es none in omega arith) in
    let c = grows each_one ts e es in omega arith

total_length : (h : List Event) → total each_one h ≡ length h
total_length [] = refl
total_length (e ∷ es) = let i = total_length es in omega arith

all_called : (h : List Event) (ts : List Seat) → Numbered 0 (plains ts) → AllOwn h ts → ((n : ℕ) → length ts ≤ n → of_seat n h ≡ []) → length h ≡ desk.calls_of (plains ts)
all_called h ts of all none =
    let l = plain_length ts in
    let a = no_longer (plains ts) h of (λ n far. none n (omega (arith, l, far))) in
    let b = seats_le each_one 0 (plains ts) h of in
    let c = total_length h in let d = calls_weight h ts all in omega arith

-- ---- what the desk needs, and gives back

-- what is known of the seats that are handed in
pub record TicketsServed (b : Book) (table : TableId) (m : ℕ) (infos : List DeliveryInfo) (ts : List Seat) : Type 0 where
  pub covers : Covers (view_of b 0) m infos (plains ts)
  pub numbered : Numbered 0 (plains ts)
  pub count : length ts ≡ m
  pub at : AllAt table ts
  pub here : AllHere m ts

tables : (table : TableId) (ss : List Seat) (infos : List DeliveryInfo) (ts : List Seat) → ((k : ℕ) (s : Seat) → slice_get ss k ≡ Some s → s.table ≡ table) → AllTicketsServe ss infos ts → AllAt table ts
tables table [] infos [] at all = tt
tables table [] infos (t ∷ ts) at all = absurd all
tables table (s ∷ ss) infos [] at all = absurd all
tables table (s ∷ ss) infos (t ∷ ts) at all = (all.0.table ∙ at 0 s refl, tables table ss infos ts (λ k x is. at (suc k) x is) all.1)

among : (n k : ℕ) (ts : List Seat) → Numbered k (plains ts) → k ≤ n → n < k + length ts → IsAmong n (numbers_of ts)
among n k [] of low high = absurd (omega arith)
among n k (t ∷ ts) of low high = by (λ more. among n (k + 1) ts of.1 more (omega arith)) (n == k) refl
  where
    by : (k + 1 ≤ n → IsAmong n (numbers_of ts)) → (b : Bool) → (n == k) ≡ b → IsAmong n (numbers_of (t ∷ ts))
    by rest true is = inl (of.0 ∙ (let same : k ≡ n = grind (arith, nat_tests) in same))
    by rest false is = let other : n ≢ k = (λ q. absurd (let x : true ≡ false = sym (eq-eqb n k q) ∙ is in cc)) in inr (rest (omega arith))

some_is : (s t : Seat) → Some s ≡ Some t → s ≡ t
some_is s t is = cc

pub at_of : (table : TableId) (view : DisposerView) (m : ℕ) (ss : List Seat) → length ss ≡ m → ((k : ℕ) → k < m → slice_get ss k ≡ Some (new_seat view k table)) → (k : ℕ) (s : Seat) → slice_get ss k ≡ Some s → s.table ≡ table
at_of table view m ss len news k s is =
    let lt = slice_get_within ss k s is in
    ap (λ (x : Seat). x.table) (some_is s (new_seat view k table) (sym is ∙ news k (omega (arith, lt, len))))

numbered_from : (table : TableId) (view : DisposerView) (n : ℕ) (ss : List Seat) (infos : List DeliveryInfo) (ts : List Seat) → ((k : ℕ) → k < length ss → slice_get ss k ≡ Some (new_seat view (n + k) table)) → AllTicketsServe ss infos ts → Numbered n (plains ts)
numbered_from table view n [] infos [] news all = tt
numbered_from table view n [] infos (t ∷ ts) news all = absurd all
numbered_from table view n (s ∷ ss) infos [] news all = absurd all
numbered_from table view n (s ∷ ss) infos (t ∷ ts) news all =
    let first = ap (λ (x : Seat). x.number) (some_is s (new_seat view (n + 0) table) (news 0 (omega arith))) in
    let shift : (k : ℕ) → n + suc k ≡ (n + 1) + k = λ k. omega arith in (
      omega (arith, all.0.serves.number, first),
      numbered_from table view (n + 1) ss infos ts (λ k lt. subst (λ (m : ℕ). slice_get ss k ≡ Some (new_seat view m table)) (shift k) (news (suc k) (omega arith))) all.1,
    )

served_length : (ss : List Seat) (infos : List DeliveryInfo) (ts : List Seat) → AllTicketsServe ss infos ts → length ts ≡ length ss
served_length [] infos [] all = refl
served_length [] infos (t ∷ ts) all = absurd all
served_length (s ∷ ss) infos [] all = absurd all
served_length (s ∷ ss) infos (t ∷ ts) all = let i = served_length ss infos ts all.1 in omega arith

plus : (k : ℕ) → k ≡ 0 + k
plus k = omega arith

pub tickets_served : (b : Book) (table : TableId) (m : ℕ) (infos : List DeliveryInfo) (ss ts : List Seat) → length ss ≡ m → ((k : ℕ) → k < m → slice_get ss k ≡ Some (new_seat (view_of b 0) k table)) → AllTicketsServe ss infos ts → TicketsServed b table m infos ts
tickets_served b table m infos ss ts len news all =
    let view = view_of b 0 in
    let numbered = numbered_from table view 0 ss infos ts (λ k lt. subst (λ (n : ℕ). slice_get ss k ≡ Some (new_seat view n table)) (plus k) (news k (omega (arith, lt, len)))) all in
    let count = served_length ss infos ts all ∙ len in
    record {
      covers = covers view m (plains ss) infos (plains ts) (plain_length ss ∙ len) (λ k lt. plain_get ss k (new_seat view k table) (news k lt)) (all_plain ss infos ts all);
      numbered = numbered;
      count = count;
      at = tables table ss infos ts (at_of table view m ss len news) all;
      here = λ n lt. among n 0 ts numbered (omega arith) (omega (arith, lt, count));
    }

-- what a ticket desk gives back was run by so many workers
pub turned : (b c : Book) (table : TableId) (m : ℕ) (infos : List DeliveryInfo) (ts : List Seat) (h : List Event) → TicketsServed b table m infos ts → Replays b h c → AllOwn h ts → ((n : ℕ) → m ≤ n → of_seat n h ≡ []) → Ran b infos m h c
turned b c table m infos ts h served replays all none = record {
  replays = replays;
  calls = all_called h ts served.numbered all (λ n far. none n (omega (arith, far, served.count))) ∙ served.covers.calls;
  covers = λ w. served.covers.weigh w h (λ k s at. plain_stand h ts all k s at);
}
