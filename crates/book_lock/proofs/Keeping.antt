-- The steps keep the rule.
use Rattle.std.specs.Prelude.{◌≡◌, ◌≢◌, ℕ, zero, suc, ◌+◌, ◌<◌, ◌≤◌, ◌⊎◌, ◌==◌, Bool, true, false, List, [], ◌∷◌, ◌++◌, length, slice_index, Option, None, Some, refl}
use Rattle.std.proofs.Common.{arith, sym, ap, ◌∙◌, subst, inl, inr, ⊎_elim, append-nil, set}
use mathlib.Core.Option.{none, some, some-injective, some-ne-none}
use mathlib.Core.Option as maybe
use mathlib.Core.Logic.{dite}
use native.Mathlib.Decide.{ℕ_discrete}
use prog.Atomic.{either}
use lib.ListN.{get_elem?}
use Rattle.atomic_table.specs.Table.{State, Act, Me, Step, step, keeps, takes, gives, stepped, rest, Valid, Allows, Splits, Joins, carried_after, Final}
use Rattle.atomic_table.specs.Table as table
use Rattle.atomic_table.proofs.Lists.{at_set, set_else, at_longer, exchanged}
use Rattle.book_history.specs.History.{Event}
use Rattle.book_lock.specs.declared.rule.TicketView.{TicketView}
use Rattle.book_lock.specs.Tickets.{Held}
use Rattle.book_lock.specs.Begins.{Begins, of_seat, IsAmong, from, Follows}
use Rattle.book_lock.specs.Rule.{Fits, Home, Kept, IsMine, Learns, newcomer, informed, numbered, first_of, rest_of}
use Rattle.book_lock.specs.Calls.{IsOwnWork}
use Rattle.book_lock.proofs.Beginning.{whole, begins_more, among_left, among_either, from_least, two_begin, longer_is}
use Rattle.book_lock.specs.Plays.{waiting, in_turn, after_turn, seeing, having_met, Drawn, Looked, Advanced, Seen, Met}

set_there : {A : Type 0} (l : List A) (i : ℕ) (a b : A) → get_elem? l i ≡ some a → get_elem? (set l i b) i ≡ some b
set_there [] i a b at = absurd (some-ne-none a (sym at))
set_there (x ∷ xs) zero a b at = refl
set_there (x ∷ xs) (suc i) a b at = set_there xs i a b at

set_swap : {A : Type 0} (l : List A) (i j : ℕ) (a b : A) → j ≢ i → set (set l j b) i a ≡ set (set l i a) j b
set_swap [] i j a b ne = refl
set_swap (x ∷ xs) zero zero a b ne = absurd (ne refl)
set_swap (x ∷ xs) zero (suc j) a b ne = refl
set_swap (x ∷ xs) (suc i) zero a b ne = refl
set_swap (x ∷ xs) (suc i) (suc j) a b ne = ap (λ ys. x ∷ ys) (set_swap xs i j a b (λ e. ne (ap suc e)))

-- what stands in a list with one more is in the list, or is the one more
snoc_at : {A : Type 0} (l : List A) (a b : A) (j : ℕ) → get_elem? (l ++ a ∷ []) j ≡ some b → (get_elem? l j ≡ some b) ⊎ ((j ≡ length l) × (a ≡ b))
snoc_at [] a b zero e = inr (refl, some-injective a b e)
snoc_at [] a b (suc j) e = absurd (some-ne-none b (sym e))
snoc_at (x ∷ xs) a b zero e = inl e
snoc_at (x ∷ xs) a b (suc j) e = ⊎_elim (λ t. inl t) (λ t. inr (let h = t.0 in (omega arith, t.1))) (snoc_at xs a b j e)

not_true : (b : Bool) → (b ≡ true → ⊥) → b ≡ false
not_true true h = absurd (h refl)
not_true false h = refl

not_both : (b : Bool) → b ≡ false → b ≡ true → ⊥
not_both b f t = absurd (let e : false ≡ true = sym f ∙ t in cc)

-- a seat with no more numbers than it had is apart from the others
still_lone : (count : ℕ) (s : State (Option Held) TicketView) (k : Kept count s) (id : ℕ) (v w : TicketView) → get_elem? s.views id ≡ some v → ((n : ℕ) → IsMine n w → IsMine n v)
    → (j : ℕ) (b : TicketView) (n : ℕ) → j ≢ id → get_elem? s.views j ≡ some b → IsMine n w → IsMine n b → ⊥
still_lone count s k id v w at mine j b n ne bj mw mb = ne (sym (k.lone id j n v b at bj (mine n mw) mb))

-- numbers stay apart
lone_after : (count : ℕ) (s : State (Option Held) TicketView) (k : Kept count s) (id : ℕ) (w : TicketView) → ((j : ℕ) (b : TicketView) (n : ℕ) → j ≢ id → get_elem? s.views j ≡ some b → IsMine n w → IsMine n b → ⊥)
    → (i j n : ℕ) (a b : TicketView) → get_elem? (set s.views id w) i ≡ some a → get_elem? (set s.views id w) j ≡ some b → IsMine n a → IsMine n b → i ≡ j
lone_after count s k id w free i j n a b ai bj ma mb = by (at_set s.views id i w a ai) (at_set s.views id j w b bj)
  where
    by : (((i ≡ id) × (w ≡ a)) ⊎ ((i ≢ id) × (get_elem? s.views i ≡ some a))) → (((j ≡ id) × (w ≡ b)) ⊎ ((j ≢ id) × (get_elem? s.views j ≡ some b))) → i ≡ j
    by (inl p) (inl q) = p.0 ∙ sym q.0
    by (inl p) (inr q) = absurd (free j b n q.0 q.1 (subst (IsMine n) (sym p.1) ma) mb)
    by (inr p) (inl q) = absurd (free i a n p.0 p.1 (subst (IsMine n) (sym q.1) mb) ma)
    by (inr p) (inr q) = k.lone i j n a b p.1 q.1 ma mb

-- a seat may know something else, as long as it has no other turn, no number of another, and no ticket but its own or one that is
-- drawn now
unfoldable replaced : (count : ℕ) (s : State (Option Held) TicketView) (k : Kept count s) (id next : ℕ) (v w : TicketView) → get_elem? s.views id ≡ some v → k.next ≤ next → Fits count next k.serving k.log w → w.turn ≡ v.turn
    → (w.waits ≡ true → ((v.waits ≡ true) × (w.ticket ≡ v.ticket)) ⊎ (k.next ≤ w.ticket))
    → ((j : ℕ) (b : TicketView) (n : ℕ) → j ≢ id → get_elem? s.views j ≡ some b → IsMine n w → IsMine n b → ⊥)
    → (ws : List ℕ) → ws ≡ next ∷ k.serving ∷ [] → Kept count (record { words = ws; homes = s.homes; views = set s.views id w })
replaced count s k id next v w at more fits turn may free ws is = record {
  next = next;
  serving = k.serving;
  log = k.log;
  words = is;
  few = (let f = k.few in omega arith);
  short = k.short;
  strangers = k.strangers;
  each = λ i x a. each' i x (at_set s.views id i w x a);
  apart = λ i j a b ai bj aw bw e. apart' i j a b (at_set s.views id i w a ai) (at_set s.views id j w b bj) aw bw e;
  lone = lone_after count s k id w free;
  home = home' k.home;
}
  where
    wider : (x : TicketView) → Fits count k.next k.serving k.log x → Fits count next k.serving k.log x
    wider x f = record { learns = f.learns; below = f.below; drawn = λ t. (let d = f.drawn t in (d.0, omega (arith, d.1, more))); turn = f.turn }

    each' : (i : ℕ) (x : TicketView) → (((i ≡ id) × (w ≡ x)) ⊎ ((i ≢ id) × (get_elem? s.views i ≡ some x))) → Fits count next k.serving k.log x
    each' i x (inl p) = subst (Fits count next k.serving k.log) p.1 fits
    each' i x (inr p) = wider x (k.each i x p.1)

    -- another seat's ticket is not this one's
    other : (i : ℕ) (x : TicketView) → i ≢ id → get_elem? s.views i ≡ some x → x.waits ≡ true → w.waits ≡ true → x.ticket ≡ w.ticket → ⊥
    other i x ne ai xw ww e = by (may ww)
      where
        by : (((v.waits ≡ true) × (w.ticket ≡ v.ticket)) ⊎ (k.next ≤ w.ticket)) → ⊥
        by (inl p) = ne (k.apart i id x v ai at xw p.0 (e ∙ p.1))
        by (inr p) = absurd (let d = (k.each i x ai).drawn xw in omega (arith, d.1, p, e))

    apart' : (i j : ℕ) (a b : TicketView) → (((i ≡ id) × (w ≡ a)) ⊎ ((i ≢ id) × (get_elem? s.views i ≡ some a))) → (((j ≡ id) × (w ≡ b)) ⊎ ((j ≢ id) × (get_elem? s.views j ≡ some b))) → a.waits ≡ true → b.waits ≡ true → a.ticket ≡ b.ticket → i ≡ j
    apart' i j a b (inl p) (inl q) aw bw e = p.0 ∙ sym q.0
    apart' i j a b (inl p) (inr q) aw bw e = absurd (other j b q.0 q.1 bw (ap (λ (y : TicketView). y.waits) p.1 ∙ aw) (sym e ∙ sym (ap (λ (y : TicketView). y.ticket) p.1)))
    apart' i j a b (inr p) (inl q) aw bw e = absurd (other i a p.0 p.1 aw (ap (λ (y : TicketView). y.waits) q.1 ∙ bw) (e ∙ sym (ap (λ (y : TicketView). y.ticket) q.1)))
    apart' i j a b (inr p) (inr q) aw bw e = k.apart i j a b p.1 q.1 aw bw e

    still : (h : (i : ℕ) (x : TicketView) → get_elem? s.views i ≡ some x → x.turn ≡ false) (i : ℕ) (x : TicketView) → (((i ≡ id) × (w ≡ x)) ⊎ ((i ≢ id) × (get_elem? s.views i ≡ some x))) → x.turn ≡ false
    still h i x (inl p) = sym (ap (λ (y : TicketView). y.turn) p.1) ∙ (turn ∙ h id v at)
    still h i x (inr p) = h i x p.1

    home' : Home s.homes s.views k.log → Home s.homes (set s.views id w) k.log
    home' (inl h) = inl (h.0, h.1, h.2, λ i x a. still h.3 i x (at_set s.views id i w x a))
    home' (inr h) = inr (h.0, holder h.1.0 h.1.1 h.1.2 h.1.3 (same h.1.0))
      where
        same : (i : ℕ) → (i ≡ id) ⊎ (i ≢ id)
        same i = dite (ℕ_discrete i id) (λ e. inl e) (λ n. inr n)

        holder : (i : ℕ) (x : TicketView) → get_elem? s.views i ≡ some x → x.turn ≡ true → ((i ≡ id) ⊎ (i ≢ id)) → (i : ℕ) × (x : TicketView) × (get_elem? (set s.views id w) i ≡ some x) × (x.turn ≡ true)
        holder i x ai t (inl p) =
            let e : v ≡ x = some-injective v x (sym at ∙ (ap (λ (n : ℕ). get_elem? s.views n) (sym p) ∙ ai)) in
            (id, w, set_there s.views id v w at, turn ∙ (ap (λ (y : TicketView). y.turn) e ∙ t))
        holder i x ai t (inr p) = (i, x, set_else s.views id i w p ∙ ai, t)

-- ---- on the first word: drawing, seeing, and seats that are made and told

first_word : (count : ℕ) (s : State (Option Held) TicketView) (k : Kept count s) → slice_index s.words 0 ≡ k.next
first_word count s k = ap (λ (ws : List ℕ). slice_index ws 0) k.words

second_word : (count : ℕ) (s : State (Option Held) TicketView) (k : Kept count s) → slice_index s.words 1 ≡ k.serving
second_word count s k = ap (λ (ws : List ℕ). slice_index ws 1) k.words

first_set : (count : ℕ) (s : State (Option Held) TicketView) (k : Kept count s) (n m : ℕ) → n ≡ m → set s.words 0 n ≡ m ∷ k.serving ∷ []
first_set count s k n m is = ap (λ (ws : List ℕ). set ws 0 n) k.words ∙ ap (λ (x : ℕ). x ∷ k.serving ∷ []) is

second_set : (count : ℕ) (s : State (Option Held) TicketView) (k : Kept count s) (n m : ℕ) → n ≡ m → set s.words 1 n ≡ k.next ∷ m ∷ []
second_set count s k n m is = ap (λ (ws : List ℕ). set ws 1 n) k.words ∙ ap (λ (x : ℕ). k.next ∷ x ∷ []) is

pub draw_allows : (count slots id old new : ℕ) (me : Me (Option Held) TicketView) → me.0.waits ≡ false → me.0.turn ≡ false → new ≡ old + 1
    → Allows (Kept count) slots id me 0 (λ n. either (n == old) new n) (Drawn (step slots 0 old new none) me)
draw_allows count slots id old new me idle no_turn more s k len at small =
    exchanged (slice_index s.words 0) old new (λ m. (w : TicketView) × (a : Act (Option Held)) × Valid s.homes me.1 a × Kept count (stepped s 0 m id me.1 w a) × Drawn (step slots 0 old new none) me (slice_index s.words 0) (w, carried_after me.1 a)) hit miss
  where
    f : Fits count k.next k.serving k.log me.0
    f = k.each id me.0 at

    hit : slice_index s.words 0 ≡ old → (w : TicketView) × (a : Act (Option Held)) × Valid s.homes me.1 a × Kept count (stepped s 0 new id me.1 w a) × Drawn (step slots 0 old new none) me (slice_index s.words 0) (w, carried_after me.1 a)
    hit is =
        let n = first_word count s k in
        let e : slice_index s.words 0 ≡ k.next = n in
        let kept = replaced count s k id (k.next + 1) me.0 (waiting me.0 (slice_index s.words 0)) at (omega arith)
        (record { learns = f.learns; below = f.below; drawn = λ t. (let w = k.few in omega (arith, e, w)); turn = λ t. absurd cc })
        (sym no_turn) (λ t. inr (omega (arith, e))) (still_lone count s k id me.0 (waiting me.0 (slice_index s.words 0)) at (λ n m. m)) (set s.words 0 new) (first_set count s k new (k.next + 1) (omega (arith, more, is, e))) in
        (waiting me.0 (slice_index s.words 0), keeps, tt, kept, ((λ h. refl), (λ h. absurd (h is))))

    miss : slice_index s.words 0 ≢ old → (w : TicketView) × (a : Act (Option Held)) × Valid s.homes me.1 a × Kept count (stepped s 0 (slice_index s.words 0) id me.1 w a) × Drawn (step slots 0 old new none) me (slice_index s.words 0) (w, carried_after me.1 a)
    miss is =
        let kept = replaced count s k id k.next me.0 me.0 at (omega arith) f refl (λ t. inl (t, refl)) (still_lone count s k id me.0 me.0 at (λ n m. m)) (set s.words 0 (slice_index s.words 0)) (first_set count s k (slice_index s.words 0) k.next (first_word count s k)) in
        (me.0, keeps, tt, kept, ((λ h. absurd (is h)), (λ h. refl)))

-- the numbers of a seat that sees are those that it has and was told of
seeing_mine : (n : ℕ) (v : TicketView) (log : List Event) → IsMine n (seeing v log) → IsMine n v
seeing_mine n v log (inl a) = among_either n v.numbers v.told_numbers a
seeing_mine n v log (inr a) = absurd a

pub see_allows : (count slots id : ℕ) (me : Me (Option Held) TicketView) → Allows (Kept count) slots id me 0 (λ n. n) (Seen (step slots 0 0 0 none) me)
see_allows count slots id me s k len at small =
    let f = k.each id me.0 at in
    let kept = replaced count s k id k.next me.0 (seeing me.0 k.log) at (omega arith)
    (record {
      learns = (whole k.log, (k.log, refl), (λ n a. refl), (λ n a. absurd a));
      below = λ n m. f.below n (seeing_mine n me.0 k.log m);
      drawn = f.drawn;
      turn = λ t. (let g = f.turn t in (g.0, g.1, refl, (g.3.0, among_left g.3.0 me.0.numbers me.0.told_numbers g.3.1)));
    })
    refl (λ t. inl (t, refl)) (still_lone count s k id me.0 (seeing me.0 k.log) at (λ n m. seeing_mine n me.0 k.log m)) (set s.words 0 (slice_index s.words 0)) (first_set count s k (slice_index s.words 0) k.next (first_word count s k)) in
    (seeing me.0 k.log, keeps, tt, kept, (k.log, f.learns, refl))

pub meet_allows : (count slots id : ℕ) (me : Me (Option Held) TicketView) → me.0.turn ≡ false → Allows (Kept count) slots id me 0 (λ n. n) (Met (step slots 0 0 0 none) me)
meet_allows count slots id me no_turn s k len at small =
    let f = k.each id me.0 at in
    let two = two_begin me.0.front me.0.told k.log f.learns.0 f.learns.1 in
    let l = longer_is me.0.front me.0.told k.log me.0.numbers me.0.told_numbers two (f.learns.0, f.learns.2) (f.learns.1, f.learns.3) in
    let kept = replaced count s k id k.next me.0 (having_met me.0) at (omega arith)
    (record {
      learns = (l.begins, (k.log, refl), (λ n a. ⊎_elim (λ b. l.own n b) (λ b. l.others n b) (among_either n me.0.numbers me.0.told_numbers a)), (λ n a. absurd a));
      below = λ n m. f.below n (seeing_mine n me.0 k.log m);
      drawn = f.drawn;
      turn = λ t. absurd (not_both me.0.turn no_turn t);
    })
    refl (λ t. inl (t, refl)) (still_lone count s k id me.0 (having_met me.0) at (λ n m. seeing_mine n me.0 k.log m)) (set s.words 0 (slice_index s.words 0)) (first_set count s k (slice_index s.words 0) k.next (first_word count s k)) in
    (having_met me.0, keeps, tt, kept, (two, l.first, l.second, refl))

-- a seat is made whose numbers are of no other
added : (count : ℕ) (s : State (Option Held) TicketView) (k : Kept count s) (x : TicketView) → Fits count k.next k.serving k.log x → x.waits ≡ false → x.turn ≡ false
    → ((j : ℕ) (b : TicketView) (n : ℕ) → get_elem? s.views j ≡ some b → IsMine n b → IsMine n x → ⊥) → Kept count (record { words = s.words; homes = s.homes; views = s.views ++ x ∷ [] })
added count s k x fits idle no_turn free = record {
  next = k.next;
  serving = k.serving;
  log = k.log;
  words = k.words;
  few = k.few;
  short = k.short;
  strangers = k.strangers;
  each = λ i y a. each' i y (snoc_at s.views x y i a);
  apart = λ i j a b ai bj aw bw e. apart' i j a b (snoc_at s.views x a i ai) (snoc_at s.views x b j bj) aw bw e;
  lone = λ i j n a b ai bj ma mb. lone' i j n a b (snoc_at s.views x a i ai) (snoc_at s.views x b j bj) ma mb;
  home = home' k.home;
}
  where
    each' : (i : ℕ) (y : TicketView) → ((get_elem? s.views i ≡ some y) ⊎ ((i ≡ length s.views) × (x ≡ y))) → Fits count k.next k.serving k.log y
    each' i y (inl p) = k.each i y p
    each' i y (inr p) = subst (Fits count k.next k.serving k.log) p.1 fits

    apart' : (i j : ℕ) (a b : TicketView) → ((get_elem? s.views i ≡ some a) ⊎ ((i ≡ length s.views) × (x ≡ a))) → ((get_elem? s.views j ≡ some b) ⊎ ((j ≡ length s.views) × (x ≡ b))) → a.waits ≡ true → b.waits ≡ true → a.ticket ≡ b.ticket → i ≡ j
    apart' i j a b (inl p) (inl q) aw bw e = k.apart i j a b p q aw bw e
    apart' i j a b (inr p) q aw bw e = absurd (not_both a.waits (sym (ap (λ (y : TicketView). y.waits) p.1) ∙ idle) aw)
    apart' i j a b (inl p) (inr q) aw bw e = absurd (not_both b.waits (sym (ap (λ (y : TicketView). y.waits) q.1) ∙ idle) bw)

    lone' : (i j n : ℕ) (a b : TicketView) → ((get_elem? s.views i ≡ some a) ⊎ ((i ≡ length s.views) × (x ≡ a))) → ((get_elem? s.views j ≡ some b) ⊎ ((j ≡ length s.views) × (x ≡ b))) → IsMine n a → IsMine n b → i ≡ j
    lone' i j n a b (inl p) (inl q) ma mb = k.lone i j n a b p q ma mb
    lone' i j n a b (inl p) (inr q) ma mb = absurd (free i a n p ma (subst (IsMine n) (sym q.1) mb))
    lone' i j n a b (inr p) (inl q) ma mb = absurd (free j b n q mb (subst (IsMine n) (sym p.1) ma))
    lone' i j n a b (inr p) (inr q) ma mb = p.0 ∙ sym q.0

    still : (h : (i : ℕ) (y : TicketView) → get_elem? s.views i ≡ some y → y.turn ≡ false) (i : ℕ) (y : TicketView) → ((get_elem? s.views i ≡ some y) ⊎ ((i ≡ length s.views) × (x ≡ y))) → y.turn ≡ false
    still h i y (inl p) = h i y p
    still h i y (inr p) = sym (ap (λ (z : TicketView). z.turn) p.1) ∙ no_turn

    home' : Home s.homes s.views k.log → Home s.homes (s.views ++ x ∷ []) k.log
    home' (inl h) = inl (h.0, h.1, h.2, λ i y a. still h.3 i y (snoc_at s.views x y i a))
    home' (inr h) = inr (h.0, (h.1.0, h.1.1, at_longer s.views (x ∷ []) h.1.0 h.1.1 h.1.2, h.1.3))

-- a seat is cut in two, each with some of its numbers
cut : (count id : ℕ) (v : TicketView) (ls rs : List ℕ) → v.turn ≡ false → ((n : ℕ) → IsAmong n ls → IsAmong n v.numbers) → ((n : ℕ) → IsAmong n rs → IsAmong n v.numbers)
    → ((n : ℕ) → IsMine n (numbered v ls) → IsAmong n rs → ⊥) → Splits (Kept count) id v (numbered v ls) (newcomer v.front rs)
unfolding replaced
cut count id v ls rs no_turn left right two s k at = added count one_state one (newcomer v.front rs)
    (record { learns = (f.learns.0, (k.log, refl), (λ n a. f.learns.2 n (right n a)), (λ n a. absurd a)); below = λ n m. f.below n (mine n m); drawn = λ t. absurd cc; turn = λ t. absurd cc }) refl refl free
  where
    f : Fits count k.next k.serving k.log v
    f = k.each id v at

    mine : (n : ℕ) → IsMine n (newcomer v.front rs) → IsMine n v
    mine n (inl a) = inl (right n a)
    mine n (inr a) = absurd a

    kept_mine : (n : ℕ) → IsMine n (numbered v ls) → IsMine n v
    kept_mine n (inl a) = inl (left n a)
    kept_mine n (inr a) = inr a

    one_state : State (Option Held) TicketView
    one_state = record { words = s.words; homes = s.homes; views = set s.views id (numbered v ls) }

    one : Kept count one_state
    one = replaced count s k id k.next v (numbered v ls) at (omega arith)
        (record { learns = (f.learns.0, f.learns.1, (λ n a. f.learns.2 n (left n a)), f.learns.3); below = λ n m. f.below n (kept_mine n m); drawn = f.drawn; turn = λ t. absurd (not_both v.turn no_turn t) })
        refl (λ t. inl (t, refl)) (still_lone count s k id v (numbered v ls) at kept_mine) s.words k.words

    free : (j : ℕ) (b : TicketView) (n : ℕ) → get_elem? (set s.views id (numbered v ls)) j ≡ some b → IsMine n b → IsMine n (newcomer v.front rs) → ⊥
    free j b n bj mb (inr a) = a
    free j b n bj mb (inl a) = by (at_set s.views id j (numbered v ls) b bj)
      where
        by : (((j ≡ id) × (numbered v ls ≡ b)) ⊎ ((j ≢ id) × (get_elem? s.views j ≡ some b))) → ⊥
        by (inl p) = two n (subst (IsMine n) (sym p.1) mb) a
        by (inr p) = p.0 (k.lone j id n b v p.1 at mb (inl (right n a)))

rest_within : (n : ℕ) (ns : List ℕ) → IsAmong n (rest_of ns) → IsAmong n ns
rest_within n [] a = a
rest_within n (m ∷ ms) a = inr a

first_within : (n : ℕ) (ns : List ℕ) → IsAmong n (first_of ns) → IsAmong n ns
first_within n [] a = a
first_within n (m ∷ ms) (inl e) = inl e
first_within n (m ∷ ms) (inr a) = absurd a

-- the first of numbers that rise is not among the others
first_apart : (n k m : ℕ) → IsAmong n (rest_of (from k m)) → IsAmong n (first_of (from k m)) → ⊥
first_apart n k zero a b = a
first_apart n k (suc m) a (inl e) = absurd (let l = from_least n (k + 1) m a in omega (arith, e))
first_apart n k (suc m) a (inr b) = b

-- a seat takes the first number
pub split_allows : (count id : ℕ) (v : TicketView) → v.turn ≡ false → (k m : ℕ) → v.numbers ≡ from k m → v.told_numbers ≡ [] → Splits (Kept count) id v (numbered v (rest_of v.numbers)) (newcomer v.front (first_of v.numbers))
split_allows count id v no_turn k m is told = cut count id v (rest_of v.numbers) (first_of v.numbers) no_turn (λ n a. rest_within n v.numbers a) (λ n a. first_within n v.numbers a) two
  where
    two : (n : ℕ) → IsMine n (numbered v (rest_of v.numbers)) → IsAmong n (first_of v.numbers) → ⊥
    two n (inl a) b = first_apart n k m (subst (λ (ns : List ℕ). IsAmong n (rest_of ns)) is a) (subst (λ (ns : List ℕ). IsAmong n (first_of ns)) is b)
    two n (inr a) b = subst (IsAmong n) told a

-- a note has no number
pub copy_allows : (count id : ℕ) (v : TicketView) → v.turn ≡ false → Splits (Kept count) id v (numbered v v.numbers) (newcomer v.front [])
copy_allows count id v no_turn = cut count id v v.numbers [] no_turn (λ n a. a) (λ n a. absurd a) (λ n m a. a)

none_mine : (n : ℕ) → IsMine n (newcomer [] []) → ⊥
none_mine n (inl a) = a
none_mine n (inr a) = a

-- a seat in no turn may know nothing more
spend : (count : ℕ) (s : State (Option Held) TicketView) (k : Kept count s) (other : ℕ) (w : TicketView) → get_elem? s.views other ≡ some w → w.turn ≡ false
    → (one : Kept count (record { words = s.words; homes = s.homes; views = set s.views other (newcomer [] []) })) × (one.next ≡ k.next) × (one.serving ≡ k.serving) × (one.log ≡ k.log)
unfolding replaced
spend count s k other w near idle = (
  replaced count s k other k.next w (newcomer [] []) near (omega arith)
      (record { learns = ((k.log, refl), (k.log, refl), (λ n a. absurd a), (λ n a. absurd a)); below = λ n m. absurd (none_mine n m); drawn = λ t. absurd cc; turn = λ t. absurd cc })
      (sym idle) (λ t. absurd cc) (λ j b n ne bj mw mb. none_mine n mw) s.words k.words,
  refl,
  refl,
  refl,
)

moved : (count n n' m m' : ℕ) (l l' : List Event) (x : TicketView) → n' ≡ n → m' ≡ m → l' ≡ l → Fits count n m l x → Fits count n' m' l' x
moved count n n' m m' l l' x a b c f =
    subst (λ (y : ℕ). Fits count y m' l' x) (sym a) (subst (λ (y : ℕ). Fits count n y l' x) (sym b) (subst (λ (y : List Event). Fits count n m y x) (sym c) f))

-- a seat is told what another has seen, which is spent
pub join_allows : (count id other : ℕ) (v w : TicketView) → v.turn ≡ false → w.turn ≡ false → Joins (Kept count) id v other w (informed v w) (newcomer [] [])
join_allows count id other v w no_turn idle s k at apart there =
    subst (λ (vs : List TicketView). Kept count (record { words = s.words; homes = s.homes; views = vs })) (set_swap s.views id other (informed v w) (newcomer [] []) apart) (two (spend count s k other w near idle))
  where
    near : get_elem? s.views other ≡ some w
    near = sym (set_else s.views id other (informed v w) apart) ∙ there

    f : Fits count k.next k.serving k.log v
    f = k.each id v at

    g : Fits count k.next k.serving k.log w
    g = k.each other w near

    below : (n : ℕ) → IsMine n (informed v w) → n < count
    below n (inl a) = f.below n (inl a)
    below n (inr a) = g.below n (inl a)

    fits : Fits count k.next k.serving k.log (informed v w)
    fits = record { learns = (f.learns.0, g.learns.0, f.learns.2, g.learns.2); below = below; drawn = f.drawn; turn = λ t. absurd (not_both v.turn no_turn t) }

    free : (j : ℕ) (b : TicketView) (n : ℕ) → j ≢ id → get_elem? (set s.views other (newcomer [] [])) j ≡ some b → IsMine n (informed v w) → IsMine n b → ⊥
    free j b n ne bj mine mb = by (at_set s.views other j (newcomer [] []) b bj) mine
      where
        by : (((j ≡ other) × (newcomer [] [] ≡ b)) ⊎ ((j ≢ other) × (get_elem? s.views j ≡ some b))) → IsMine n (informed v w) → ⊥
        by (inl p) m = none_mine n (subst (IsMine n) (sym p.1) mb)
        by (inr p) (inl a) = ne (k.lone j id n b v p.1 at mb (inl a))
        by (inr p) (inr a) = p.0 (k.lone j other n b w p.1 near mb (inl a))

    two : ((one : Kept count (record { words = s.words; homes = s.homes; views = set s.views other (newcomer [] []) })) × (one.next ≡ k.next) × (one.serving ≡ k.serving) × (one.log ≡ k.log))
        → Kept count (record { words = s.words; homes = s.homes; views = set (set s.views other (newcomer [] [])) id (informed v w) })
    two o = replaced count (record { words = s.words; homes = s.homes; views = set s.views other (newcomer [] []) }) o.0 id o.0.next v (informed v w)
        (set_else s.views other id (newcomer [] []) (λ e. apart (sym e)) ∙ at) (omega arith)
        (moved count k.next o.0.next k.serving o.0.serving k.log o.0.log (informed v w) o.1 o.2 o.3 fits) refl (λ t. inl (t, refl)) free s.words o.0.words

-- ---- on the second word: the turn begins, and ends

one_view : (count : ℕ) (s : State (Option Held) TicketView) (k : Kept count s) (i j : ℕ) (v w : TicketView) → get_elem? s.views i ≡ some v → get_elem? s.views j ≡ some w → v.waits ≡ true → w.waits ≡ true → v.ticket ≡ w.ticket → v ≡ w
one_view count s k i j v w a b vw ww e = let same = k.apart i j v w a b vw ww e in some-injective v w (sym a ∙ (ap (λ (n : ℕ). get_elem? s.views n) same ∙ b))

-- where a view changes and keeps its ticket, tickets stay apart
apart_after : (count : ℕ) (s : State (Option Held) TicketView) (k : Kept count s) (id : ℕ) (v x : TicketView) → get_elem? s.views id ≡ some v → (x.waits ≡ true → v.waits ≡ true) → x.ticket ≡ v.ticket
    → (i j : ℕ) (a b : TicketView) → get_elem? (set s.views id x) i ≡ some a → get_elem? (set s.views id x) j ≡ some b → a.waits ≡ true → b.waits ≡ true → a.ticket ≡ b.ticket → i ≡ j
apart_after count s k id v x at may same i j a b ai bj aw bw e = by (at_set s.views id i x a ai) (at_set s.views id j x b bj)
  where
    by : (((i ≡ id) × (x ≡ a)) ⊎ ((i ≢ id) × (get_elem? s.views i ≡ some a))) → (((j ≡ id) × (x ≡ b)) ⊎ ((j ≢ id) × (get_elem? s.views j ≡ some b))) → i ≡ j
    by (inl p) (inl q) = p.0 ∙ sym q.0
    by (inl p) (inr q) = p.0 ∙ k.apart id j v b at q.1 (may (ap (λ (y : TicketView). y.waits) p.1 ∙ aw)) bw (sym same ∙ (ap (λ (y : TicketView). y.ticket) p.1 ∙ e))
    by (inr p) (inl q) = k.apart i id a v p.1 at aw (may (ap (λ (y : TicketView). y.waits) q.1 ∙ bw)) (e ∙ (sym (ap (λ (y : TicketView). y.ticket) q.1) ∙ same)) ∙ sym q.0
    by (inr p) (inr q) = k.apart i j a b p.1 q.1 aw bw e

-- the seat whose ticket is served finds the book at home
look_takes : (count : ℕ) (s : State (Option Held) TicketView) (k : Kept count s) (id : ℕ) (v : TicketView) (ws : List ℕ) → get_elem? s.views id ≡ some v → v.waits ≡ true → v.turn ≡ false → ((n : ℕ) × IsAmong n v.numbers) → k.serving ≡ v.ticket → ws ≡ k.next ∷ k.serving ∷ []
    → (x : Held) × (s.homes ≡ some (Some x) ∷ []) × (x.history ≡ k.log) × Kept count (record { words = ws; homes = none ∷ []; views = set s.views id (in_turn v x.history) })
look_takes count s k id v ws at waits not_yet has mine is = by k.home
  where
    by : Home s.homes s.views k.log → (x : Held) × (s.homes ≡ some (Some x) ∷ []) × (x.history ≡ k.log) × Kept count (record { words = ws; homes = none ∷ []; views = set s.views id (in_turn v x.history) })
    by (inl h) = (
      h.0,
      h.1,
      h.2,
      record {
        next = k.next;
        serving = k.serving;
        log = k.log;
        words = is;
        few = k.few;
        short = k.short;
        strangers = k.strangers;
        each = λ i w a. each' i w (at_set s.views id i (in_turn v h.0.history) w a);
        apart = apart_after count s k id v (in_turn v h.0.history) at (λ t. t) refl;
        lone = lone_after count s k id (in_turn v h.0.history) (still_lone count s k id v (in_turn v h.0.history) at (λ n m. m));
        home = inr (refl, (id, in_turn v h.0.history, set_there s.views id v (in_turn v h.0.history) at, refl));
      },
    )
      where
        f : Fits count k.next k.serving k.log v
        f = k.each id v at

        each' : (i : ℕ) (w : TicketView) → (((i ≡ id) × (in_turn v h.0.history ≡ w)) ⊎ ((i ≢ id) × (get_elem? s.views i ≡ some w))) → Fits count k.next k.serving k.log w
        each' i w (inl p) = subst (Fits count k.next k.serving k.log) p.1 (record {
          learns = (([], sym h.2 ∙ sym (append-nil h.0.history)), f.learns.1, (λ n a. ap (of_seat n) (sym h.2)), f.learns.3);
          below = f.below;
          drawn = f.drawn;
          turn = λ t. (waits, sym mine, h.2, has);
        })
        each' i w (inr p) = k.each i w p.1
    by (inr h) =
        let w = h.1.1 in let f = (k.each h.1.0 w h.1.2).turn h.1.3 in
        let e : v ≡ w = one_view count s k id h.1.0 v w at h.1.2 waits f.0 (sym mine ∙ sym f.1) in
        absurd (not_both v.turn not_yet (ap (λ (y : TicketView). y.turn) e ∙ h.1.3))

pub look_allows : (count slots id : ℕ) (me : Me (Option Held) TicketView) → me.0.waits ≡ true → me.0.turn ≡ false → ((n : ℕ) × IsAmong n me.0.numbers) → Allows (Kept count) slots id me 1 (λ n. n) (Looked (step slots 1 0 0 none) me)
look_allows count slots id me waits not_yet has s k len at small = dite (ℕ_discrete (slice_index s.words 1) me.0.ticket) mine other
  where
    mine : slice_index s.words 1 ≡ me.0.ticket → (w : TicketView) × (a : Act (Option Held)) × Valid s.homes me.1 a × Kept count (stepped s 1 (slice_index s.words 1) id me.1 w a) × Looked (step slots 1 0 0 none) me (slice_index s.words 1) (w, carried_after me.1 a)
    mine is =
        let served : k.serving ≡ me.0.ticket = sym (second_word count s k) ∙ is in
        let t = look_takes count s k id me.0 (set s.words 1 (slice_index s.words 1)) at waits not_yet has served (second_set count s k (slice_index s.words 1) k.serving (second_word count s k)) in
        let x = t.0 in
        let learns : Learns me.0 x.history = subst (Learns me.0) (sym t.2) (k.each id me.0 at).learns in
        let short : length x.history ≤ me.0.ticket = (let a = k.short in let b = ap length t.2 in omega (arith, served)) in (
          in_turn me.0 x.history,
          takes 0 (Some x),
          ap (λ (hs : List (maybe.Option (Option Held))). get_elem? hs 0) t.1,
          subst (λ (hs : List (maybe.Option (Option Held))). Kept count (record { words = set s.words 1 (slice_index s.words 1); homes = hs; views = set s.views id (in_turn me.0 x.history) })) (sym (ap (λ (hs : List (maybe.Option (Option Held))). set hs 0 none) t.1)) t.3,
          ((λ h. (x, learns, short, refl)), (λ h. absurd (h is))),
        )

    other : slice_index s.words 1 ≢ me.0.ticket → (w : TicketView) × (a : Act (Option Held)) × Valid s.homes me.1 a × Kept count (stepped s 1 (slice_index s.words 1) id me.1 w a) × Looked (step slots 1 0 0 none) me (slice_index s.words 1) (w, carried_after me.1 a)
    other is =
        let kept = replaced count s k id k.next me.0 me.0 at (omega arith) (k.each id me.0 at) refl (λ t. inl (t, refl)) (still_lone count s k id me.0 me.0 at (λ n m. m)) (set s.words 1 (slice_index s.words 1)) (second_set count s k (slice_index s.words 1) k.serving (second_word count s k)) in
        (me.0, keeps, tt, kept, ((λ h. absurd (is h)), (λ h. refl)))

after_mine : (n : ℕ) (v : TicketView) (log : List Event) → IsMine n (after_turn v log) → IsMine n v
after_mine n v log (inl a) = inl a
after_mine n v log (inr a) = absurd a

-- with a history that goes on from what it sees, by its own entries, it puts the book back and serves the next number
advance_gives : (count : ℕ) (s : State (Option Held) TicketView) (k : Kept count s) (id : ℕ) (v : TicketView) (x : Held) (ws : List ℕ) → get_elem? s.views id ≡ some v → v.turn ≡ true → Begins v.front x.history → length x.history ≤ v.ticket + 1
    → IsOwnWork v.numbers v.front x.history → ws ≡ k.next ∷ (v.ticket + 1) ∷ [] → Kept count (record { words = ws; homes = set s.homes 0 (some (Some x)); views = set s.views id (after_turn v x.history) })
advance_gives count s k id v x ws at turn more one work is = by k.home
  where
    fits : Fits count k.next k.serving k.log v
    fits = k.each id v at

    f : (v.waits ≡ true) × (v.ticket ≡ k.serving) × (v.front ≡ k.log) × ((n : ℕ) × IsAmong n v.numbers)
    f = fits.turn turn

    longer : Begins k.log x.history
    longer = (more.0, more.1 ∙ ap (λ (xs : List Event). xs ++ more.0) f.2)

    -- of a number that is not the seat's nothing comes
    same : (n : ℕ) → (IsAmong n v.numbers → ⊥) → of_seat n x.history ≡ of_seat n k.log
    same n ne = work n ne ∙ ap (of_seat n) f.2

    -- another seat with the turn would be this one
    alone : (i : ℕ) (w : TicketView) → i ≢ id → get_elem? s.views i ≡ some w → w.turn ≡ true → ⊥
    alone i w ne a t = let g = (k.each i w a).turn t in ne (k.apart i id w v a at g.0 f.0 (g.1 ∙ sym f.1))

    -- another seat's number is not this one's
    else : (i n : ℕ) (w : TicketView) → i ≢ id → get_elem? s.views i ≡ some w → IsMine n w → IsAmong n v.numbers → ⊥
    else i n w ne a m b = ne (k.lone i id n w v a at m (inl b))

    each' : (i : ℕ) (w : TicketView) → (((i ≡ id) × (after_turn v x.history ≡ w)) ⊎ ((i ≢ id) × (get_elem? s.views i ≡ some w))) → Fits count k.next (v.ticket + 1) x.history w
    each' i w (inl p) = subst (Fits count k.next (v.ticket + 1) x.history) p.1 (record {
      learns = (whole x.history, (x.history, refl), (λ n a. refl), (λ n a. absurd a));
      below = λ n m. fits.below n (after_mine n v x.history m);
      drawn = λ t. absurd cc;
      turn = λ t. absurd cc;
    })
    each' i w (inr p) = let g = k.each i w p.1 in record {
      learns = (
        begins_more w.front k.log x.history g.learns.0 longer,
        begins_more w.told k.log x.history g.learns.1 longer,
        (λ n a. same n (else i n w p.0 p.1 (inl a)) ∙ g.learns.2 n a),
        (λ n a. same n (else i n w p.0 p.1 (inr a)) ∙ g.learns.3 n a),
      );
      below = g.below;
      drawn = λ t. let d = g.drawn t in let other : w.ticket ≢ k.serving = (λ q. p.0 (k.apart i id w v p.1 at t f.0 (q ∙ sym f.1))) in (omega (arith, d.0, f.1, other), d.1);
      turn = λ t. absurd (alone i w p.0 p.1 t);
    }

    still : (i : ℕ) (w : TicketView) → (((i ≡ id) × (after_turn v x.history ≡ w)) ⊎ ((i ≢ id) × (get_elem? s.views i ≡ some w))) → w.turn ≡ false
    still i w (inl p) = ap (λ (y : TicketView). y.turn) (sym p.1)
    still i w (inr p) = not_true w.turn (alone i w p.0 p.1)

    by : Home s.homes s.views k.log → Kept count (record { words = ws; homes = set s.homes 0 (some (Some x)); views = set s.views id (after_turn v x.history) })
    by (inl h) = absurd (not_both v.turn (h.3 id v at) turn)
    by (inr h) = record {
      next = k.next;
      serving = v.ticket + 1;
      log = x.history;
      words = is;
      few = (let d = fits.drawn f.0 in omega (arith, d.1));
      short = one;
      strangers = λ n far. same n (λ a. absurd (let b = fits.below n (inl a) in omega (arith, far, b))) ∙ k.strangers n far;
      each = λ i w a. each' i w (at_set s.views id i (after_turn v x.history) w a);
      apart = apart_after count s k id v (after_turn v x.history) at (λ t. absurd cc) refl;
      lone = lone_after count s k id (after_turn v x.history) (still_lone count s k id v (after_turn v x.history) at (λ n m. after_mine n v x.history m));
      home = inl (x, ap (λ (hs : List (maybe.Option (Option Held))). set hs 0 (some (Some x))) h.0, refl, λ i w a. still i w (at_set s.views id i (after_turn v x.history) w a));
    }

abbrev pub held_or : Held → Option Held → Held
held_or d None = d
held_or d (Some x) = x

abbrev pub first_held : Held → List (ℕ × Option Held) → Held
first_held d [] = d
first_held d (p ∷ ps) = held_or d p.1

pub advance_allows : (count slots id new : ℕ) (me : Me (Option Held) TicketView) (x : Held) → me.1 ≡ (0, Some x) ∷ [] → me.0.turn ≡ true → Begins me.0.front x.history → length x.history ≤ me.0.ticket + 1 → IsOwnWork me.0.numbers me.0.front x.history → new ≡ me.0.ticket + 1
    → Allows (Kept count) slots id me 1 (λ n. new) (λ n. Advanced (step slots 1 new 0 none) me new)
advance_allows count slots id new me x holds turn more one work is s k len at small =
    let kept = advance_gives count s k id me.0 x (set s.words 1 new) at turn more one work (second_set count s k new (me.0.ticket + 1) is) in (
      after_turn me.0 x.history,
      gives,
      tt,
      subst (λ (c : List (ℕ × Option Held)). Kept count (stepped s 1 new id c (after_turn me.0 x.history) gives)) (sym holds) kept,
      λ y same. (let e : x ≡ y = ap (first_held x) (sym holds ∙ same) in
          let t = ap (λ (z : Held). after_turn me.0 z.history) e in
          let r = ap (λ (c : List (ℕ × Option Held)). carried_after c gives) holds in
          λ i. (t i, r i)),
    )

-- what a seat holds alone is what it took last
pub held_last : (c : List (ℕ × Option Held)) (x : Option Held) → c ≡ (0, x) ∷ [] → c ≡ (0, x) ∷ rest c
held_last c x is = is ∙ ap (λ (d : List (ℕ × Option Held)). (0, x) ∷ rest d) (sym is)

-- ---- the end

-- where an idle seat has all numbers, nobody has the turn, and the book is at home
pub comes_home : (count id : ℕ) (v : TicketView) (words : List ℕ) (slots : List (Option Held)) → Final (table.Seen (Kept count) id v) words slots → v.turn ≡ false → ((n : ℕ) → n < count → IsAmong n v.numbers)
    → (x : Held) × (get_elem? slots 0 ≡ some (Some x)) × Follows v.front v.numbers x.history × ((n : ℕ) → count ≤ n → of_seat n x.history ≡ [])
comes_home count id v words slots final no_turn all = by k.home
  where
    s : State (Option Held) TicketView
    s = final.0

    k : Kept count s
    k = final.1.0

    at : get_elem? s.views id ≡ some v
    at = final.1.1

    by : Home s.homes s.views k.log → (x : Held) × (get_elem? slots 0 ≡ some (Some x)) × Follows v.front v.numbers x.history × ((n : ℕ) → count ≤ n → of_seat n x.history ≡ [])
    by (inl h) =
        let learns : Learns v h.0.history = subst (Learns v) (sym h.2) (k.each id v at).learns in
        (h.0, final.4 0 (Some h.0) (ap (λ (hs : List (maybe.Option (Option Held))). get_elem? hs 0) h.1), (learns.0, learns.2), λ n far. ap (of_seat n) h.2 ∙ k.strangers n far)
    by (inr h) =
        let w = h.1.1 in let fits = k.each h.1.0 w h.1.2 in let has = (fits.turn h.1.3).3 in
        let same = k.lone h.1.0 id has.0 w v h.1.2 at (inl has.1) (inl (all has.0 (fits.below has.0 (inl has.1)))) in
        let e : w ≡ v = some-injective w v (sym h.1.2 ∙ (ap (λ (n : ℕ). get_elem? s.views n) same ∙ at)) in
        absurd (not_both v.turn no_turn (sym (ap (λ (y : TicketView). y.turn) e) ∙ h.1.3))
