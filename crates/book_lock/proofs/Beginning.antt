-- Beginnings of a history.
use Rattle.std.specs.Prelude.{◌≡◌, ◌≢◌, ℕ, zero, suc, ◌+◌, ◌<◌, ◌≤◌, ◌⊎◌, ◌==◌, Bool, true, false, cond, nat_lt, List, [], ◌∷◌, ◌++◌, length, slice_get, Some, refl}
use Rattle.std.proofs.Common.{arith, sym, ap, ◌∙◌, inl, inr, append-nil, append_assoc, length-append, eq-eqb, ne_eqb}
use Rattle.std.proofs.lemmas.Bool.Decides.{nat_tests}
use Rattle.std.proofs.lemmas.Option.{slice_get_within}
use Rattle.book_history.specs.History.{Event}
use Rattle.book_history.specs.Receipts.{Stand}
use Rattle.book_history.specs.declared.entry.Receipt.{Receipt}
use Rattle.book_lock.specs.Begins.{Begins, of_seat, IsAmong, from, Follows}
use Rattle.book_lock.specs.Plays.{longer}

pub whole : (log : List Event) → Begins log log
whole log = ([], sym (append-nil log))

pub begins_more : (a b c : List Event) → Begins a b → Begins b c → Begins a c
begins_more a b c x y = (x.0 ++ y.0, y.1 ∙ (ap (λ (xs : List Event). xs ++ y.0) x.1 ∙ append_assoc a x.0 y.0))

pub begins_same : (a b : List Event) → b ≡ a → Begins a b
begins_same a b is = ([], is ∙ sym (append-nil a))

pub begins_one : (a b : List Event) (e : Event) → b ≡ a ++ e ∷ [] → Begins a b
begins_one a b e is = (e ∷ [], is)

-- what stands in a beginning stands in the history
get_front : (a b : List Event) (i : ℕ) (e : Event) → slice_get a i ≡ Some e → slice_get (a ++ b) i ≡ Some e
get_front [] b i e at = absurd cc
get_front (x ∷ a) b zero e at = at
get_front (x ∷ a) b (suc i) e at = get_front a b i e at

stand_front : (low : ℕ) (a b : List Event) (rs : List Receipt) → Stand low a rs → Stand low (a ++ b) rs
stand_front low a b [] s = tt
stand_front low a b (r ∷ rs) s = (s.0, get_front a b r.place r.entry s.1, stand_front (r.place + 1) a b rs s.2)

pub stand_begins : (low : ℕ) (a h : List Event) (rs : List Receipt) → Begins a h → Stand low a rs → Stand low h rs
stand_begins low a h rs begins s = rw begins.1 (stand_front low a begins.0 rs s)

get_last : (a : List Event) (e : Event) → slice_get (a ++ e ∷ []) (length a) ≡ Some e
get_last [] e = refl
get_last (x ∷ a) e = get_last a e

-- one more receipt, of the last entry
pub stand_last : (low : ℕ) (a : List Event) (e : Event) (rs : List Receipt) (r : Receipt) → Stand low a rs → low ≤ length a → r.place ≡ length a → r.entry ≡ e → Stand low (a ++ e ∷ []) (rs ++ r ∷ [])
stand_last low a e [] r s le at is = (rw at le, rw (at, is) (get_last a e), tt)
stand_last low a e (x ∷ rs) r s le at is = (s.0, get_front a (e ∷ []) x.place x.entry s.1, stand_last (x.place + 1) a e rs r s.2 (let w = slice_get_within a x.place x.entry s.1 in omega arith) at is)

-- two beginnings of one history: one begins the other
pub two_begin : (a b h : List Event) → Begins a h → Begins b h → Begins a b ⊎ Begins b a
two_begin [] b h x y = inl (b, refl)
two_begin (e ∷ a) [] h x y = inr (e ∷ a, refl)
two_begin (e ∷ a) (f ∷ b) [] x y = absurd (let i = x.1 in cc)
two_begin (e ∷ a) (f ∷ b) (g ∷ h) x y =
    let xe : g ≡ e = (let i = x.1 in cc) in let xs : h ≡ a ++ x.0 = (let i = x.1 in cc) in
    let ye : g ≡ f = (let i = y.1 in cc) in let ys : h ≡ b ++ y.0 = (let i = y.1 in cc) in
    by (sym xe ∙ ye) (two_begin a b h (x.0, xs) (y.0, ys))
  where
    by : e ≡ f → Begins a b ⊎ Begins b a → Begins (e ∷ a) (f ∷ b) ⊎ Begins (f ∷ b) (e ∷ a)
    by is (inl p) = inl (p.0, ap (λ (z : Event). z ∷ b) (sym is) ∙ ap (λ (zs : List Event). e ∷ zs) p.1)
    by is (inr p) = inr (p.0, ap (λ (z : Event). z ∷ a) is ∙ ap (λ (zs : List Event). f ∷ zs) p.1)

-- ---- the entries of one seat

pub of_seat_append : (n : ℕ) (a b : List Event) → of_seat n (a ++ b) ≡ of_seat n a ++ of_seat n b
of_seat_append n [] b = refl
of_seat_append n (e ∷ a) b =
    elim (e.seat == n) as (λ c. cond c (e ∷ of_seat n (a ++ b)) (of_seat n (a ++ b)) ≡ cond c (e ∷ of_seat n a) (of_seat n a) ++ of_seat n b)
    [ true ↦ ap (λ (xs : List Event). e ∷ xs) (of_seat_append n a b) | false ↦ of_seat_append n a b ]

of_one : (n : ℕ) (e : Event) → e.seat ≡ n → of_seat n (e ∷ []) ≡ e ∷ []
of_one n e is = ap (λ (c : Bool). cond c (e ∷ []) []) (eq-eqb e.seat n is)

of_other : (n : ℕ) (e : Event) → e.seat ≢ n → of_seat n (e ∷ []) ≡ []
of_other n e ne = ap (λ (c : Bool). cond c (e ∷ []) []) (ne_eqb e.seat n ne)

pub adds_one : (n : ℕ) (a : List Event) (e : Event) → e.seat ≡ n → of_seat n (a ++ e ∷ []) ≡ of_seat n a ++ e ∷ []
adds_one n a e is = of_seat_append n a (e ∷ []) ∙ ap (λ (xs : List Event). of_seat n a ++ xs) (of_one n e is)

pub adds_other : (n : ℕ) (a : List Event) (e : Event) → e.seat ≢ n → of_seat n (a ++ e ∷ []) ≡ of_seat n a
adds_other n a e ne = of_seat_append n a (e ∷ []) ∙ (ap (λ (xs : List Event). of_seat n a ++ xs) (of_other n e ne) ∙ append-nil (of_seat n a))

-- ---- numbers

pub among_left : (n : ℕ) (xs ys : List ℕ) → IsAmong n xs → IsAmong n (xs ++ ys)
among_left n [] ys a = absurd a
among_left n (x ∷ xs) ys (inl e) = inl e
among_left n (x ∷ xs) ys (inr a) = inr (among_left n xs ys a)

pub among_right : (n : ℕ) (xs ys : List ℕ) → IsAmong n ys → IsAmong n (xs ++ ys)
among_right n [] ys a = a
among_right n (x ∷ xs) ys a = inr (among_right n xs ys a)

pub among_either : (n : ℕ) (xs ys : List ℕ) → IsAmong n (xs ++ ys) → IsAmong n xs ⊎ IsAmong n ys
among_either n [] ys a = inr a
among_either n (x ∷ xs) ys (inl e) = inl (inl e)
among_either n (x ∷ xs) ys (inr a) = by (among_either n xs ys a)
  where
    by : IsAmong n xs ⊎ IsAmong n ys → IsAmong n (x ∷ xs) ⊎ IsAmong n ys
    by (inl b) = inl (inr b)
    by (inr b) = inr b

pub from_least : (n k m : ℕ) → IsAmong n (from k m) → k ≤ n
from_least n k zero a = absurd a
from_least n k (suc m) (inl e) = omega (arith, e)
from_least n k (suc m) (inr a) = let l = from_least n (k + 1) m a in omega arith

pub from_most : (n k m : ℕ) → IsAmong n (from k m) → n < k + m
from_most n k zero a = absurd a
from_most n k (suc m) (inl e) = omega (arith, e)
from_most n k (suc m) (inr a) = let l = from_most n (k + 1) m a in omega arith

-- ---- what follows

pub follows_more : (f g h : List Event) (ns ms : List ℕ) → ((n : ℕ) → IsAmong n ns → IsAmong n ms) → Follows f ns g → Follows g ms h → Follows f ns h
follows_more f g h ns ms within x y = (begins_more f g h x.0 y.0, λ n a. y.1 n (within n a) ∙ x.1 n a)

pub follows_same : (f h : List Event) (ns : List ℕ) → h ≡ f → Follows f ns h
follows_same f h ns is = (begins_same f h is, λ n a. ap (of_seat n) is)

-- ---- the longer of two beginnings

none_more : (a b : List Event) → length (a ++ b) ≡ length a → b ≡ []
none_more a [] same = refl
none_more a (e ∷ b) same = absurd (let n = length-append a (e ∷ b) in omega (arith, n, same))

still_none : (a b c : List Event) → length ((a ++ b) ++ c) ≡ length a → b ≡ []
still_none a b c same = none_more a b (let n = length-append (a ++ b) c in let m = length-append a b in omega (arith, n, m, same))

-- what lies between two has no more of these seats than they
pub between : (f g h : List Event) (ns : List ℕ) → Follows f ns h → Begins f g → Begins g h → Follows f ns g
between f g h ns follows x y = (x, λ n a. same n a)
  where
    parts : (n : ℕ) → of_seat n h ≡ (of_seat n f ++ of_seat n x.0) ++ of_seat n y.0
    parts n = ap (of_seat n) y.1 ∙ (of_seat_append n g y.0 ∙ ap (λ (es : List Event). es ++ of_seat n y.0) (ap (of_seat n) x.1 ∙ of_seat_append n f x.0))

    none : (n : ℕ) → IsAmong n ns → of_seat n x.0 ≡ []
    none n a = still_none (of_seat n f) (of_seat n x.0) (of_seat n y.0) (ap length (sym (parts n) ∙ follows.1 n a))

    same : (n : ℕ) → IsAmong n ns → of_seat n g ≡ of_seat n f
    same n a = ap (of_seat n) x.1 ∙ (of_seat_append n f x.0 ∙ (ap (λ (es : List Event). of_seat n f ++ es) (none n a) ∙ append-nil (of_seat n f)))

-- a beginning that is longer than both, of which one begins the other
pub record Longer (front told log : List Event) (ns ms : List ℕ) (x : List Event) : Type 0 where
  pub begins : Begins x log
  pub first : Follows front ns x
  pub second : Follows told ms x
  pub own : (n : ℕ) → IsAmong n ns → of_seat n log ≡ of_seat n x
  pub others : (n : ℕ) → IsAmong n ms → of_seat n log ≡ of_seat n x

less_than : (m n : ℕ) → nat_lt m n ≡ true → m < n
less_than m n is = grind (arith, nat_tests)

no_less : (m n : ℕ) → nat_lt m n ≡ false → n ≤ m
no_less m n is = grind (arith, nat_tests)

begins_length : (a b : List Event) → Begins a b → length a ≤ length b
begins_length a b x = let n = length-append a x.0 in let m = ap length x.1 in omega (arith, n, m)

front_begins : (a b : List Event) → length a < length b → Begins a b ⊎ Begins b a → Begins a b
front_begins a b less (inl x) = x
front_begins a b less (inr y) = absurd (let n = begins_length b a y in omega (arith, n, less))

told_begins : (a b : List Event) → length b ≤ length a → Begins a b ⊎ Begins b a → Begins b a
told_begins a b most (inr y) = y
told_begins a b most (inl x) =
    let none : x.0 ≡ [] = none_more a x.0 (let n = length-append a x.0 in let m = ap length x.1 in omega (arith, n, m, most)) in
    begins_same b a (sym (x.1 ∙ (ap (λ (es : List Event). a ++ es) none ∙ append-nil a)))

longer_at : (front told log : List Event) (ns ms : List ℕ) → Begins front told ⊎ Begins told front → Follows front ns log → Follows told ms log
    → (c : Bool) → nat_lt (length front) (length told) ≡ c → Longer front told log ns ms (cond c told front)
longer_at front told log ns ms two f g true is =
    let mine = between front told log ns f (front_begins front told (less_than (length front) (length told) is) two) g.0 in
    record { begins = g.0; first = mine; second = (whole told, λ n a. refl); own = λ n a. f.1 n a ∙ sym (mine.1 n a); others = g.1 }
longer_at front told log ns ms two f g false is =
    let theirs = between told front log ms g (told_begins front told (no_less (length front) (length told) is) two) f.0 in
    record { begins = f.0; first = (whole front, λ n a. refl); second = theirs; own = f.1; others = λ n a. g.1 n a ∙ sym (theirs.1 n a) }

pub longer_is : (front told log : List Event) (ns ms : List ℕ) → Begins front told ⊎ Begins told front → Follows front ns log → Follows told ms log
    → Longer front told log ns ms (longer front told)
longer_is front told log ns ms two f g = longer_at front told log ns ms two f g (nat_lt (length front) (length told)) refl
