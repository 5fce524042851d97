-- The calls of all seats, one seat more at the end.
use Rattle.std.specs.Prelude.{◌≡◌, ℕ, ◌⊎◌, List, [], ◌∷◌, ◌++◌, length, refl}
use Rattle.std.proofs.Common.{arith, sym, ap, subst, inl, inr}
use Rattle.atomic_table.specs.Seated.{TableId}
use Rattle.book_history.specs.History.{Event}
use Rattle.book_lock.specs.Begins.{Begins, IsAmong, Follows}
use Rattle.book_lock.specs.Seats.{Seat, AllAt, AllOwn, AllSeen, HasOwn, numbers_of}
use Rattle.book_lock.proofs.Beginning.{among_left, among_right, among_either, begins_more, follows_more}
use Rattle.book_lock.proofs.Seating.{own_follows}

pub at_last : (table : TableId) (ss : List Seat) (s : Seat) → AllAt table (ss ++ s ∷ []) → AllAt table ss × (s.table ≡ table)
at_last table [] s all = (tt, all.0)
at_last table (x ∷ ss) s all = let r = at_last table ss s all.1 in ((all.0, r.0), r.1)

pub own_last : (h : List Event) (ss : List Seat) (s : Seat) → AllOwn h ss → HasOwn s.number s.receipts h → AllOwn h (ss ++ s ∷ [])
own_last h [] s all one = (one, tt)
own_last h (x ∷ ss) s all one = (all.0, own_last h ss s all.1 one)

numbers_last : (ss : List Seat) (s : Seat) → numbers_of (ss ++ s ∷ []) ≡ numbers_of ss ++ s.number ∷ []
numbers_last [] s = refl
numbers_last (x ∷ ss) s = ap (λ (ns : List ℕ). x.number ∷ ns) (numbers_last ss s)

-- a number of the seats is that of the last one, or of one before
pub number_last : (n : ℕ) (ss : List Seat) (s : Seat) → IsAmong n (numbers_of (ss ++ s ∷ [])) → IsAmong n (numbers_of ss) ⊎ IsAmong n (s.number ∷ [])
number_last n ss s a = among_either n (numbers_of ss) (s.number ∷ []) (subst (IsAmong n) (numbers_last ss s) a)

-- what is left to show after one seat more was met
pub left_step : (f g : List Event) (ns ms : List ℕ) (all ss : List Seat) (s : Seat) → ((h : List Event) → Follows f ns h → AllOwn h (ss ++ s ∷ []) → AllOwn h all) → ms ≡ ns ++ s.number ∷ [] → Follows f ns g → HasOwn s.number s.receipts g
    → (h : List Event) → Follows g ms h → AllOwn h ss → AllOwn h all
left_step f g ns ms all ss s left is more one h follows rest =
    let within : (n : ℕ) → IsAmong n ns → IsAmong n ms = λ n a. subst (IsAmong n) (sym is) (among_left n ns (s.number ∷ []) a) in
    let mine : IsAmong s.number ms = subst (IsAmong s.number) (sym is) (among_right s.number ns (s.number ∷ []) (inl refl)) in
    left h (follows_more f g h ns ms within more follows) (own_last h ss s rest (own_follows s.number s.receipts g h ms mine follows one))

-- where a number may be after one seat more was met
pub here_step : (n : ℕ) (ns ms : List ℕ) (ss : List Seat) (s : Seat) → ms ≡ ns ++ s.number ∷ [] → IsAmong n (numbers_of (ss ++ s ∷ [])) ⊎ IsAmong n ns → IsAmong n (numbers_of ss) ⊎ IsAmong n ms
here_step n ns ms ss s is (inr a) = inr (subst (IsAmong n) (sym is) (among_left n ns (s.number ∷ []) a))
here_step n ns ms ss s is (inl a) = by (number_last n ss s a)
  where
    by : IsAmong n (numbers_of ss) ⊎ IsAmong n (s.number ∷ []) → IsAmong n (numbers_of ss) ⊎ IsAmong n ms
    by (inl b) = inl b
    by (inr b) = inr (subst (IsAmong n) (sym is) (among_right n ns (s.number ∷ []) b))

pub none_own : (h : List Event) (ss : List Seat) → length ss ≡ 0 → AllOwn h ss
none_own h [] none = tt
none_own h (s ∷ ss) none = absurd (omega arith)

pub none_here : (n : ℕ) (ss : List Seat) (ns : List ℕ) → length ss ≡ 0 → IsAmong n (numbers_of ss) ⊎ IsAmong n ns → IsAmong n ns
none_here n [] ns none (inl a) = absurd a
none_here n [] ns none (inr a) = a
none_here n (s ∷ ss) ns none a = absurd (omega arith)

pub all_follow : (f h : List Event) (ns : List ℕ) (ss : List Seat) → ((n : ℕ) → IsAmong n (numbers_of ss) → IsAmong n ns) → Follows f ns h → AllOwn f ss → AllOwn h ss
all_follow f h ns [] within follows all = tt
all_follow f h ns (s ∷ ss) within follows all =
    (own_follows s.number s.receipts f h ns (within s.number (inl refl)) follows all.0, all_follow f h ns ss (λ n a. within n (inr a)) follows all.1)

-- ---- what the seats have seen

pub seen_last : (h : List Event) (ss : List Seat) (s : Seat) → AllSeen h ss → Begins s.front h → AllSeen h (ss ++ s ∷ [])
seen_last h [] s all one = (one, tt)
seen_last h (x ∷ ss) s all one = (all.0, seen_last h ss s all.1 one)

pub none_seen : (h : List Event) (ss : List Seat) → length ss ≡ 0 → AllSeen h ss
none_seen h [] none = tt
none_seen h (s ∷ ss) none = absurd (omega arith)

pub all_begin : (f h : List Event) (ss : List Seat) → Begins f h → AllSeen f ss → AllSeen h ss
all_begin f h [] begins all = tt
all_begin f h (s ∷ ss) begins all = (begins_more s.front f h all.0 begins, all_begin f h ss begins all.1)

-- what is left to show after one seat more was met
pub seen_step : (f g : List Event) (all ss : List Seat) (s : Seat) → ((h : List Event) → Begins f h → AllSeen h (ss ++ s ∷ []) → AllSeen h all) → Begins f g → Begins s.front g → (h : List Event) → Begins g h → AllSeen h ss → AllSeen h all
seen_step f g all ss s left more one h begins rest = left h (begins_more f g h more begins) (seen_last h ss s rest (begins_more s.front g h one begins))
