-- Sorting the pairs of entries.
use Rattle.std.specs.Prelude.{◌≡◌, ℕ, zero, suc, ◌+◌, ◌-◌, ◌<◌, ◌≤◌, ◌==◌, nat_le, Bool, true, false, cond, List, [], ◌∷◌, ◌++◌, length, take, drop, Option, Some, None, IfSome, not, position, remove, swap_remove, refl}
use Rattle.std.proofs.Common.{ap, sym, subst, ◌∙◌, arith, append-nil, get_or, set}
use Rattle.std.proofs.lemmas.List.{take_all, take_more}
use Rattle.std.proofs.lemmas.Bool.Decides.{nat_tests}
use Rattle.std.specs.Map.{lookup, remove_entry, keys_of}
use Rattle.std.specs.Option.{option_map_or}
use Rattle.std.specs.List.{position_or_len}
use Rattle.indexmap.proofs.MapLemmas.{Found-position, Missing-position}
use Rattle.indexmap.specs.IndexMap.{insert_entry, swap_remove_entry}
use Rattle.amqp_delivery.specs.Ranges.{rank_of, insert_pair, remove_pair, sorted_by}

-- ---- one insertion and another

insert_at : (p r : ℕ × ℕ) (rs : List (ℕ × ℕ)) → nat_le (rank_of p) (rank_of r) ≡ true → insert_pair p (r ∷ rs) ≡ p ∷ r ∷ rs
insert_at p r rs e = ap (λ (b : Bool). cond b (p ∷ r ∷ rs) (r ∷ insert_pair p rs)) e

insert_on : (p r : ℕ × ℕ) (rs : List (ℕ × ℕ)) → nat_le (rank_of p) (rank_of r) ≡ false → insert_pair p (r ∷ rs) ≡ r ∷ insert_pair p rs
insert_on p r rs e = ap (λ (b : Bool). cond b (p ∷ r ∷ rs) (r ∷ insert_pair p rs)) e

le_by : (m n : ℕ) → nat_le m n ≡ true → m ≤ n
le_by m n e = grind (arith, nat_tests, e)

lt_by : (m n : ℕ) → nat_le m n ≡ false → n < m
lt_by m n e = grind (arith, nat_tests, e)

not_le : (m n : ℕ) → n < m → nat_le m n ≡ false
not_le m n h = grind (arith, nat_tests, h)

is_le : (m n : ℕ) → m ≤ n → nat_le m n ≡ true
is_le m n h = grind (arith, nat_tests, h)

eq_self : (n : ℕ) → (n == n) ≡ true
eq_self n = grind (arith, nat_tests)

-- pairs at one place of the order are the same
abbrev Tied : ℕ × ℕ → ℕ × ℕ → Type 0
Tied p q = rank_of p ≡ rank_of q → p ≡ q

two_first : (b c : Bool) (p q : ℕ × ℕ) (s : List (ℕ × ℕ)) → Tied p q → nat_le (rank_of p) (rank_of q) ≡ b → nat_le (rank_of q) (rank_of p) ≡ c → cond b (p ∷ q ∷ s) (q ∷ p ∷ s) ≡ cond c (q ∷ p ∷ s) (p ∷ q ∷ s)
two_first true true p q s tied e f =
    let h = le_by (rank_of p) (rank_of q) e in
    let g = le_by (rank_of q) (rank_of p) f in
    let P : ℕ × ℕ → Type 0 = λ t. p ∷ t ∷ s ≡ t ∷ p ∷ s in
    subst P (tied (omega (arith, h, g))) refl
two_first true false p q s tied e f = refl
two_first false true p q s tied e f = refl
two_first false false p q s tied e f = let h = lt_by (rank_of p) (rank_of q) e in let g = lt_by (rank_of q) (rank_of p) f in absurd (omega (arith, h, g))

both_first : (p q : ℕ × ℕ) (s ps qs : List (ℕ × ℕ)) → Tied p q → insert_pair p s ≡ p ∷ s → insert_pair q s ≡ q ∷ s → insert_pair p (insert_pair q s) ≡ insert_pair q (insert_pair p s)
both_first p q s ps qs tied hp hq =
    ap (insert_pair p) hq ∙ ap (λ (xs : List (ℕ × ℕ)). cond (nat_le (rank_of p) (rank_of q)) (p ∷ q ∷ s) (q ∷ xs)) hp
    ∙ two_first (nat_le (rank_of p) (rank_of q)) (nat_le (rank_of q) (rank_of p)) p q s tied refl refl
    ∙ ap (λ (xs : List (ℕ × ℕ)). cond (nat_le (rank_of q) (rank_of p)) (q ∷ p ∷ s) (p ∷ xs)) (sym hq) ∙ ap (insert_pair q) (sym hp)

one_first : (p q r : ℕ × ℕ) (rs : List (ℕ × ℕ)) → nat_le (rank_of p) (rank_of r) ≡ true → nat_le (rank_of q) (rank_of r) ≡ false → insert_pair p (insert_pair q (r ∷ rs)) ≡ insert_pair q (insert_pair p (r ∷ rs))
one_first p q r rs e f =
    let h = le_by (rank_of p) (rank_of r) e in
    let g = lt_by (rank_of q) (rank_of r) f in
    let k : nat_le (rank_of q) (rank_of p) ≡ false = not_le (rank_of q) (rank_of p) (omega (arith, h, g)) in
    ap (insert_pair p) (insert_on q r rs f) ∙ insert_at p r (insert_pair q rs) e
    ∙ sym (ap (insert_pair q) (insert_at p r rs e) ∙ insert_on q p (r ∷ rs) k ∙ ap (λ (xs : List (ℕ × ℕ)). p ∷ xs) (insert_on q r rs f))

swap_by : (b c : Bool) (p q r : ℕ × ℕ) (rs : List (ℕ × ℕ)) → Tied p q → nat_le (rank_of p) (rank_of r) ≡ b → nat_le (rank_of q) (rank_of r) ≡ c → insert_pair p (insert_pair q rs) ≡ insert_pair q (insert_pair p rs)
    → insert_pair p (insert_pair q (r ∷ rs)) ≡ insert_pair q (insert_pair p (r ∷ rs))
swap_by true true p q r rs tied e f rest = both_first p q (r ∷ rs) [] [] tied (insert_at p r rs e) (insert_at q r rs f)
swap_by true false p q r rs tied e f rest = one_first p q r rs e f
swap_by false true p q r rs tied e f rest = sym (one_first q p r rs f e)
swap_by false false p q r rs tied e f rest =
    ap (insert_pair p) (insert_on q r rs f) ∙ insert_on p r (insert_pair q rs) e ∙ ap (λ (xs : List (ℕ × ℕ)). r ∷ xs) rest
    ∙ sym (ap (insert_pair q) (insert_on p r rs e) ∙ insert_on q r (insert_pair p rs) f)

pub insert_comm : (p q : ℕ × ℕ) (s : List (ℕ × ℕ)) → Tied p q → insert_pair p (insert_pair q s) ≡ insert_pair q (insert_pair p s)
insert_comm p q [] tied = both_first p q [] [] [] tied refl refl
insert_comm p q (r ∷ rs) tied = swap_by (nat_le (rank_of p) (rank_of r)) (nat_le (rank_of q) (rank_of r)) p q r rs tied refl refl (insert_comm p q rs tied)

remove_by : (b : Bool) (p r : ℕ × ℕ) (rs : List (ℕ × ℕ)) → nat_le (rank_of p) (rank_of r) ≡ b → remove_pair p (insert_pair p rs) ≡ rs → remove_pair p (insert_pair p (r ∷ rs)) ≡ r ∷ rs
remove_by true p r rs e rest = ap (remove_pair p) (insert_at p r rs e) ∙ rw (is_le (rank_of p) (rank_of p) (omega arith), eq_self (rank_of p)) refl
remove_by false p r rs e rest =
    ap (remove_pair p) (insert_on p r rs e)
    ∙ ap (λ (b : Bool). cond b (cond (rank_of p == rank_of r) (insert_pair p rs) (r ∷ insert_pair p rs)) (r ∷ remove_pair p (insert_pair p rs))) e
    ∙ ap (λ (xs : List (ℕ × ℕ)). r ∷ xs) rest

pub remove_insert : (p : ℕ × ℕ) (s : List (ℕ × ℕ)) → remove_pair p (insert_pair p s) ≡ s
remove_insert p [] = rw (is_le (rank_of p) (rank_of p) (omega arith), eq_self (rank_of p)) refl
remove_insert p (r ∷ rs) = remove_by (nat_le (rank_of p) (rank_of r)) p r rs refl (remove_insert p rs)

-- ---- entries

module _ {K V : Type 0} (pair : V → ℕ × ℕ) (tied : (v w : V) → rank_of (pair v) ≡ rank_of (pair w) → pair v ≡ pair w) where
  middle : (es fs : List (K × V)) (e : K × V) → sorted_by pair (es ++ e ∷ fs) ≡ insert_pair (pair e.1) (sorted_by pair (es ++ fs))
  middle [] fs e = refl
  middle (x ∷ es) fs e = ap (insert_pair (pair x.1)) (middle es fs e) ∙ insert_comm (pair x.1) (pair e.1) (sorted_by pair (es ++ fs)) (tied x.1 e.1)

  entered_by : (b : Bool) (e : K × V) (es : List (K × V)) (k : K) (v : V) (more less : List (K × V)) → sorted_by pair more ≡ insert_pair (pair v) (sorted_by pair less)
      → sorted_by pair (cond b ((e.0, v) ∷ es) (e ∷ more)) ≡ insert_pair (pair v) (sorted_by pair (cond b es (e ∷ less)))
  entered_by true e es k v more less rest = refl
  entered_by false e es k v more less rest = ap (insert_pair (pair e.1)) rest ∙ insert_comm (pair e.1) (pair v) (sorted_by pair less) (tied e.1 v)

  pub sorted_insert : (eq : K → K → Bool) (es : List (K × V)) (k : K) (v : V) → sorted_by pair (insert_entry eq es k v) ≡ insert_pair (pair v) (sorted_by pair (remove_entry (eq k) es))
  sorted_insert eq [] k v = refl
  sorted_insert eq (e ∷ es) k v = entered_by (eq k e.0) e es k v (insert_entry eq es k v) (remove_entry (eq k) es) (sorted_insert eq es k v)

  found_by : (b : Bool) (e : K × V) (es less : List (K × V)) (found : Option V) (v : V) → cond b (Some e.1) found ≡ Some v → (found ≡ Some v → sorted_by pair es ≡ insert_pair (pair v) (sorted_by pair less))
      → insert_pair (pair e.1) (sorted_by pair es) ≡ insert_pair (pair v) (sorted_by pair (cond b es (e ∷ less)))
  found_by true e es less found v h rest = let P : Option V → Type 0 = λ o. IfSome o (λ w. insert_pair (pair e.1) (sorted_by pair es) ≡ insert_pair (pair w) (sorted_by pair es)) in subst P h refl
  found_by false e es less found v h rest = ap (insert_pair (pair e.1)) (rest h) ∙ insert_comm (pair e.1) (pair v) (sorted_by pair less) (tied e.1 v)

  pub sorted_found : (test : K → Bool) (es : List (K × V)) (v : V) → lookup test es ≡ Some v → sorted_by pair es ≡ insert_pair (pair v) (sorted_by pair (remove_entry test es))
  sorted_found test [] v h = absurd cc
  sorted_found test (e ∷ es) v h = found_by (test e.0) e es (remove_entry test es) (lookup test es) v h (sorted_found test es v)

  absent_by : (b : Bool) (e : K × V) (es less : List (K × V)) (found : Option V) → cond b (Some e.1) found ≡ None → (found ≡ None → less ≡ es) → cond b es (e ∷ less) ≡ e ∷ es
  absent_by true e es less found h rest = absurd cc
  absent_by false e es less found h rest = ap (λ (xs : List (K × V)). e ∷ xs) (rest h)

  pub remove_absent : (test : K → Bool) (es : List (K × V)) → lookup test es ≡ None → remove_entry test es ≡ es
  remove_absent test [] h = refl
  remove_absent test (e ∷ es) h = absent_by (test e.0) e es (remove_entry test es) (lookup test es) h (remove_absent test es)

  gone_by : (test : K → Bool) (e : K × V) (es : List (K × V)) (b : Bool) (i : ℕ) → cond (not b) (1 + position_or_len test (keys_of es)) 0 ≡ i → i < length (e ∷ es)
      → ((j : ℕ) → position_or_len test (keys_of es) ≡ j → j < length es → remove_entry test es ≡ remove es j) → cond b es (e ∷ remove_entry test es) ≡ remove (e ∷ es) i
  gone_by test e es true i h l rest = let P : ℕ → Type 0 = λ j. es ≡ remove (e ∷ es) j in subst P h refl
  gone_by test e es false i h l rest =
      let at = position_or_len test (keys_of es) in
      let P : ℕ → Type 0 = λ j. e ∷ remove_entry test es ≡ remove (e ∷ es) j in
      let next : suc at ≡ 1 + at = omega arith in
      subst P (next ∙ h) (ap (λ (xs : List (K × V)). e ∷ xs) (rest at refl (omega (arith, h, l))))

  gone_at : (test : K → Bool) (es : List (K × V)) (i : ℕ) → position_or_len test (keys_of es) ≡ i → i < length es → remove_entry test es ≡ remove es i
  gone_at test [] i h l = absurd (omega (arith, l))
  gone_at test (e ∷ es) i h l = gone_by test e es (test e.0) i h l (gone_at test es)

  swapped_next : (x y : K × V) (ys : List (K × V)) (i : ℕ) (d : K × V) → swap_remove (x ∷ y ∷ ys) (suc i) d ≡ x ∷ swap_remove (y ∷ ys) i d
  swapped_next x y ys i d =
      let e : length (x ∷ y ∷ ys) - 1 ≡ suc (length ys) = omega arith in
      let f : length (y ∷ ys) - 1 ≡ length ys = omega arith in
      ap (λ (m : ℕ). take m (set (x ∷ y ∷ ys) (suc i) (get_or (x ∷ y ∷ ys) m d))) e ∙ ap (λ (m : ℕ). x ∷ take m (set (y ∷ ys) i (get_or (y ∷ ys) m d))) (sym f)

  swapped_first : (x y : K × V) (ys : List (K × V)) (d : K × V) → swap_remove (x ∷ y ∷ ys) 0 d ≡ get_or (y ∷ ys) (length ys) d ∷ take (length ys) (y ∷ ys)
  swapped_first x y ys d =
      let e : length (x ∷ y ∷ ys) - 1 ≡ suc (length ys) = omega arith in
      ap (λ (m : ℕ). take m (set (x ∷ y ∷ ys) 0 (get_or (x ∷ y ∷ ys) m d))) e

  last_apart : (y : K × V) (ys : List (K × V)) (d : K × V) → y ∷ ys ≡ take (length ys) (y ∷ ys) ++ get_or (y ∷ ys) (length ys) d ∷ []
  last_apart y ys d = sym (take_all (length ys + 1) (y ∷ ys) (omega arith)) ∙ take_more (y ∷ ys) (length ys) d (omega arith)

  sorted_swap : (es : List (K × V)) (i : ℕ) (d : K × V) → i < length es → sorted_by pair (swap_remove es i d) ≡ sorted_by pair (remove es i)
  sorted_swap [] i d l = absurd (omega (arith, l))
  sorted_swap (e ∷ []) zero d l = refl
  sorted_swap (e ∷ []) (suc i) d l = absurd (omega (arith, l))
  sorted_swap (e ∷ y ∷ ys) zero d l =
      let front = take (length ys) (y ∷ ys) in
      let last = get_or (y ∷ ys) (length ys) d in
      ap (sorted_by pair) (swapped_first e y ys d)
      ∙ ap (λ (xs : List (K × V)). insert_pair (pair last.1) (sorted_by pair xs)) (sym (append-nil front))
      ∙ sym (middle front [] last)
      ∙ ap (sorted_by pair) (sym (last_apart y ys d))
  sorted_swap (e ∷ y ∷ ys) (suc i) d l = ap (sorted_by pair) (swapped_next e y ys i d) ∙ ap (insert_pair (pair e.1)) (sorted_swap (y ∷ ys) i d (omega (arith, l)))

  swapped_at : (test : K → Bool) (e : K × V) (es : List (K × V)) (r : Option ℕ) → position test (keys_of (e ∷ es)) ≡ r → sorted_by pair (option_map_or (λ i. swap_remove (e ∷ es) i e) r (e ∷ es)) ≡ sorted_by pair (remove_entry test (e ∷ es))
  swapped_at test e es None h = ap (sorted_by pair) (sym (remove_absent test (e ∷ es) (Missing-position test (e ∷ es) h).value))
  swapped_at test e es (Some i) h =
      let f = Found-position test (e ∷ es) i h in
      sorted_swap (e ∷ es) i e f.within ∙ ap (sorted_by pair) (sym (gone_at test (e ∷ es) i f.or_len f.within))

  pub sorted_swapped : (test : K → Bool) (es : List (K × V)) → sorted_by pair (swap_remove_entry test es) ≡ sorted_by pair (remove_entry test es)
  sorted_swapped test [] = refl
  sorted_swapped test (e ∷ es) = swapped_at test e es (position test (keys_of (e ∷ es))) refl

  -- the pairs without one that was found
  pub sorted_without : (test : K → Bool) (es : List (K × V)) (v : V) → lookup test es ≡ Some v → sorted_by pair (swap_remove_entry test es) ≡ remove_pair (pair v) (sorted_by pair es)
  sorted_without test es v h =
      sorted_swapped test es ∙ sym (remove_insert (pair v) (sorted_by pair (remove_entry test es))) ∙ ap (remove_pair (pair v)) (sym (sorted_found test es v h))

  -- the pairs with a new one, and without the one in whose place it came
  pub sorted_new : (eq : K → K → Bool) (es : List (K × V)) (k : K) (v : V) → lookup (eq k) es ≡ None → sorted_by pair (insert_entry eq es k v) ≡ insert_pair (pair v) (sorted_by pair es)
  sorted_new eq es k v h = sorted_insert eq es k v ∙ ap (λ (xs : List (K × V)). insert_pair (pair v) (sorted_by pair xs)) (remove_absent (eq k) es h)

  pub sorted_again : (eq : K → K → Bool) (es : List (K × V)) (k : K) (v old : V) → lookup (eq k) es ≡ Some old → sorted_by pair (insert_entry eq es k v) ≡ insert_pair (pair v) (remove_pair (pair old) (sorted_by pair es))
  sorted_again eq es k v old h =
      sorted_insert eq es k v
      ∙ ap (insert_pair (pair v)) (sym (remove_insert (pair old) (sorted_by pair (remove_entry (eq k) es))) ∙ ap (remove_pair (pair old)) (sym (sorted_found (eq k) es old h)))
