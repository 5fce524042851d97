-- A table in the order of its numbers, and a part of it.
use Rattle.std.proofs.Common.{◌≡◌, ◌⊎◌, inl, inr, ◌∙◌, ap, sym, refl, arith, ℕ, ◌<◌, ◌≤◌, Bool, true, false, cond, not, ◌&&◌, nat_eq, nat_lt, nat_le, filter, map, List, [], ◌∷◌, ◌++◌}
use Rattle.std.proofs.lemmas.Bool.{eq-eqb, ne_eqb, lt-ltb, le-ltb, lt-leb, le-leb, cases_order}
use Rattle.std.specs.List.{AllByRecursion, IsDistinct}
use Rattle.std.specs.List.Sorted.{IsStrictlySortedBy}
use Rattle.std.specs.Map.{keys_of, remove_entry}
use Rattle.std.specs.Ordering.{nat_cmp, is_le, is_lt, match_ordering}
use Rattle.std.specs.declared.cmp.Ordering.{Ordering}
use Rattle.std.specs.declared.cmp.Ordering.TheVariants.{Less, Equal, Greater}
use Rattle.std.specs.declared.ops.Bound.TheVariants.{Included, Unbounded}
use Rattle.std.specs.BTreeMap.{insert_entry}
use Rattle.std.specs.BTreeMap.Range.{range_contains, entries_between}
use Rattle.amqp_link_tables.specs.declared.deliveries.Delivered.{Delivered}
use Rattle.amqp_link_tables.specs.Deliveries.{entered, forgotten, AreApart, AreInOrder, numbers_between, numbers_from, numbers_up_to}

-- ---- how two numbers compare

cmp_less : (a b : ℕ) → a < b → nat_cmp a b ≡ Less
cmp_less a b h = ap (λ c. cond c Less (cond (nat_eq a b) Equal Greater)) (lt-ltb a b h)

cmp_same : (a b : ℕ) → a ≡ b → nat_cmp a b ≡ Equal
cmp_same a b e = ap (λ c. cond c Less (cond (nat_eq a b) Equal Greater)) (le-ltb a b (omega arith)) ∙ ap (λ c. cond c Equal Greater) (eq-eqb a b e)

cmp_more : (a b : ℕ) → b < a → nat_cmp a b ≡ Greater
cmp_more a b h = ap (λ c. cond c Less (cond (nat_eq a b) Equal Greater)) (le-ltb a b (omega arith)) ∙ ap (λ c. cond c Equal Greater) (ne_eqb a b (λ e. omega arith))

less_cmp : (a b : ℕ) → nat_cmp a b ≡ Less → a < b
less_cmp a b h = by (cases_order a b)
  where
    by : (a ≡ b) ⊎ ((a < b) ⊎ (b < a)) → a < b
    by (inl e) = let s : Equal ≡ Less = sym (cmp_same a b e) ∙ h in absurd cc
    by (inr (inl less)) = less
    by (inr (inr more)) = let s : Greater ≡ Less = sym (cmp_more a b more) ∙ h in absurd cc

more_cmp : (a b : ℕ) → nat_cmp a b ≡ Greater → b < a
more_cmp a b h = by (cases_order a b)
  where
    by : (a ≡ b) ⊎ ((a < b) ⊎ (b < a)) → b < a
    by (inl e) = let s : Equal ≡ Greater = sym (cmp_same a b e) ∙ h in absurd cc
    by (inr (inl less)) = let s : Less ≡ Greater = sym (cmp_less a b less) ∙ h in absurd cc
    by (inr (inr more)) = more

from_start : (a n : ℕ) → is_le (nat_cmp a n) ≡ nat_le a n
from_start a n = by (cases_order a n)
  where
    by : (a ≡ n) ⊎ ((a < n) ⊎ (n < a)) → is_le (nat_cmp a n) ≡ nat_le a n
    by (inl e) = ap is_le (cmp_same a n e) ∙ sym (le-leb a n (omega arith))
    by (inr (inl less)) = ap is_le (cmp_less a n less) ∙ sym (le-leb a n (omega arith))
    by (inr (inr more)) = ap is_le (cmp_more a n more) ∙ sym (lt-leb a n more)

up_to_end : (b n : ℕ) → not (is_lt (nat_cmp b n)) ≡ nat_le n b
up_to_end b n = by (cases_order b n)
  where
    by : (b ≡ n) ⊎ ((b < n) ⊎ (n < b)) → not (is_lt (nat_cmp b n)) ≡ nat_le n b
    by (inl e) = ap (λ o. not (is_lt o)) (cmp_same b n e) ∙ sym (le-leb n b (omega arith))
    by (inr (inl less)) = ap (λ o. not (is_lt o)) (cmp_less b n less) ∙ sym (lt-leb n b less)
    by (inr (inr more)) = ap (λ o. not (is_lt o)) (cmp_more b n more) ∙ sym (le-leb n b (omega arith))

-- ---- the numbers of a part

numbers_of : (p q : ℕ → Bool) → ((n : ℕ) → p n ≡ q n) → (ds : List (ℕ × Delivered)) → keys_of (filter (λ e. p e.0) ds) ≡ filter q (keys_of ds)
numbers_of p q same [] = refl
numbers_of p q same (d ∷ ds) = by (p d.0) (q d.0) (same d.0) (numbers_of p q same ds)
  where
    by : (b c : Bool) → b ≡ c → keys_of (filter (λ e. p e.0) ds) ≡ filter q (keys_of ds)
        → keys_of (cond b (d ∷ filter (λ e. p e.0) ds) (filter (λ e. p e.0) ds)) ≡ cond c (d.0 ∷ filter q (keys_of ds)) (filter q (keys_of ds))
    by true true e rest = ap (λ ns. d.0 ∷ ns) rest
    by true false e rest = absurd cc
    by false true e rest = absurd cc
    by false false e rest = rest

and_true : (b : Bool) → (b && true) ≡ b
and_true true = refl
and_true false = refl

of_between : (first last : ℕ) (ds : List (ℕ × Delivered)) → keys_of (entries_between nat_cmp (Included first) (Included last) ds) ≡ numbers_between first last ds
of_between first last ds =
    numbers_of (λ n. range_contains nat_cmp (Included first) (Included last) n) (λ n. nat_le first n && nat_le n last)
    (λ n. ap (λ b. b && not (is_lt (nat_cmp last n))) (from_start first n) ∙ ap (λ b. nat_le first n && b) (up_to_end last n)) ds

pub of_between_at : (a b first last : ℕ) (ds : List (ℕ × Delivered)) → a ≡ first → b ≡ last → keys_of (entries_between nat_cmp (Included a) (Included b) ds) ≡ numbers_between first last ds
of_between_at a b first last ds e f = of_between a b ds ∙ ap (λ (x : ℕ). numbers_between x b ds) e ∙ ap (λ (y : ℕ). numbers_between first y ds) f

pub of_from : (first : ℕ) (ds : List (ℕ × Delivered)) → keys_of (entries_between nat_cmp (Included first) Unbounded ds) ≡ numbers_from first ds
of_from first ds = numbers_of (λ n. range_contains nat_cmp (Included first) Unbounded n) (nat_le first) (λ n. and_true (is_le (nat_cmp first n)) ∙ from_start first n) ds

pub of_up_to : (last : ℕ) (ds : List (ℕ × Delivered)) → keys_of (entries_between nat_cmp Unbounded (Included last) ds) ≡ numbers_up_to last ds
of_up_to last ds = numbers_of (λ n. range_contains nat_cmp Unbounded (Included last) n) (λ n. nat_le n last) (λ n. up_to_end last n) ds

-- ---- in order

abbrev Above : ℕ → List ℕ → Type 0
Above k ns = AllByRecursion (λ n. nat_cmp k n ≡ Less) ns

above_above : (j k : ℕ) → j < k → (ns : List ℕ) → Above k ns → Above j ns
above_above j k h [] a = tt
above_above j k h (n ∷ ns) a =
    let less : k < n = less_cmp k n a.0 in
    (cmp_less j n (omega (arith, h, less)), above_above j k h ns a.1)

above_apart : (k : ℕ) (ns : List ℕ) → Above k ns → AllByRecursion (λ n. nat_eq k n ≡ false) ns
above_apart k [] a = tt
above_apart k (n ∷ ns) a =
    let less : k < n = less_cmp k n a.0 in
    (ne_eqb k n (λ e. omega (arith, e, less)), above_apart k ns a.1)

above_entered : (j k : ℕ) (x : Delivered) (ds : List (ℕ × Delivered)) → j < k → Above j (keys_of ds) → Above j (keys_of (entered k x ds))
above_entered j k x [] h a = (cmp_less j k h, tt)
above_entered j k x (d ∷ ds) h a = by (nat_cmp k d.0) (above_entered j k x ds h a.1)
  where
    by : (o : Ordering) → Above j (keys_of (entered k x ds)) → Above j (keys_of (match_ordering o ((k, x) ∷ d ∷ ds) ((d.0, x) ∷ ds) (d ∷ entered k x ds)))
    by Less rest = (cmp_less j k h, a)
    by Equal rest = a
    by Greater rest = (a.0, rest)

above_forgotten : (j k : ℕ) (ds : List (ℕ × Delivered)) → Above j (keys_of ds) → Above j (keys_of (forgotten k ds))
above_forgotten j k [] a = tt
above_forgotten j k (d ∷ ds) a = by (nat_eq k d.0) (above_forgotten j k ds a.1)
  where
    by : (b : Bool) → Above j (keys_of (forgotten k ds)) → Above j (keys_of (cond b ds (d ∷ forgotten k ds)))
    by true rest = a.1
    by false rest = (a.0, rest)

sorted_none : IsStrictlySortedBy nat_cmp []
unfolding IsStrictlySortedBy
sorted_none = tt

sorted_more : (k : ℕ) (ns : List ℕ) → Above k ns → IsStrictlySortedBy nat_cmp ns → IsStrictlySortedBy nat_cmp (k ∷ ns)
unfolding IsStrictlySortedBy
sorted_more k ns a s = (a, s)

above_first : (k : ℕ) (ns : List ℕ) → IsStrictlySortedBy nat_cmp (k ∷ ns) → Above k ns
unfolding IsStrictlySortedBy
above_first k ns s = s.0

sorted_rest : (k : ℕ) (ns : List ℕ) → IsStrictlySortedBy nat_cmp (k ∷ ns) → IsStrictlySortedBy nat_cmp ns
unfolding IsStrictlySortedBy
sorted_rest k ns s = s.1

pub none_in_order : AreInOrder []
none_in_order = sorted_none

pub entered_in_order : (k : ℕ) (x : Delivered) (ds : List (ℕ × Delivered)) → AreInOrder ds → AreInOrder (entered k x ds)
entered_in_order k x [] s = sorted_more k [] tt sorted_none
entered_in_order k x (d ∷ ds) s = by (nat_cmp k d.0) refl (entered_in_order k x ds (sorted_rest d.0 (keys_of ds) s))
  where
    by : (o : Ordering) → nat_cmp k d.0 ≡ o → IsStrictlySortedBy nat_cmp (keys_of (entered k x ds))
        → IsStrictlySortedBy nat_cmp (keys_of (match_ordering o ((k, x) ∷ d ∷ ds) ((d.0, x) ∷ ds) (d ∷ entered k x ds)))
    by Less e rest = sorted_more k (d.0 ∷ keys_of ds) (e, above_above k d.0 (less_cmp k d.0 e) (keys_of ds) (above_first d.0 (keys_of ds) s)) s
    by Equal e rest = s
    by Greater e rest = sorted_more d.0 (keys_of (entered k x ds)) (above_entered d.0 k x ds (more_cmp k d.0 e) (above_first d.0 (keys_of ds) s)) rest

pub forgotten_in_order : (k : ℕ) (ds : List (ℕ × Delivered)) → AreInOrder ds → AreInOrder (forgotten k ds)
forgotten_in_order k [] s = s
forgotten_in_order k (d ∷ ds) s = by (nat_eq k d.0) (forgotten_in_order k ds (sorted_rest d.0 (keys_of ds) s))
  where
    by : (b : Bool) → IsStrictlySortedBy nat_cmp (keys_of (forgotten k ds)) → IsStrictlySortedBy nat_cmp (keys_of (cond b ds (d ∷ forgotten k ds)))
    by true rest = sorted_rest d.0 (keys_of ds) s
    by false rest = sorted_more d.0 (keys_of (forgotten k ds)) (above_forgotten d.0 k ds (above_first d.0 (keys_of ds) s)) rest

pub sorted_apart : (ns : List ℕ) → IsStrictlySortedBy nat_cmp ns → IsDistinct nat_eq ns
unfolding IsDistinct
sorted_apart [] s = tt
sorted_apart (n ∷ ns) s = (above_apart n ns (above_first n ns s), sorted_apart ns (sorted_rest n ns s))

pub in_order_apart : (ds : List (ℕ × Delivered)) → AreInOrder ds → AreApart ds
in_order_apart ds s = sorted_apart (keys_of ds) s
