-- The numbers of a range that have a delivery.
use Rattle.std.proofs.Common.{◌≡◌, ◌⊎◌, inl, inr, ◌∙◌, ap, subst, sym, refl, arith, zero-add, add-zero, ℕ, ◌+◌, ◌-◌, ◌%◌, ◌^◌, ◌<◌, ◌≤◌, Bool, true, false, cond, ◌&&◌, if◌then◌else◌, nat_eq, nat_le, filter, map, List, [], ◌∷◌, ◌++◌, Some, is_some}
use Rattle.std.proofs.lemmas.Bool.{eqb-true, lt-leb, le-leb, cases_lt}
use Rattle.std.proofs.lemmas.List.Sums.{sum_by-cons, sum_by-append}
use Rattle.std.proofs.lemmas.Map.Keys.{IsDistinct-head, IsDistinct-tail}
use Rattle.std.specs.List.{AllByRecursion, IsDistinct, count_by}
use Rattle.std.specs.Map.{lookup, keys_of}
use Rattle.amqp_link_tables.specs.declared.deliveries.Delivered.{Delivered}
use Rattle.amqp_link_tables.specs.Deliveries.{ahead, is_within, is_there, AreApart, IsCover, numbers_between, numbers_around, covered}

-- ---- how often a number stands in a list

count-cons : (n x : ℕ) (xs : List ℕ) → count_by (nat_eq n) (x ∷ xs) ≡ cond (nat_eq n x) 1 0 + count_by (nat_eq n) xs
count-cons n x xs = sum_by-cons (λ y. cond (nat_eq n y) 1 0) x xs

count_here : (n x : ℕ) (xs : List ℕ) → nat_eq n x ≡ true → count_by (nat_eq n) (x ∷ xs) ≡ 1 + count_by (nat_eq n) xs
count_here n x xs e = count-cons n x xs ∙ ap (λ b. cond b 1 0 + count_by (nat_eq n) xs) e

count_past : (n x : ℕ) (xs : List ℕ) → nat_eq n x ≡ false → count_by (nat_eq n) (x ∷ xs) ≡ count_by (nat_eq n) xs
count_past n x xs e = count-cons n x xs ∙ ap (λ b. cond b 1 0 + count_by (nat_eq n) xs) e ∙ zero-add (count_by (nat_eq n) xs)

-- a filter keeps all or none of the places of a number
count-filter : (p : ℕ → Bool) (n : ℕ) (b : Bool) → p n ≡ b → (xs : List ℕ) → count_by (nat_eq n) (filter p xs) ≡ cond b (count_by (nat_eq n) xs) 0
count-filter p n true e [] = refl
count-filter p n false e [] = refl
count-filter p n b e (x ∷ xs) = by (nat_eq n x) (p x) refl refl (count-filter p n b e xs)
  where
    same : nat_eq n x ≡ true → p x ≡ b
    same h = ap p (sym (eqb-true n x h)) ∙ e

    kept : (c : Bool) → p x ≡ c → filter p (x ∷ xs) ≡ cond c (x ∷ filter p xs) (filter p xs)
    kept c k = ap (λ d. cond d (x ∷ filter p xs) (filter p xs)) k

    by : (h c : Bool) → nat_eq n x ≡ h → p x ≡ c → count_by (nat_eq n) (filter p xs) ≡ cond b (count_by (nat_eq n) xs) 0 → count_by (nat_eq n) (filter p (x ∷ xs)) ≡ cond b (count_by (nat_eq n) (x ∷ xs)) 0
    by true true h c rest =
        ap (count_by (nat_eq n)) (kept true c) ∙ count_here n x (filter p xs) h ∙ ap (λ m. 1 + m) rest ∙ ap (λ d. 1 + cond d (count_by (nat_eq n) xs) 0) yes ∙ sym (count_here n x xs h) ∙ ap (λ d. cond d (count_by (nat_eq n) (x ∷ xs)) 0) (sym yes)
      where
        yes : b ≡ true
        yes = sym (same h) ∙ c
    by true false h c rest =
        ap (count_by (nat_eq n)) (kept false c) ∙ rest ∙ ap (λ d. cond d (count_by (nat_eq n) xs) 0) no ∙ ap (λ d. cond d (count_by (nat_eq n) (x ∷ xs)) 0) (sym no)
      where
        no : b ≡ false
        no = sym (same h) ∙ c
    by false true h c rest = ap (count_by (nat_eq n)) (kept true c) ∙ count_past n x (filter p xs) h ∙ rest ∙ ap (λ m. cond b m 0) (sym (count_past n x xs h))
    by false false h c rest = ap (count_by (nat_eq n)) (kept false c) ∙ rest ∙ ap (λ m. cond b m 0) (sym (count_past n x xs h))

-- ---- in the table

absent : (n x : ℕ) → nat_eq n x ≡ true → (ks : List ℕ) → AllByRecursion (λ y. nat_eq x y ≡ false) ks → count_by (nat_eq n) ks ≡ 0
absent n x e [] a = refl
absent n x e (k ∷ ks) a =
    let same : n ≡ x = eqb-true n x e in
    count_past n k ks (ap (λ m. nat_eq m k) same ∙ a.0) ∙ absent n x e ks a.1

count-keys : (n : ℕ) (ds : List (ℕ × Delivered)) → IsDistinct nat_eq (keys_of ds) → count_by (nat_eq n) (keys_of ds) ≡ cond (is_there ds n) 1 0
count-keys n [] d = refl
count-keys n (e ∷ es) d = by (nat_eq n e.0) refl (count-keys n es (IsDistinct-tail nat_eq e.0 (keys_of es) d))
  where
    by : (b : Bool) → nat_eq n e.0 ≡ b → count_by (nat_eq n) (keys_of es) ≡ cond (is_there es n) 1 0 → count_by (nat_eq n) (keys_of (e ∷ es)) ≡ cond (is_there (e ∷ es) n) 1 0
    by true h rest = count_here n e.0 (keys_of es) h ∙ ap (λ m. 1 + m) (absent n e.0 h (keys_of es) (IsDistinct-head nat_eq e.0 (keys_of es) d)) ∙ sym (ap (λ b. cond (is_some (cond b (Some e.1) (lookup (nat_eq n) es))) 1 0) h)
    by false h rest = count_past n e.0 (keys_of es) h ∙ rest ∙ sym (ap (λ b. cond (is_some (cond b (Some e.1) (lookup (nat_eq n) es))) 1 0) h)

-- ---- where a number stands

ahead_between : (first last n : ℕ) → first ≤ last → last < 2 ^ 32 → n < 2 ^ 32 → first ≤ n → n ≤ last → ahead first n ≤ ahead first last
ahead_between first last n o l h a b = omega arith

ahead_below : (first last n : ℕ) → first ≤ last → last < 2 ^ 32 → n < 2 ^ 32 → n < first → ahead first last < ahead first n
ahead_below first last n o l h a = omega arith

ahead_above : (first last n : ℕ) → first ≤ last → last < 2 ^ 32 → n < 2 ^ 32 → last < n → ahead first last < ahead first n
ahead_above first last n o l h a = omega arith

around_from : (first last n : ℕ) → last < first → first < 2 ^ 32 → n < 2 ^ 32 → first ≤ n → ahead first n ≤ ahead first last
around_from first last n o f h a = omega arith

around_up_to : (first last n : ℕ) → last < first → first < 2 ^ 32 → n ≤ last → ahead first n ≤ ahead first last
around_up_to first last n o f a = omega arith

around_past : (first last n : ℕ) → last < first → first < 2 ^ 32 → last < n → n < first → ahead first last < ahead first n
around_past first last n o f a b = omega arith

within_between : (first last n : ℕ) → first ≤ last → last < 2 ^ 32 → n < 2 ^ 32 → (nat_le first n && nat_le n last) ≡ is_within first last n
within_between first last n o l h = by (cases_lt n first) (cases_lt last n)
  where
    by : (n < first) ⊎ (first ≤ n) → (last < n) ⊎ (n ≤ last) → (nat_le first n && nat_le n last) ≡ is_within first last n
    by (inl a) c = ap (λ b. b && nat_le n last) (lt-leb first n a) ∙ sym (lt-leb (ahead first n) (ahead first last) (ahead_below first last n o l h a))
    by (inr a) (inl c) = ap (λ b. b && nat_le n last) (le-leb first n a) ∙ lt-leb n last c ∙ sym (lt-leb (ahead first n) (ahead first last) (ahead_above first last n o l h c))
    by (inr a) (inr c) = ap (λ b. b && nat_le n last) (le-leb first n a) ∙ le-leb n last c ∙ sym (le-leb (ahead first n) (ahead first last) (ahead_between first last n o l h a c))

-- ---- each once

both : (b c : Bool) → ◌≡◌ {A = ℕ} (cond b (cond c 1 0) 0) (if b && c then 1 else 0)
both true true = refl
both true false = refl
both false true = refl
both false false = refl

-- how often a number stands in a part of the table
count_part : (p : ℕ → Bool) (n : ℕ) (b : Bool) (ds : List (ℕ × Delivered)) → AreApart ds → p n ≡ b → count_by (nat_eq n) (filter p (keys_of ds)) ≡ (if b && is_there ds n then 1 else 0)
count_part p n b ds d e = count-filter p n b e (keys_of ds) ∙ ap (λ m. cond b m 0) (count-keys n ds d) ∙ both b (is_there ds n)

pub between_covers : (first last : ℕ) (ds : List (ℕ × Delivered)) → first ≤ last → last < 2 ^ 32 → AreApart ds → IsCover first last ds (numbers_between first last ds)
between_covers first last ds o l d = λ n h. count_part (λ m. nat_le first m && nat_le m last) n (is_within first last n) ds d (within_between first last n o l h)

count_around : (first last n : ℕ) (b c : Bool) (ds : List (ℕ × Delivered)) → AreApart ds → nat_le first n ≡ b → nat_le n last ≡ c
    → count_by (nat_eq n) (numbers_around first last ds) ≡ (if b && is_there ds n then 1 else 0) + (if c && is_there ds n then 1 else 0)
count_around first last n b c ds d e f =
    sum_by-append (λ m. cond (nat_eq n m) 1 0) (filter (nat_le first) (keys_of ds)) (filter (λ m. nat_le m last) (keys_of ds))
    ∙ ap (λ k. k + count_by (nat_eq n) (filter (λ m. nat_le m last) (keys_of ds))) (count_part (nat_le first) n b ds d e)
    ∙ ap (λ k. (if b && is_there ds n then 1 else 0) + k) (count_part (λ m. nat_le m last) n c ds d f)

pub around_covers : (first last : ℕ) (ds : List (ℕ × Delivered)) → last < first → first < 2 ^ 32 → AreApart ds → IsCover first last ds (numbers_around first last ds)
around_covers first last ds o f d = λ n h. by n h (cases_lt n first) (cases_lt last n)
  where
    so : (n : ℕ) (w : Bool) → is_within first last n ≡ w → ◌≡◌ {A = ℕ} (if w && is_there ds n then 1 else 0) (if is_within first last n && is_there ds n then 1 else 0)
    so n w e = ap (λ b. if b && is_there ds n then 1 else 0) (sym e)

    by : (n : ℕ) → n < 2 ^ 32 → (n < first) ⊎ (first ≤ n) → (last < n) ⊎ (n ≤ last) → count_by (nat_eq n) (numbers_around first last ds) ≡ (if is_within first last n && is_there ds n then 1 else 0)
    by n h (inl a) (inl c) = count_around first last n false false ds d (lt-leb first n a) (lt-leb n last c) ∙ so n false (lt-leb (ahead first n) (ahead first last) (around_past first last n o f c a))
    by n h (inl a) (inr c) =
        count_around first last n false true ds d (lt-leb first n a) (le-leb n last c) ∙ zero-add (if is_there ds n then 1 else 0)
        ∙ so n true (le-leb (ahead first n) (ahead first last) (around_up_to first last n o f c))
    by n h (inr a) (inl c) =
        count_around first last n true false ds d (le-leb first n a) (lt-leb n last c) ∙ add-zero (if is_there ds n then 1 else 0)
        ∙ so n true (le-leb (ahead first n) (ahead first last) (around_from first last n o f h a))
    by n h (inr a) (inr c) = absurd (omega (arith, o, a, c))

pub covers : (first last : ℕ) (ds : List (ℕ × Delivered)) → first < 2 ^ 32 → last < 2 ^ 32 → AreApart ds → IsCover first last ds (covered first last ds)
covers first last ds f l d = by (cases_lt last first)
  where
    chosen : (b : Bool) → nat_le first last ≡ b → IsCover first last ds (if b then numbers_between first last ds else numbers_around first last ds) → IsCover first last ds (covered first last ds)
    chosen b e k = subst (λ c. IsCover first last ds (if c then numbers_between first last ds else numbers_around first last ds)) (sym e) k

    by : (last < first) ⊎ (first ≤ last) → IsCover first last ds (covered first last ds)
    by (inl a) = chosen false (lt-leb first last a) (around_covers first last ds a f d)
    by (inr a) = chosen true (le-leb first last a) (between_covers first last ds a l d)
