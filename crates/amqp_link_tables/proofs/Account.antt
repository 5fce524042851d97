-- What taking and giving back a handle make of what is kept of the handles.
use Rattle.std.proofs.Common.{◌≡◌, ◌⊎◌, inl, inr, ◌∙◌, ap, subst, refl, sym, arith, zero-add, get_or, length, ℕ, ◌+◌, ◌<◌, ◌≤◌, ◌^◌, Bool, true, false, cond, nat_eq, nat_lt, List, [], ◌∷◌, Option, Some, None, is_some, if◌then◌else◌, IsPermutation, Result, Ok, Err, IsOk, OnOk}
use Rattle.std.proofs.lemmas.Bool.{ltb-true, eqb-true, eqb-false, lt-ltb, le-ltb, eq-eqb, ne_eqb, cases_order}
use Rattle.std.proofs.lemmas.List.Sorted.{sum_by-IsPermutation, length_permutation}
use Rattle.std.proofs.lemmas.List.Sums.{sum_by-cons}
use Rattle.std.proofs.lemmas.Map.Keys.{ge_from_not_lt}
use Rattle.std.specs.BinaryHeap.{IsUpperBound}
use Rattle.std.specs.Map.{lookup}
use Rattle.std.specs.declared.cmp.Reverse.{Reverse}
use Rattle.amqp_link_tables.specs.declared.handles.Held.{Held}
use Rattle.amqp_link_tables.specs.Handles.{is_held, IsLowestFree}
use Rattle.amqp_link_tables.specs.Kept.{lowest_first, times, due, IsAccount}

-- ---- how often a handle stands in the heap

times-cons : (k : ℕ) (x : Reverse ℕ) (xs : List (Reverse ℕ)) → times k (x ∷ xs) ≡ cond (nat_eq k x.0) 1 0 + times k xs
times-cons k x xs = sum_by-cons (λ (y : Reverse ℕ). cond (nat_eq k y.0) 1 0) x xs

times-moved : (k : ℕ) (xs ys : List (Reverse ℕ)) → IsPermutation xs ys → times k ys ≡ times k xs
times-moved k xs ys p = sum_by-IsPermutation (λ (y : Reverse ℕ). cond (nat_eq k y.0) 1 0) xs ys p

times-own : (k : ℕ) (x : Reverse ℕ) (xs : List (Reverse ℕ)) → k ≡ x.0 → times k (x ∷ xs) ≡ 1 + times k xs
times-own k x xs e = times-cons k x xs ∙ ap (λ b. cond b 1 0 + times k xs) (eq-eqb k x.0 e)

times-other : (k : ℕ) (x : Reverse ℕ) (xs : List (Reverse ℕ)) → (k ≡ x.0 → ⊥) → times k (x ∷ xs) ≡ times k xs
times-other k x xs e = times-cons k x xs ∙ ap (λ b. cond b 1 0 + times k xs) (ne_eqb k x.0 e) ∙ zero-add (times k xs)

times-below : (k : ℕ) (x : Reverse ℕ) (xs : List (Reverse ℕ)) → IsUpperBound lowest_first x xs → k < x.0 → times k xs ≡ 0
times-below k x [] h less = refl
times-below k x (y ∷ ys) h less =
    let above : x.0 ≤ y.0 = ge_from_not_lt y.0 x.0 h.0 in
    let rest : times k ys ≡ 0 = times-below k x ys h.1 less in
    times-other k y ys (λ e. omega arith) ∙ rest

due-at : (u v h g : Bool) → u ≡ v → h ≡ g → due u h ≡ due v g
due-at u v h g e f = ap (λ b. due b h) e ∙ ap (λ b. due v b) f

due-one : (u h : Bool) → 0 < due u h → (u ≡ true) × (h ≡ false)
due-one false h p = absurd (omega arith)
due-one true true p = absurd (omega arith)
due-one true false p = (refl, refl)

due-none : (h : Bool) → 0 ≡ due true h → h ≡ true
due-none true p = refl
due-none false p = absurd (omega arith)

-- ---- the lowest one

lowest_at : (xs rest : List (Reverse ℕ)) (fresh : ℕ) (hs : List (ℕ × Held)) (x : Reverse ℕ) → IsAccount xs fresh hs → xs ≡ x ∷ rest → IsUpperBound lowest_first x xs → IsLowestFree x.0 hs
lowest_at xs rest fresh hs x a at bound =
    let one : times x.0 xs ≡ 1 + times x.0 rest = ap (times x.0) at ∙ times-own x.0 x rest refl in
    let each : times x.0 xs ≡ due (nat_lt x.0 fresh) (is_held x.0 hs) = a.each x.0 in
    let free : (nat_lt x.0 fresh ≡ true) × (is_held x.0 hs ≡ false) = due-one (nat_lt x.0 fresh) (is_held x.0 hs) (omega arith) in
    let used : x.0 < fresh = ltb-true x.0 fresh free.0 in
    (free.1, λ k less. due-none (is_held k hs) (sym (times-below k x xs bound less) ∙ a.each k ∙ ap (λ b. due b (is_held k hs)) (lt-ltb k fresh (omega arith))))

pub lowest_there : (xs : List (Reverse ℕ)) (fresh : ℕ) (hs : List (ℕ × Held)) (x : Reverse ℕ) → IsAccount xs fresh hs → 0 < length xs → x ≡ get_or xs 0 x → IsUpperBound lowest_first x xs → IsLowestFree x.0 hs
lowest_there [] fresh hs x a some at bound = absurd (omega arith)
lowest_there (y ∷ rest) fresh hs x a some at bound = lowest_at (y ∷ rest) rest fresh hs x a (ap (λ z. z ∷ rest) (sym at)) bound

pub lowest_fresh : (fresh : ℕ) (hs : List (ℕ × Held)) → IsAccount [] fresh hs → IsLowestFree fresh hs
lowest_fresh fresh hs a = (by (is_held fresh hs) refl, λ k less. due-none (is_held k hs) (a.each k ∙ ap (λ b. due b (is_held k hs)) (lt-ltb k fresh less)))
  where
    by : (b : Bool) → is_held fresh hs ≡ b → is_held fresh hs ≡ false
    by false e = e
    by true e = let no : fresh < fresh = a.used fresh e in absurd (omega arith)

pub lowest_one : (hs : List (ℕ × Held)) (j k : ℕ) → IsLowestFree j hs → IsLowestFree k hs → j ≡ k
lowest_one hs j k p q = by (cases_order j k)
  where
    by : (j ≡ k) ⊎ ((j < k) ⊎ (k < j)) → j ≡ k
    by (inl e) = e
    by (inr (inl less)) = let e : true ≡ false = sym (q.1 j less) ∙ p.0 in cc
    by (inr (inr less)) = let e : true ≡ false = sym (p.1 k less) ∙ q.0 in cc

-- ---- a handle is given back

-- what a change of one handle makes of all
abbrev pub Turns : ℕ → Option Held → List (ℕ × Held) → List (ℕ × Held) → Type 0
Turns h o hs gs = (q : ℕ) → lookup (nat_eq q) gs ≡ cond (nat_eq h q) o (lookup (nat_eq q) hs)

turned : (h q : ℕ) (o : Option Held) (hs gs : List (ℕ × Held)) (b : Bool) → Turns h o hs gs → nat_eq h q ≡ b → is_held q gs ≡ is_some (cond b o (lookup (nat_eq q) hs))
turned h q o hs gs b t e = ap is_some (t q ∙ ap (λ c. cond c o (lookup (nat_eq q) hs)) e)

pub freed : (xs ys : List (Reverse ℕ)) (fresh : ℕ) (hs gs : List (ℕ × Held)) (x : Reverse ℕ) → IsAccount xs fresh hs → is_held x.0 hs ≡ true → IsPermutation (x ∷ xs) ys → Turns x.0 None hs gs → IsAccount ys fresh gs
freed xs ys fresh hs gs x a there p t = record {
  each = λ q. each q (nat_eq x.0 q) refl;
  used = λ q. used q (nat_eq x.0 q) refl;
  few = a.few;
}
  where
    each : (q : ℕ) (b : Bool) → nat_eq x.0 q ≡ b → times q ys ≡ due (nat_lt q fresh) (is_held q gs)
    each q true e =
        let same : x.0 ≡ q = eqb-true x.0 q e in
        let held : is_held q hs ≡ true = subst (λ k. is_held k hs ≡ true) same there in
        let below : nat_lt q fresh ≡ true = lt-ltb q fresh (a.used q held) in
        let none : times q xs ≡ 0 = a.each q ∙ due-at (nat_lt q fresh) true (is_held q hs) true below held in
        times-moved q (x ∷ xs) ys p ∙ times-own q x xs (sym same) ∙ ap (λ n. 1 + n) none ∙ sym (due-at (nat_lt q fresh) true (is_held q gs) false below (turned x.0 q None hs gs true t e))
    each q false e =
        times-moved q (x ∷ xs) ys p ∙ times-other q x xs (λ k. eqb-false x.0 q e (sym k)) ∙ a.each q ∙ sym (ap (due (nat_lt q fresh)) (turned x.0 q None hs gs false t e))

    used : (q : ℕ) (b : Bool) → nat_eq x.0 q ≡ b → is_held q gs ≡ true → q < fresh
    used q true e h = let no : true ≡ false = sym h ∙ turned x.0 q None hs gs true t e in cc
    used q false e h = a.used q (sym (turned x.0 q None hs gs false t e) ∙ h)

-- ---- a handle is taken

pub popped : (xs ys : List (Reverse ℕ)) (fresh : ℕ) (hs gs : List (ℕ × Held)) (x : Reverse ℕ) (held : Held) → IsAccount xs fresh hs → IsPermutation xs (x ∷ ys) → Turns x.0 (Some held) hs gs → IsAccount ys fresh gs
popped xs ys fresh hs gs x held a p t = record {
  each = λ q. each q (nat_eq x.0 q) refl;
  used = λ q. used q (nat_eq x.0 q) refl;
  few = a.few;
}
  where
    free : (nat_lt x.0 fresh ≡ true) × (is_held x.0 hs ≡ false)
    free =
        let one : times x.0 xs ≡ 1 + times x.0 ys = sym (times-moved x.0 xs (x ∷ ys) p) ∙ times-own x.0 x ys refl in
        let each : times x.0 xs ≡ due (nat_lt x.0 fresh) (is_held x.0 hs) = a.each x.0 in
        due-one (nat_lt x.0 fresh) (is_held x.0 hs) (omega arith)

    each : (q : ℕ) (b : Bool) → nat_eq x.0 q ≡ b → times q ys ≡ due (nat_lt q fresh) (is_held q gs)
    each q true e =
        let same : x.0 ≡ q = eqb-true x.0 q e in
        let below : nat_lt q fresh ≡ true = subst (λ k. nat_lt k fresh ≡ true) same free.0 in
        let not_held : is_held q hs ≡ false = subst (λ k. is_held k hs ≡ false) same free.1 in
        let one : times q xs ≡ 1 + times q ys = sym (times-moved q xs (x ∷ ys) p) ∙ times-own q x ys (sym same) in
        let was : times q xs ≡ 1 = a.each q ∙ due-at (nat_lt q fresh) true (is_held q hs) false below not_held in
        let none : times q ys ≡ 0 = omega arith in
        none ∙ sym (due-at (nat_lt q fresh) true (is_held q gs) true below (turned x.0 q (Some held) hs gs true t e))
    each q false e =
        sym (times-other q x ys (λ k. eqb-false x.0 q e (sym k))) ∙ times-moved q xs (x ∷ ys) p ∙ a.each q ∙ sym (ap (due (nat_lt q fresh)) (turned x.0 q (Some held) hs gs false t e))

    used : (q : ℕ) (b : Bool) → nat_eq x.0 q ≡ b → is_held q gs ≡ true → q < fresh
    used q true e h = subst (λ k. k < fresh) (eqb-true x.0 q e) (ltb-true x.0 fresh free.0)
    used q false e h = a.used q (sym (turned x.0 q (Some held) hs gs false t e) ∙ h)

pub begun : (fresh : ℕ) (hs gs : List (ℕ × Held)) (held : Held) → IsAccount [] fresh hs → fresh < 2 ^ 32 → Turns fresh (Some held) hs gs → IsAccount [] (fresh + 1) gs
begun fresh hs gs held a fits t = record {
  each = λ q. each q (cases_order q fresh);
  used = λ q. used q (nat_eq fresh q) refl;
  few = omega arith;
}
  where
    lowest : IsLowestFree fresh hs
    lowest = lowest_fresh fresh hs a

    each : (q : ℕ) → (q ≡ fresh) ⊎ ((q < fresh) ⊎ (fresh < q)) → 0 ≡ due (nat_lt q (fresh + 1)) (is_held q gs)
    each q (inl e) = sym (due-at (nat_lt q (fresh + 1)) true (is_held q gs) true (lt-ltb q (fresh + 1) (omega arith)) (turned fresh q (Some held) hs gs true t (eq-eqb fresh q (sym e))))
    each q (inr (inl less)) = sym (due-at (nat_lt q (fresh + 1)) true (is_held q gs) true (lt-ltb q (fresh + 1) (omega arith)) (turned fresh q (Some held) hs gs false t (ne_eqb fresh q (λ e. omega arith)) ∙ lowest.1 q less))
    each q (inr (inr more)) = sym (ap (λ b. due b (is_held q gs)) (le-ltb q (fresh + 1) (omega arith)))

    used : (q : ℕ) (b : Bool) → nat_eq fresh q ≡ b → is_held q gs ≡ true → q < fresh + 1
    used q true e h = let same : fresh ≡ q = eqb-true fresh q e in omega arith
    used q false e h = let less : q < fresh = a.used q (sym (turned fresh q (Some held) hs gs false t e) ∙ h) in omega arith

-- the heap's first is the handle that is to be taken
pub taken : (xs zs ys : List (Reverse ℕ)) (fresh : ℕ) (hs gs : List (ℕ × Held)) (h : ℕ) (x : Reverse ℕ) (held : Held) → IsAccount xs fresh hs → zs ≡ xs → IsLowestFree h hs → IsPermutation zs (x ∷ ys) → x ≡ get_or zs 0 x → IsUpperBound lowest_first x zs → Turns h (Some held) hs gs → IsAccount ys fresh gs
taken xs zs ys fresh hs gs h x held a e low p top bound t =
    let b : IsAccount zs fresh hs = subst (λ ws. IsAccount ws fresh hs) (sym e) a in
    let long : length (x ∷ ys) ≡ length zs = length_permutation zs (x ∷ ys) p in
    let first : IsLowestFree x.0 hs = lowest_there zs fresh hs x b (subst (λ n. 0 < n) long (omega arith)) top bound in
    popped zs ys fresh hs gs x held b p (subst (λ k. Turns k (Some held) hs gs) (lowest_one hs h x.0 low first) t)

-- no handle that was used is free
pub taken_fresh : (xs zs : List (Reverse ℕ)) (fresh : ℕ) (hs gs : List (ℕ × Held)) (h : ℕ) (held : Held) → IsAccount xs fresh hs → zs ≡ xs → length zs ≡ 0 → IsLowestFree h hs → h < 2 ^ 32 → Turns h (Some held) hs gs → IsAccount zs (fresh + 1) gs
taken_fresh xs [] fresh hs gs h held a e none low fits t =
    let b : IsAccount [] fresh hs = subst (λ ws. IsAccount ws fresh hs) (sym e) a in
    let same : h ≡ fresh = lowest_one hs h fresh low (lowest_fresh fresh hs b) in
    begun fresh hs gs held b (subst (λ k. k < 2 ^ 32) same fits) (subst (λ k. Turns k (Some held) hs gs) same t)
taken_fresh xs (z ∷ zs) fresh hs gs h held a e none low fits t = absurd (omega arith)

-- what is promised where a call succeeds
pub at_ok : {A E P : Type 0} (r : Result A E) → IsOk r → OnOk r P → P
at_ok (Ok a) h p = p
at_ok (Err e) h p = absurd (no h)
  where
    no : false ≡ true → ⊥
    no e = cc

-- a table that has one entry more at most
pub one_more : {X : Type 0} (o : Option X) (n m : ℕ) → n ≡ m + (if is_some o then 0 else 1) → n ≤ m + 1
one_more None n m e = omega arith
one_more (Some x) n m e = omega arith
