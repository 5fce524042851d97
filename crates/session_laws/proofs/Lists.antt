-- Each of a list, and one among them.
use Rattle.std.specs.Prelude.{◌≡◌, ◌⊎◌, ℕ, zero, suc, ◌-◌, Bool, true, false, cond, List, [], ◌∷◌, ◌++◌, length, map, filter, flat_map, Option, Some, None, if◌then◌else◌, refl}
use Rattle.std.specs.List.{swap_remove, position}
use Rattle.std.specs.Map.{keys_of}
use Rattle.std.specs.Option.{option_map_or}
use Rattle.std.proofs.Common.{sym, ap, subst, inl, inr, take, slice_set, slice_index_or}
use Rattle.indexmap.specs.IndexMap.{insert_entry, swap_remove_entry}
use Rattle.session_laws.specs.Settling.{IsAmong}
use Rattle.session_laws.specs.Speaking.{AreAmong}

abbrev pub Each : {X : Type 0} → (X → Type 0) → List X → Type 0
Each P [] = Unit {0}
Each P (x ∷ xs) = P x × Each P xs

pub each_both : {X : Type 0} → (P : X → Type 0) (xs ys : List X) → Each P xs → Each P ys → Each P (xs ++ ys)
each_both P [] ys h k = k
each_both P (x ∷ xs) ys h k = (h.0, each_both P xs ys h.1 k)

pub each_first : {X : Type 0} → (P : X → Type 0) (xs ys : List X) → Each P (xs ++ ys) → Each P xs
each_first P [] ys h = tt
each_first P (x ∷ xs) ys h = (h.0, each_first P xs ys h.1)

pub each_last : {X : Type 0} → (P : X → Type 0) (xs ys : List X) → Each P (xs ++ ys) → Each P ys
each_last P [] ys h = h
each_last P (x ∷ xs) ys h = each_last P xs ys h.1

pub each_so : {X : Type 0} → (P Q : X → Type 0) (xs : List X) → ((x : X) → P x → Q x) → Each P xs → Each Q xs
each_so P Q [] f h = tt
each_so P Q (x ∷ xs) f h = (f x h.0, each_so P Q xs f h.1)

pub each_at : {X : Type 0} → (P : X → Type 0) (xs : List X) (x : X) → IsAmong x xs → Each P xs → P x
each_at P [] x a h = absurd a
each_at P (y ∷ ys) x (inl e) h = subst P (sym e) h.0
each_at P (y ∷ ys) x (inr a) h = each_at P ys x a h.1

pub each_all : {X : Type 0} → (P : X → Type 0) (xs : List X) → ((x : X) → IsAmong x xs → P x) → Each P xs
each_all P [] f = tt
each_all P (x ∷ xs) f = (f x (inl refl), each_all P xs (λ y a. f y (inr a)))

-- ---- what is among

pub among_first : {X : Type 0} → (x : X) (xs ys : List X) → IsAmong x xs → IsAmong x (xs ++ ys)
among_first x [] ys h = absurd h
among_first x (y ∷ xs) ys (inl e) = inl e
among_first x (y ∷ xs) ys (inr h) = inr (among_first x xs ys h)

pub among_last : {X : Type 0} → (x : X) (xs ys : List X) → IsAmong x ys → IsAmong x (xs ++ ys)
among_last x [] ys h = h
among_last x (y ∷ xs) ys h = inr (among_last x xs ys h)

pub either : {X : Type 0} → (x : X) (xs ys : List X) → IsAmong x (xs ++ ys) → IsAmong x xs ⊎ IsAmong x ys
either x [] ys a = inr a
either x (z ∷ zs) ys (inl e) = inl (inl e)
either x (z ∷ zs) ys (inr a) = pushed (either x zs ys a)
  where
    pushed : IsAmong x zs ⊎ IsAmong x ys → IsAmong x (z ∷ zs) ⊎ IsAmong x ys
    pushed (inl h) = inl (inr h)
    pushed (inr h) = inr h

pub none_among : {X P : Type 0} → (x : X) (xs : List X) → xs ≡ [] → IsAmong x xs → P
none_among x [] e a = absurd a
none_among x (y ∷ ys) e a = absurd cc

pub are_at : {X : Type 0} → (xs ys : List X) (x : X) → AreAmong xs ys → IsAmong x xs → IsAmong x ys
are_at [] ys x h a = absurd a
are_at (z ∷ zs) ys x h (inl e) = subst (λ w. IsAmong w ys) (sym e) h.0
are_at (z ∷ zs) ys x h (inr a) = are_at zs ys x h.1 a

pub among_flat : {X Y : Type 0} → (f : X → List Y) (xs : List X) (x : X) (y : Y) → IsAmong x xs → IsAmong y (f x) → IsAmong y (flat_map f xs)
among_flat f [] x y a h = absurd a
among_flat f (z ∷ zs) x y (inl e) h = among_first y (f z) (flat_map f zs) (subst (λ w. IsAmong y (f w)) e h)
among_flat f (z ∷ zs) x y (inr a) h = among_last y (f z) (flat_map f zs) (among_flat f zs x y a h)

pub among_map : {X Y : Type 0} → (f : X → Y) (xs : List X) (x : X) → IsAmong x xs → IsAmong (f x) (map f xs)
among_map f [] x a = absurd a
among_map f (z ∷ zs) x (inl e) = inl (ap f e)
among_map f (z ∷ zs) x (inr a) = inr (among_map f zs x a)

-- ---- each of a list that is made of others

pub each_flat : {X Y : Type 0} → (P : Y → Type 0) (f : X → List Y) (xs : List X) → Each (λ (x : X). Each P (f x)) xs → Each P (flat_map f xs)
each_flat P f [] h = tt
each_flat P f (x ∷ xs) h = each_both P (f x) (flat_map f xs) h.0 (each_flat P f xs h.1)

pub each_kept : {X : Type 0} → (P : X → Type 0) (test : X → Bool) (xs : List X) → Each P xs → Each P (filter test xs)
each_kept P test [] h = tt
each_kept P test (x ∷ xs) h = by (test x) (each_kept P test xs h.1)
  where
    by : (c : Bool) → Each P (filter test xs) → Each P (cond c (x ∷ filter test xs) (filter test xs))
    by true k = (h.0, k)
    by false k = k

-- ---- tables

each_set : {X : Type 0} → (P : X → Type 0) (xs : List X) (i : ℕ) (a : X) → P a → Each P xs → Each P (slice_set xs i a)
each_set P [] zero a h k = k
each_set P [] (suc i) a h k = k
each_set P (x ∷ xs) zero a h k = (h, k.1)
each_set P (x ∷ xs) (suc i) a h k = (k.0, each_set P xs i a h k.1)

each_index : {X : Type 0} → (P : X → Type 0) (xs : List X) (i : ℕ) (d : X) → P d → Each P xs → P (slice_index_or xs i d)
each_index P [] zero d h k = h
each_index P [] (suc i) d h k = h
each_index P (x ∷ xs) zero d h k = k.0
each_index P (x ∷ xs) (suc i) d h k = each_index P xs i d h k.1

each_take : {X : Type 0} → (P : X → Type 0) (n : ℕ) (xs : List X) → Each P xs → Each P (take n xs)
each_take P zero [] k = tt
each_take P zero (x ∷ xs) k = tt
each_take P (suc n) [] k = tt
each_take P (suc n) (x ∷ xs) k = (k.0, each_take P n xs k.1)

each_swapped : {X : Type 0} → (P : X → Type 0) (xs : List X) (i : ℕ) (d : X) → P d → Each P xs → Each P (swap_remove xs i d)
each_swapped P xs i d h k = each_take P (length xs - 1) (slice_set xs i (slice_index_or xs (length xs - 1) d)) (each_set P xs i (slice_index_or xs (length xs - 1) d) (each_index P xs (length xs - 1) d h k) k)

each_or : {X : Type 0} → (P : X → Type 0) (xs : List X) (d : X) → P d → Each P xs → (o : Option ℕ) → Each P (option_map_or (λ (i : ℕ). swap_remove xs i d) o xs)
each_or P xs d h k None = k
each_or P xs d h k (Some i) = each_swapped P xs i d h k

pub each_removed : {K V : Type 0} → (P : K × V → Type 0) (test : K → Bool) (es : List (K × V)) → Each P es → Each P (swap_remove_entry test es)
each_removed P test [] k = k
each_removed P test (e ∷ es) k = each_or P (e ∷ es) e k.0 k (position test (keys_of (e ∷ es)))

pub each_inserted : {K V : Type 0} → (P : K × V → Type 0) (eq : K → K → Bool) (es : List (K × V)) (key : K) (v : V) → P (key, v) → ((x : K) → eq key x ≡ true → P (x, v)) → Each P es → Each P (insert_entry eq es key v)
each_inserted P eq [] key v p h k = (p, tt)
each_inserted P eq (e ∷ es) key v p h k = tested (eq key e.0) refl (each_inserted P eq es key v p h k.1)
  where
    tested : (c : Bool) → eq key e.0 ≡ c → Each P (insert_entry eq es key v) → Each P (if c then (e.0, v) ∷ es else e ∷ insert_entry eq es key v)
    tested true t r = (h e.0 t, k.1)
    tested false t r = (k.0, r)
