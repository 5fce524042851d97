-- The entry of a map at a key, by its place in the list of entries.
use Rattle.std.proofs.Common.{◌≡◌, ◌≢◌, ℕ, zero, suc, ◌+◌, ◌<◌, Bool, true, false, cond, List, [], ◌∷◌, ◌++◌, length, get_or, Option, Some, None, position, refl, sym, ap, ap₂, subst, ◌∙◌, arith}
use Rattle.std.proofs.Math.ListN.{set}
use Rattle.std.specs.List.{position_from}
use Rattle.std.proofs.lemmas.Bool.{true≢false}
use Rattle.std.proofs.lemmas.Option.{none-some}
use Rattle.std.proofs.lemmas.List.Quantifiers.{position-Some}
use Rattle.std.proofs.lemmas.Iterator.Adapters.{position_from-zero}
use Rattle.amqp_data.specs.declared.value.Value.{Value}
use Rattle.amqp_data.specs.declared.value.Entry.{Entry}
use Rattle.amqp_data.specs.Data.{Amqp, Pairs, no_pairs, pair, pair_count, IsNew, HasDistinctKeys}
use Rattle.amqp_data.specs.Maps.{lookup, inserted}
use Rattle.amqp_data.specs.Same.{same}
use Rattle.amqp_data.specs.SameLaws.{same_decides}
use Rattle.amqp_data.specs.View.{view, pairs_view}

-- ---- counting

pub pair_count_view : (es : List Entry) → pair_count (pairs_view es) ≡ length es
pair_count_view [] = refl
pair_count_view (e ∷ es) = ap suc (pair_count_view es)

pub empty_view : (es : List Entry) → length es ≡ 0 → pairs_view es ≡ no_pairs
empty_view [] h = refl
empty_view (e ∷ es) h = absurd (omega (arith, h))

pub view_empty : (es : List Entry) → pairs_view es ≡ no_pairs → length es ≡ 0
view_empty es h = sym (pair_count_view es) ∙ ap pair_count h

-- ---- a key that is there

abbrev pub has_key : Amqp → Entry → Bool
has_key k e = same (view e.key) k

looked : (k : Amqp) (es : List Entry) (i : ℕ) (d : Entry) → i < length es → has_key k (get_or es i d) ≡ true → ((j : ℕ) → j < i → has_key k (get_or es j d) ≡ false)
    → lookup k (pairs_view es) ≡ Some (view (get_or es i d).value)
unfolding lookup
looked k [] i d lt here before = absurd (omega (arith, lt))
looked k (e ∷ es) zero d lt here before = rw here refl
looked k (e ∷ es) (suc i) d lt here before =
    rw (before 0 (omega arith)) (looked k es i d (omega (arith, lt)) here (λ j l. before (suc j) (omega (arith, l))))

changed : (k : Amqp) (x : Value) (es : List Entry) (i : ℕ) (d : Entry) → i < length es → has_key k (get_or es i d) ≡ true → ((j : ℕ) → j < i → has_key k (get_or es j d) ≡ false)
    → pairs_view (set es i (record { key = (get_or es i d).key; value = x })) ≡ inserted k (view x) (pairs_view es)
unfolding inserted
changed k x [] i d lt here before = absurd (omega (arith, lt))
changed k x (e ∷ es) zero d lt here before = rw here refl
changed k x (e ∷ es) (suc i) d lt here before =
    rw (before 0 (omega arith)) (ap (pair (view e.key) (view e.value)) (changed k x es i d (omega (arith, lt)) here (λ j l. before (suc j) (omega (arith, l)))))

pub lookup-place : (k : Amqp) (es : List Entry) (i : ℕ) (d : Entry) → position (has_key k) es ≡ Some i → lookup k (pairs_view es) ≡ Some (view (get_or es i d).value)
lookup-place k es i d at = let p = position-Some (has_key k) es i d at in looked k es i d p.0 p.1 p.2

pub inserted-place : (k : Amqp) (x : Value) (es : List Entry) (i : ℕ) (d : Entry) → position (has_key k) es ≡ Some i
    → pairs_view (set es i (record { key = (get_or es i d).key; value = x })) ≡ inserted k (view x) (pairs_view es)
inserted-place k x es i d at = let p = position-Some (has_key k) es i d at in changed k x es i d p.0 p.1 p.2

-- ---- a key that is not there

not_found : {A : Type 0} (b : Bool) (x : A) (o : Option A) → cond b (Some x) o ≡ None → (b ≡ false) × (o ≡ None)
not_found true x o e = absurd (none-some x (sym e))
not_found false x o e = (refl, e)

none_looked : (k : Amqp) (es : List Entry) (i : ℕ) → position_from (has_key k) i es ≡ None → lookup k (pairs_view es) ≡ None
unfolding lookup
none_looked k [] i e = refl
none_looked k (x ∷ es) i e =
    let p = not_found (has_key k x) i (position_from (has_key k) (i + 1) es) e in
    rw p.0 (none_looked k es (i + 1) p.1)

pub lookup-no_place : (k : Amqp) (es : List Entry) → position (has_key k) es ≡ None → lookup k (pairs_view es) ≡ None
lookup-no_place k es e = none_looked k es 0 (sym (position_from-zero (has_key k) es) ∙ e)

pub inserted-absent : (k v : Value) (es : List Entry) → lookup (view k) (pairs_view es) ≡ None
    → pairs_view (es ++ record { key = k; value = v } ∷ []) ≡ inserted (view k) (view v) (pairs_view es)
unfolding lookup inserted
inserted-absent k v [] e = refl
inserted-absent k v (x ∷ es) e =
    let p = not_found (has_key (view k) x) (view x.value) (lookup (view k) (pairs_view es)) e in
    rw p.0 (ap (pair (view x.key) (view x.value)) (inserted-absent k v es p.1))

-- ---- new keys

pub IsNew-lookup : (k : Amqp) (ps : Pairs) → lookup k ps ≡ None → IsNew k ps
unfolding lookup
IsNew-lookup k no_pairs e = tt
IsNew-lookup k (pair l w ps) e =
    let p = not_found (same l k) w (lookup k ps) e in
    ((λ h. true≢false (sym ((same_decides l k).1 (sym h)) ∙ p.0)), IsNew-lookup k ps p.1)

other : (l k : Amqp) → (k ≡ l → ⊥) → same l k ≡ false
other l k h = by_test (same l k) refl where
  by_test : (b : Bool) → same l k ≡ b → same l k ≡ false
  by_test true e = absurd (h (sym ((same_decides l k).0 e)))
  by_test false e = e

pub lookup-IsNew : (k : Amqp) (ps : Pairs) → IsNew k ps → lookup k ps ≡ None
unfolding lookup
lookup-IsNew k no_pairs h = refl
lookup-IsNew k (pair l w ps) h = rw (other l k h.0) (lookup-IsNew k ps h.1)

pub some_is_not_new : (k v : Amqp) (ps : Pairs) → lookup k ps ≡ Some v → IsNew k ps → ⊥
some_is_not_new k v ps e h = none-some v (sym (lookup-IsNew k ps h) ∙ e)

-- ---- distinct keys stay distinct

still_new : (j k v : Amqp) (ps : Pairs) → IsNew j ps → (j ≡ k → ⊥) → IsNew j (inserted k v ps)
unfolding inserted
still_new j k v no_pairs h g = (g, tt)
still_new j k v (pair l w ps) h g = by_test (same l k) (still_new j k v ps h.1 g) where
  by_test : (b : Bool) → IsNew j (inserted k v ps) → IsNew j (cond b (pair l v ps) (pair l w (inserted k v ps)))
  by_test true r = (h.0, h.1)
  by_test false r = (h.0, r)

pub HasDistinctKeys-inserted : (k v : Amqp) (ps : Pairs) → HasDistinctKeys ps → HasDistinctKeys (inserted k v ps)
unfolding inserted
HasDistinctKeys-inserted k v no_pairs h = (tt, tt)
HasDistinctKeys-inserted k v (pair l w ps) h = by_test (same l k) refl (HasDistinctKeys-inserted k v ps h.1) where
  by_test : (b : Bool) → same l k ≡ b → HasDistinctKeys (inserted k v ps) → HasDistinctKeys (cond b (pair l v ps) (pair l w (inserted k v ps)))
  by_test true e r = (h.0, h.1)
  by_test false e r = (still_new l k v ps h.0 (λ g. true≢false (sym ((same_decides l k).1 g) ∙ e)), r)

pub HasDistinctKeys-along : (k v : Amqp) (ps qs : Pairs) → qs ≡ inserted k v ps → HasDistinctKeys ps → HasDistinctKeys qs
HasDistinctKeys-along k v ps qs e h = subst HasDistinctKeys (sym e) (HasDistinctKeys-inserted k v ps h)

-- ---- the two ways to insert

-- a place among the entries, lent or owned
pub place_is : (k : Amqp) (es lent : List Entry) (r place : Option ℕ) → lent ≡ es → r ≡ position (has_key k) lent → r ≡ place → position (has_key k) es ≡ place
place_is k es lent r place same_entries found is = ap (position (has_key k)) (sym same_entries) ∙ sym found ∙ is

-- the entry at the key's place has another value
pub replaced : (k v x : Value) (es : List Entry) (ps : Pairs) (i : ℕ) (e : Entry) → position (has_key (view k)) es ≡ Some i → e ≡ get_or es i e → x ≡ v → pairs_view es ≡ ps
    → pairs_view (set es i (record { key = e.key; value = x })) ≡ inserted (view k) (view v) ps
replaced k v x es ps i e at here same_value same_pairs =
    ap (λ (z : Entry). pairs_view (set es i (record { key = z.key; value = x }))) here
    ∙ inserted-place (view k) x es i e at
    ∙ ap₂ (λ (z : Value) (qs : Pairs). inserted (view k) (view z) qs) same_value same_pairs

-- an entry more at the end
pub added : (k v : Value) (es new : List Entry) (ps : Pairs) → position (has_key (view k)) es ≡ None → new ≡ es ++ record { key = k; value = v } ∷ [] → pairs_view es ≡ ps
    → pairs_view new ≡ inserted (view k) (view v) ps
added k v es new ps none e same_pairs = ap pairs_view e ∙ inserted-absent k v es (lookup-no_place (view k) es none) ∙ ap (inserted (view k) (view v)) same_pairs

-- ---- what is at a key after an insertion

same_self : (k : Amqp) → same k k ≡ true
same_self k = (same_decides k k).1 refl

pub lookup-inserted : (k v : Amqp) (ps : Pairs) → lookup k (inserted k v ps) ≡ Some v
unfolding lookup inserted
lookup-inserted k v no_pairs = rw (same_self k) refl
lookup-inserted k v (pair l w ps) = by_test (same l k) refl (lookup-inserted k v ps) where
  by_test : (b : Bool) → same l k ≡ b → lookup k (inserted k v ps) ≡ Some v → lookup k (cond b (pair l v ps) (pair l w (inserted k v ps))) ≡ Some v
  by_test true e r = rw e refl
  by_test false e r = rw e r

pub lookup-inserted_other : (j k v : Amqp) (ps : Pairs) → j ≢ k → lookup j (inserted k v ps) ≡ lookup j ps
unfolding lookup inserted
lookup-inserted_other j k v no_pairs h = rw (other k j h) refl
lookup-inserted_other j k v (pair l w ps) h = by_test (same l k) refl (lookup-inserted_other j k v ps h) where
  by_test : (b : Bool) → same l k ≡ b → lookup j (inserted k v ps) ≡ lookup j ps
      → lookup j (cond b (pair l v ps) (pair l w (inserted k v ps))) ≡ cond (same l j) (Some w) (lookup j ps)
  by_test true e r = rw (other l j (λ g. h (g ∙ (same_decides l k).0 e))) refl
  by_test false e r = ap (cond (same l j) (Some w)) r

pub found_along : (k v : Amqp) (ps qs : Pairs) → qs ≡ inserted k v ps → lookup k qs ≡ Some v
found_along k v ps qs e = ap (lookup k) e ∙ lookup-inserted k v ps

pub others_along : (k v : Amqp) (ps qs : Pairs) → qs ≡ inserted k v ps → (j : Amqp) → j ≢ k → lookup j qs ≡ lookup j ps
others_along k v ps qs e j h = ap (lookup j) e ∙ lookup-inserted_other j k v ps h
