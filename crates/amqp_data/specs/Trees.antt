-- A value as a list of marks, by which proofs tell values apart, and how large a value is.
use Rattle.std.specs.Prelude.{◌≡◌, ℕ, zero, suc, ◌+◌, ◌≤◌, ◌<◌, List, [], ◌∷◌, refl}
use Rattle.std.proofs.Common.{ap, arith}
use Rattle.amqp_data.specs.declared.kind.ElementKind.{ElementKind}
use Rattle.amqp_data.specs.declared.kind.ElementKind.TheVariants as k
use Rattle.amqp_data.specs.Data.{Amqp, Items, Pairs, Scalar, null, scalar, list, dict, array, described, no_items, item, no_pairs, pair}

abbrev mutual
  pub weight : Amqp → ℕ
  weight (scalar s) = 1
  weight (list vs) = suc (items_weight vs)
  weight (dict ps) = suc (pairs_weight ps)
  weight (array k vs) = suc (items_weight vs)
  weight (described d v) = suc (weight d + weight v)

  pub items_weight : Items → ℕ
  items_weight no_items = 1
  items_weight (item v vs) = suc (weight v + items_weight vs)

  pub pairs_weight : Pairs → ℕ
  pairs_weight no_pairs = 1
  pairs_weight (pair k v ps) = suc (weight k + weight v + pairs_weight ps)

pub data Mark : Type 0 where
  a_scalar : Scalar → Mark
  a_list : Mark
  a_dict : Mark
  a_array : ElementKind → Mark
  a_described : Mark
  one_more : Mark
  no_more : Mark

abbrev mutual
  pub marks : Amqp → List Mark → List Mark
  marks (scalar s) r = a_scalar s ∷ r
  marks (list vs) r = a_list ∷ items_marks vs r
  marks (dict ps) r = a_dict ∷ pairs_marks ps r
  marks (array k vs) r = a_array k ∷ items_marks vs r
  marks (described d v) r = a_described ∷ marks d (marks v r)

  pub items_marks : Items → List Mark → List Mark
  items_marks no_items r = no_more ∷ r
  items_marks (item v vs) r = one_more ∷ marks v (items_marks vs r)

  pub pairs_marks : Pairs → List Mark → List Mark
  pairs_marks no_pairs r = no_more ∷ r
  pairs_marks (pair k v ps) r = one_more ∷ marks k (marks v (pairs_marks ps r))

abbrev mutual
  pub of_marks : ℕ → List Mark → Amqp × List Mark
  of_marks zero r = (scalar null, r)
  of_marks (suc n) [] = (scalar null, [])
  of_marks (suc n) (a_scalar s ∷ r) = (scalar s, r)
  of_marks (suc n) (a_list ∷ r) = let p = items_of_marks n r in (list p.0, p.1)
  of_marks (suc n) (a_dict ∷ r) = let p = pairs_of_marks n r in (dict p.0, p.1)
  of_marks (suc n) (a_array k ∷ r) = let p = items_of_marks n r in (array k p.0, p.1)
  of_marks (suc n) (a_described ∷ r) = let p = of_marks n r in let q = of_marks n p.1 in (described p.0 q.0, q.1)
  of_marks (suc n) (one_more ∷ r) = (scalar null, r)
  of_marks (suc n) (no_more ∷ r) = (scalar null, r)

  pub items_of_marks : ℕ → List Mark → Items × List Mark
  items_of_marks zero r = (no_items, r)
  items_of_marks (suc n) [] = (no_items, [])
  items_of_marks (suc n) (one_more ∷ r) = let p = of_marks n r in let q = items_of_marks n p.1 in (item p.0 q.0, q.1)
  items_of_marks (suc n) (m ∷ r) = (no_items, r)

  pub pairs_of_marks : ℕ → List Mark → Pairs × List Mark
  pairs_of_marks zero r = (no_pairs, r)
  pairs_of_marks (suc n) [] = (no_pairs, [])
  pairs_of_marks (suc n) (one_more ∷ r) = let p = of_marks n r in let q = of_marks n p.1 in let s = pairs_of_marks n q.1 in (pair p.0 q.0 s.0, s.1)
  pairs_of_marks (suc n) (m ∷ r) = (no_pairs, r)

pub weight_pos : (v : Amqp) → 0 < weight v
weight_pos (scalar s) = omega arith
weight_pos (list vs) = omega arith
weight_pos (dict ps) = omega arith
weight_pos (array k vs) = omega arith
weight_pos (described d v) = omega arith

items_pos : (vs : Items) → 0 < items_weight vs
items_pos no_items = omega arith
items_pos (item v vs) = omega arith

pairs_pos : (ps : Pairs) → 0 < pairs_weight ps
pairs_pos no_pairs = omega arith
pairs_pos (pair k v ps) = omega arith

mutual
  pub back : (n : ℕ) (v : Amqp) (r : List Mark) → weight v ≤ n → of_marks n (marks v r) ≡ (v, r)
  back zero v r le = absurd (omega (arith, weight_pos v, le))
  back (suc n) (scalar s) r le = refl
  back (suc n) (list vs) r le = rw (items_back n vs r (omega (arith, le))) refl
  back (suc n) (dict ps) r le = rw (pairs_back n ps r (omega (arith, le))) refl
  back (suc n) (array k vs) r le = rw (items_back n vs r (omega (arith, le))) refl
  back (suc n) (described d v) r le = rw (back n d (marks v r) (omega (arith, le, weight_pos v)), back n v r (omega (arith, le, weight_pos d))) refl

  pub items_back : (n : ℕ) (vs : Items) (r : List Mark) → items_weight vs ≤ n → items_of_marks n (items_marks vs r) ≡ (vs, r)
  items_back zero vs r le = absurd (omega (arith, items_pos vs, le))
  items_back (suc n) no_items r le = refl
  items_back (suc n) (item v vs) r le = rw (back n v (items_marks vs r) (omega (arith, le)), items_back n vs r (omega (arith, le))) refl

  pub pairs_back : (n : ℕ) (ps : Pairs) (r : List Mark) → pairs_weight ps ≤ n → pairs_of_marks n (pairs_marks ps r) ≡ (ps, r)
  pairs_back zero ps r le = absurd (omega (arith, pairs_pos ps, le))
  pairs_back (suc n) no_pairs r le = refl
  pairs_back (suc n) (pair k v ps) r le =
      rw (back n k (marks v (pairs_marks ps r)) (omega (arith, le)), back n v (pairs_marks ps r) (omega (arith, le)), pairs_back n ps r (omega (arith, le))) refl

abbrev pub items_at : ℕ × List Mark → Items
items_at p = (items_of_marks p.0 p.1).0

abbrev pub pairs_at : ℕ × List Mark → Pairs
pairs_at p = (pairs_of_marks p.0 p.1).0

abbrev pub parts_at : ℕ × List Mark → Amqp × Amqp
parts_at p = let d = of_marks p.0 p.1 in (d.0, (of_marks p.0 d.1).0)

pub items_code_back : (v : Items) → items_at (items_weight v, items_marks v []) ≡ v
items_code_back v = ap (λ (q : Items × List Mark). q.0) (items_back (items_weight v) v [] (omega arith))

pub pairs_code_back : (v : Pairs) → pairs_at (pairs_weight v, pairs_marks v []) ≡ v
pairs_code_back v = ap (λ (q : Pairs × List Mark). q.0) (pairs_back (pairs_weight v) v [] (omega arith))

pub parts_code_back : (d : Amqp × Amqp) → parts_at (weight d.0 + weight d.1, marks d.0 (marks d.1 [])) ≡ d
parts_code_back d = rw (back (weight d.0 + weight d.1) d.0 (marks d.1 []) (omega arith), back (weight d.0 + weight d.1) d.1 [] (omega arith)) refl

abbrev array_parts : Amqp → ElementKind × Items
array_parts (array k vs) = (k, vs)
array_parts v = (k.Bool, no_items)

abbrev pub array_at : ℕ × List Mark → ElementKind × Items
array_at p = array_parts (of_marks p.0 p.1).0

pub array_code_back : (a : ElementKind × Items) → array_at (suc (items_weight a.1), a_array a.0 ∷ items_marks a.1 []) ≡ a
array_code_back a = rw (items_back (items_weight a.1) a.1 [] (omega arith)) refl
