-- The test of sizes tells whether each length has room, and so which text a value has.
use Rattle.std.proofs.Common.{◌≡◌, ℕ, ◌≤◌, List, [], true, false, codes, refl}
use Rattle.std.proofs.lemmas.Bool.{and_from, and_parts, lt-ltb, le-ltb, ltb-true, false_from_ne_true}
use Rattle.amqp_data.specs.Data.{Scalar, binary, string, symbol, Amqp, Items, Pairs, scalar, list, dict, array, described, no_items, item, no_pairs, pair, depth}
use Rattle.amqp_value.specs.Canonical.{IsScalarSized, IsSized, AreSized, ArePairsSized}
use Rattle.amqp_value.specs.Writing.{Wrote}
use Rattle.amqp_script.specs.Hex.{bytes_text}
use Rattle.amqp_script.specs.Info.{is_scalar_sized, is_sized, are_sized, are_pairs_sized, value_text}

scalar_test : (s : Scalar) → IsScalarSized s → is_scalar_sized s ≡ true
scalar_test (binary s) h = lt-ltb _ _ h
scalar_test (string s) h = lt-ltb _ _ h
scalar_test (symbol s) h = lt-ltb _ _ h
scalar_test s h = refl

scalar_room : (s : Scalar) → is_scalar_sized s ≡ true → IsScalarSized s
scalar_room (binary s) e = ltb-true _ _ e
scalar_room (string s) e = ltb-true _ _ e
scalar_room (symbol s) e = ltb-true _ _ e
scalar_room s e = tt

mutual
  unfolding IsSized is_sized

  -- each length has room, so the test passes
  pub sized_test : (v : Amqp) → IsSized v → is_sized v ≡ true
  sized_test (scalar s) h = scalar_test s h
  sized_test (list vs) h = and_from _ _ (items_test vs h.0) (lt-ltb _ _ h.1)
  sized_test (dict ps) h = and_from _ _ (pairs_test ps h.0) (lt-ltb _ _ h.1)
  sized_test (array k vs) h = and_from _ _ (items_test vs h.0) (lt-ltb _ _ h.1)
  sized_test (described d v) h = and_from _ _ (sized_test d h.0) (sized_test v h.1)

  items_test : (vs : Items) → AreSized vs → are_sized vs ≡ true
  items_test no_items h = refl
  items_test (item v vs) h = and_from _ _ (sized_test v h.0) (items_test vs h.1)

  pairs_test : (ps : Pairs) → ArePairsSized ps → are_pairs_sized ps ≡ true
  pairs_test no_pairs h = refl
  pairs_test (pair k v ps) h = and_from _ _ (and_from _ _ (sized_test k h.0) (sized_test v h.1)) (pairs_test ps h.2)

mutual
  unfolding IsSized is_sized

  sized_room : (v : Amqp) → is_sized v ≡ true → IsSized v
  sized_room (scalar s) e = scalar_room s e
  sized_room (list vs) e = let b = and_parts _ _ e in (items_room vs b.0, ltb-true _ _ b.1)
  sized_room (dict ps) e = let b = and_parts _ _ e in (pairs_room ps b.0, ltb-true _ _ b.1)
  sized_room (array k vs) e = let b = and_parts _ _ e in (items_room vs b.0, ltb-true _ _ b.1)
  sized_room (described d v) e = let b = and_parts _ _ e in (sized_room d b.0, sized_room v b.1)

  items_room : (vs : Items) → are_sized vs ≡ true → AreSized vs
  items_room no_items e = tt
  items_room (item v vs) e = let b = and_parts _ _ e in (sized_room v b.0, items_room vs b.1)

  pairs_room : (ps : Pairs) → are_pairs_sized ps ≡ true → ArePairsSized ps
  pairs_room no_pairs e = tt
  pairs_room (pair k v ps) e =
      let b = and_parts _ _ e in
      let c = and_parts _ _ b.0 in
      (sized_room k c.0, sized_room v c.1, pairs_room ps b.1)

-- some length has no room, so the test does not pass
pub unsized_test : (v : Amqp) → (IsSized v → ⊥) → is_sized v ≡ false
unsized_test v h = false_from_ne_true (is_sized v) (λ e. h (sized_room v e))

-- a value that was written
pub text_written : (v : Amqp) (old new : List ℕ) → old ≡ [] → Wrote old new v × IsSized v × (depth v ≤ 32) → value_text v ≡ bytes_text new
text_written v old new none h = rw (le-ltb 32 (depth v) h.2, sized_test v h.1, h.0.bytes, none) refl

-- one with a length that has no room
pub text_long : (v : Amqp) → depth v ≤ 32 → (IsSized v → ⊥) → value_text v ≡ codes "long"
text_long v nests h = rw (le-ltb 32 (depth v) nests, unsized_test v h) refl
