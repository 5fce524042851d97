-- The test of the sizes of a message tells whether it has canonical bytes, and so which text it has.
use Rattle.std.proofs.Common.{◌≡◌, ℕ, List, true, false, codes, refl}
use Rattle.std.proofs.lemmas.Bool.{and_from, and_parts, le-leb, leb-true, ltb-true, false_from_ne_true}
use Rattle.amqp_data.specs.Data.{Scalar, binary, string, symbol, Amqp, Items, Pairs, scalar, list, dict, array, described, no_items, item, no_pairs, pair}
use Rattle.amqp_value.specs.Canonical.{canonical_items, IsScalarSized, IsSized, AreSized, ArePairsSized}
use Rattle.amqp_messages.specs.Writing.{AllFit}
use Rattle.amqp_script.specs.Hex.{bytes_text}
use Rattle.amqp_script.specs.Info.{is_scalar_sized, is_sized, are_sized, are_pairs_sized}
use Rattle.amqp_script.proofs.Sized.{sized_test}
use Rattle.amqp_link_script.specs.Answers.{do_fit, items_text}

scalar_room : (s : Scalar) → is_scalar_sized s ≡ true → IsScalarSized s
scalar_room (binary s) e = ltb-true _ _ e
scalar_room (string s) e = ltb-true _ _ e
scalar_room (symbol s) e = ltb-true _ _ e
scalar_room s e = tt

mutual
  unfolding IsSized is_sized

  sized_room : (v : Amqp) → is_sized v ≡ true → IsSized v
  sized_room (scalar s) e = scalar_room s e
  sized_room (list vs) e = let b = and_parts _ _ e in (items_room vs b.0, ltb-true _ _ b.1)
  sized_room (dict ps) e = let b = and_parts _ _ e in (pairs_room ps b.0, ltb-true _ _ b.1)
  sized_room (array k vs) e = let b = and_parts _ _ e in (items_room vs b.0, ltb-true _ _ b.1)
  sized_room (described d v) e = let b = and_parts _ _ e in (sized_room d b.0, sized_room v b.1)

  items_room : (vs : Items) → are_sized vs ≡ true → AreSized vs
  items_room no_items e = tt
  items_room (item v vs) e = let b = and_parts _ _ e in (sized_room v b.0, items_room vs b.1)

  pairs_room : (ps : Pairs) → are_pairs_sized ps ≡ true → ArePairsSized ps
  pairs_room no_pairs e = tt
  pairs_room (pair k v ps) e =
      let b = and_parts _ _ e in
      let c = and_parts _ _ b.0 in
      (sized_room k c.0, sized_room v c.1, pairs_room ps b.1)

items_test : (vs : Items) → AreSized vs → are_sized vs ≡ true
unfolding IsSized is_sized
items_test no_items h = refl
items_test (item v vs) h = and_from _ _ (sized_test v h.0) (items_test vs h.1)

-- a message that was written
pub text_fits : (items : Items) (bytes : List ℕ) → (bytes ≡ canonical_items items) × AllFit items → items_text items ≡ bytes_text bytes
text_fits items bytes h =
    let test : do_fit items ≡ true = and_from _ _ (items_test items h.1.sized) (le-leb _ _ h.1.nests) in
    rw (test, h.0) refl

-- one that has no canonical bytes
pub text_long : (items : Items) → (AllFit items → ⊥) → items_text items ≡ codes "long"
text_long items none =
    let test : do_fit items ≡ false =
    false_from_ne_true (do_fit items) (λ e. let parts = and_parts _ _ e in none (record { sized = items_room items parts.0; nests = leb-true _ _ parts.1 })) in
    rw test refl
