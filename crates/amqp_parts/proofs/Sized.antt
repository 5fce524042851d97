-- Whether each length of a value has room, as a test and as a fact.
use Rattle.std.proofs.Common.{◌≡◌, ◌<◌, ◌^◌, ◌*◌, ℕ, nat_le, true, false, Bool, List, length, refl, arith}
use Rattle.std.specs.Prelude.{◌&&◌}
use Rattle.std.specs.Cmp.Derive.{both_true}
use Rattle.std.proofs.lemmas.Bool.{ltb-true, leb-true}
use Rattle.std.proofs.lemmas.Bool.Decides.{nat_tests}
use Rattle.amqp_data.specs.Data.{Scalar, null, boolean, ubyte, ushort, uint, ulong, byte, short, int, long, char, timestamp, uuid, binary, string, symbol, Amqp, Items, Pairs, scalar, list, dict, array, described, no_items, item, no_pairs, pair, count, pair_count, depth}
use Rattle.amqp_described.specs.amqp_value.declared.code.SizeWidth.TheVariants.{Four}
use Rattle.amqp_described.specs.amqp_value.Code.{content}
use Rattle.amqp_described.specs.amqp_value.Canonical.{canonical_items, canonical_pairs, array_items, IsScalarSized, IsSized, AreSized, ArePairsSized}
use Rattle.amqp_described.specs.Writing.{Fits}
use Rattle.amqp_parts.specs.Cut.{has_length, is_scalar_sized, is_sized, are_sized, are_pairs_sized}

pub first_of : (a b : Bool) → (a && b) ≡ true → a ≡ true
first_of true b h = refl
first_of false b h = h

pub second_of : (a b : Bool) → (a && b) ≡ true → b ≡ true
second_of true b h = h
second_of false b h = cc

is_short : (s : List ℕ) → has_length s ≡ true → length s < 2 ^ 32
is_short s h = ltb-true (length s) (2 ^ 32) h

has : (s : List ℕ) → length s < 2 ^ 32 → has_length s ≡ true
has s h = grind (arith, nat_tests)

scalar_when : (s : Scalar) → is_scalar_sized s ≡ true → IsScalarSized s
scalar_when null h = tt
scalar_when (boolean b) h = tt
scalar_when (ubyte n) h = tt
scalar_when (ushort n) h = tt
scalar_when (uint n) h = tt
scalar_when (ulong n) h = tt
scalar_when (byte n) h = tt
scalar_when (short n) h = tt
scalar_when (int n) h = tt
scalar_when (long n) h = tt
scalar_when (char n) h = tt
scalar_when (timestamp n) h = tt
scalar_when (uuid u) h = tt
scalar_when (binary s) h = is_short s h
scalar_when (string s) h = is_short s h
scalar_when (symbol s) h = is_short s h

is_scalar : (s : Scalar) → IsScalarSized s → is_scalar_sized s ≡ true
is_scalar null h = refl
is_scalar (boolean b) h = refl
is_scalar (ubyte n) h = refl
is_scalar (ushort n) h = refl
is_scalar (uint n) h = refl
is_scalar (ulong n) h = refl
is_scalar (byte n) h = refl
is_scalar (short n) h = refl
is_scalar (int n) h = refl
is_scalar (long n) h = refl
is_scalar (char n) h = refl
is_scalar (timestamp n) h = refl
is_scalar (uuid u) h = refl
is_scalar (binary s) h = has s h
is_scalar (string s) h = has s h
is_scalar (symbol s) h = has s h

mutual
  unfolding is_sized IsSized

  pub sized_when : (v : Amqp) → is_sized v ≡ true → IsSized v
  sized_when (scalar s) h = scalar_when s h
  sized_when (list vs) h = (items_when vs (first_of (are_sized vs) _ h), is_short (content Four (count vs) (canonical_items vs)) (second_of (are_sized vs) _ h))
  sized_when (dict ps) h = (pairs_when ps (first_of (are_pairs_sized ps) _ h), is_short (content Four (2 * pair_count ps) (canonical_pairs ps)) (second_of (are_pairs_sized ps) _ h))
  sized_when (array k vs) h = (items_when vs (first_of (are_sized vs) _ h), is_short (content Four (count vs) (array_items k vs)) (second_of (are_sized vs) _ h))
  sized_when (described d v) h = (sized_when d (first_of (is_sized d) (is_sized v) h), sized_when v (second_of (is_sized d) (is_sized v) h))

  pub items_when : (vs : Items) → are_sized vs ≡ true → AreSized vs
  items_when no_items h = tt
  items_when (item v vs) h = (sized_when v (first_of (is_sized v) (are_sized vs) h), items_when vs (second_of (is_sized v) (are_sized vs) h))

  pub pairs_when : (ps : Pairs) → are_pairs_sized ps ≡ true → ArePairsSized ps
  pairs_when no_pairs h = tt
  pairs_when (pair k v ps) h =
      let kv = first_of (is_sized k && is_sized v) (are_pairs_sized ps) h in
      (sized_when k (first_of (is_sized k) (is_sized v) kv), sized_when v (second_of (is_sized k) (is_sized v) kv), pairs_when ps (second_of (is_sized k && is_sized v) (are_pairs_sized ps) h))

mutual
  unfolding is_sized IsSized

  pub is_sized_of : (v : Amqp) → IsSized v → is_sized v ≡ true
  is_sized_of (scalar s) h = is_scalar s h
  is_sized_of (list vs) h = both_true (are_sized_of vs h.0) (has (content Four (count vs) (canonical_items vs)) h.1)
  is_sized_of (dict ps) h = both_true (are_pairs_sized_of ps h.0) (has (content Four (2 * pair_count ps) (canonical_pairs ps)) h.1)
  is_sized_of (array k vs) h = both_true (are_sized_of vs h.0) (has (content Four (count vs) (array_items k vs)) h.1)
  is_sized_of (described d v) h = both_true (is_sized_of d h.0) (is_sized_of v h.1)

  pub are_sized_of : (vs : Items) → AreSized vs → are_sized vs ≡ true
  are_sized_of no_items h = refl
  are_sized_of (item v vs) h = both_true (is_sized_of v h.0) (are_sized_of vs h.1)

  pub are_pairs_sized_of : (ps : Pairs) → ArePairsSized ps → are_pairs_sized ps ≡ true
  are_pairs_sized_of no_pairs h = refl
  are_pairs_sized_of (pair k v ps) h = both_true (both_true (is_sized_of k h.0) (is_sized_of v h.1)) (are_pairs_sized_of ps h.2)

-- whether a value fits, as a test and as a fact
pub fits_when : (v : Amqp) → (is_sized v && nat_le (depth v) 34) ≡ true → Fits 34 v
fits_when v h = record { sized = sized_when v (first_of (is_sized v) (nat_le (depth v) 34) h); nests = leb-true (depth v) 34 (second_of (is_sized v) (nat_le (depth v) 34) h) }

pub is_fitting : (v : Amqp) → Fits 34 v → (is_sized v && nat_le (depth v) 34) ≡ true
is_fitting v h = both_true (is_sized_of v h.sized) (grind (arith, nat_tests))
